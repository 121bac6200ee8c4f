use Rattle.std.proofs.Common.{List, ℕ, take, sym, subst, string_bytes}
use Rattle.std.proofs.lemmas.Result.{IfErr-at_err, IfOk-at_ok}
use Rattle.dia_run.specs.Texts.{IsMessageText, IsNoMessageText}
use Rattle.dia_mask.specs.Runs.{words_of}
use Rattle.dia_mask_text.specs.declared.spelling.Unread.{Unread}
use Rattle.dia_mask_text.specs.Lines.{why}
use Rattle.dia_mask_text.proofs.Unread.{message_said, on_ok_both, unread_said}
use Rattle.dia_mask_text.proofs.answering.State.answer.Goals as goal

pub returns-in-Ok-clause-line : goal.returns-in-Ok-clause-line
returns-in-Ok-clause-line g c =
    let line = c.args.line.now in
    let spelled = IfOk-at_ok (λ (n : ℕ). IsMessageText line (take n c.spell_line.new.space.items)) c.in-Ok.is c.in_ok-spelled.ensures.message in
    on_ok_both c.mask.result (λ m same. message_said c.args.manner.now.choice (g.B.Book.meaning c.args.manner.now.book.now) line (string_bytes c.args.text.now)
    (string_bytes c.mask.new.text) (words_of c.mask.new.self.run) (take c.in-Ok.count c.deref.result.now) c.args.self.now.unread c.mask.new.self.unread
    (subst (λ (xs : List ℕ). IsMessageText line (take c.in-Ok.count xs)) (sym c.deref.ensures.value) spelled) m same) c.mask.ensures.message c.mask.ensures.unread

pub returns-in-Err-clause-line : goal.returns-in-Err-clause-line
returns-in-Err-clause-line g c =
    let line = c.args.line.now in
    let none = IfErr-at_err (λ (u : Unread). IsNoMessageText line (why u)) c.in-Err.is c.in_ok-spelled.ensures.unread in
    on_ok_both c.refuse.result (λ added some words grows. unread_said c.args.manner.now.choice (g.B.Book.meaning c.args.manner.now.book.now) line (string_bytes c.args.text.now)
    (string_bytes c.refuse.new.text) c.in-Err.unread c.args.self.now.unread c.refuse.new.self.unread none added some words) c.refuse.ensures.line c.refuse.ensures.unread
