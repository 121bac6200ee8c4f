use Rattle.std.proofs.Common.{refl, arith}
use Rattle.std.proofs.lemmas.Result.{err_from_is_err_and}
use Rattle.dia_text.proofs.NoTexts.{bytes_from, no_message, no_level, text_of_parts}
use Rattle.dia_text.proofs.TextsBack.{text_back}
use Rattle.dia_text.proofs.writing.as_text.Goals as goal

pub returns-in_err-header-clause-refused : goal.returns-in_err-header-clause-refused
returns-in_err-header-clause-refused g c =
    let p = err_from_is_err_and c.from_residual.result c.from_residual.ensures.1 in
    rw (p.1, p.2) (no_message c.args.message.now _ _ refl c.in_err-header.ensures.short.0 c.in_err-header.ensures.version.0 c.in_err-header.ensures.length_fault.0
    c.in_err-header.ensures.truncated.0 c.in_err-header.ensures.trailing.0)

pub returns-in_err-push_level-clause-refused : goal.returns-in_err-push_level-clause-refused
returns-in_err-push_level-clause-refused g c =
    let p = err_from_is_err_and c.from_residual-in_err-push_level.result c.from_residual-in_err-push_level.ensures.1 in
    rw (p.1, p.2) (no_level c.args.message.now _ _ _ c.in_ok-header.ensures.head c.in_ok-header.ensures.long c.in_ok-header.ensures.body c.in_err-push_level.ensures.refused)

pub returns-clause-text : goal.returns-clause-text
returns-clause-text g c =
    text_of_parts _ _ _ _ _ _ _ c.in_ok-header.ensures.head c.in_ok-header.ensures.body c.new-text.ensures.bytes c.in_ok-push_header.ensures c.in_ok-push_level.ensures.lines

pub returns-clause-reads_back : goal.returns-clause-reads_back
returns-clause-reads_back g c =
    text_back _ _ _ (g.met.B.Book.sound c.args.book.now) (bytes_from c.args.message.now (λ k. omega (arith, c.type_inv.message k)))
    (text_of_parts _ _ _ _ _ _ _ c.in_ok-header.ensures.head c.in_ok-header.ensures.body c.new-text.ensures.bytes c.in_ok-push_header.ensures c.in_ok-push_level.ensures.lines)
