use Rattle.std.proofs.Common.{◌≡◌, ◌∙◌, sym, rules}
use Rattle.std.proofs.lemmas.Bool.{false≢true}
use Rattle.dia_c_calls.specs.Verdicts.{said}
use Rattle.dia_c_calls.specs.Words.{IsVerdictText}
use Rattle.dia_c_calls.proofs.NoLines.{no_name, no_text}
use Rattle.dia_c_calls.proofs.verdict_words.text_of.Goals as goal

pub returns-in-Some-clause-some : goal.returns-in-Some-clause-some
returns-in-Some-clause-some g c = IsVerdictText.fault c.in-Some.fault c.in-Some.ensures.some c.in_ok-fault_text.ensures

pub returns-in_ok-format-in-Some-command_name-clause-some : goal.returns-in_ok-format-in-Some-command_name-clause-some
returns-in_ok-format-in-Some-command_name-clause-some g c =
    let same : c.args.verdict.now ≡ said 0 c.args.verdict.now.command = search rules in
    IsVerdictText.valid c.in-Some-command_name.name.now same c.in-Some-command_name.ensures.command c.in-Some-command_name.ensures.some (search rules)

pub returns-in-None-clause-none : goal.returns-in-None-clause-none
returns-in-None-clause-none g c is text =
    no_text (g.B.Book.meaning c.args.book.now) c.args.verdict.now text (c.fault_of.ensures.none c.in_default.is)
    (λ e. false≢true (sym c.if-eq.false ∙ (rw e at c.eq.ensures))) (λ e. false≢true (sym c.if-eq-2.false ∙ (rw e at c.eq-2.ensures)))
    (λ name is within. no_name (g.B.Book.meaning c.args.book.now) c.args.verdict.now.command name (c.command_name.ensures.none c.in-None.is) within)
