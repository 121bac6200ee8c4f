use Rattle.std.proofs.Common.{◌<◌, length, map, refl, subst, sym, ◌∙◌, ℕ}
use Rattle.std.specs.Prelude.{All}
use Rattle.std.proofs.lemmas.Bool.{eqb-true}
use Rattle.std.proofs.lemmas.Result.{err_from_is_err_and}
use Rattle.dia_accepted.specs.Accepted.{plain_entry}
use Rattle.dia_upgrades.specs.declared.reporting.Findings.TheVariants.{NoCommand, NoCommands}
use Rattle.dia_upgrades.specs.Asking.{names_of}
use Rattle.dia_upgrades.specs.Outcome.{no_command, no_commands}
use Rattle.dia_upgrades.proofs.Answered.{no_items, none_answered, not_zero, refusal_answered, some_items}
use Rattle.dia_upgrades.proofs.AskedCommands.{asked_within}
use Rattle.dia_upgrades.proofs.judging.listed.Goals as goal

pub compared-requires-clause-places : goal.compared-requires-clause-places
compared-requires-clause-places g c =
    let da = g.A.Book.meaning c.args.a.now in
    let same = rw c.in-Ok.is at c.in_ok-commands.ensures.exact in
    rw c.as_slice.ensures.value (subst (All (λ (place : ℕ). place < length da.commands)) (sym same) (asked_within da (names_of c.args.asked)))

pub returns-in_err-text-clause-answers : goal.returns-in_err-text-clause-answers
returns-in_err-text-clause-answers g c = λ input is_list.
    let p = err_from_is_err_and c.from_residual.result c.from_residual.ensures.1 in
    rw (p.1, p.2) (none_answered (g.W.LineWriter.writes c.args.writer.now) c.args.asked input (g.A.Book.meaning c.args.a.now) (g.B.Book.meaning c.args.b.now) (g.S.Sink.written c.args.sink.now))

pub returns-then-has_no_commands-clause-answers : goal.returns-then-has_no_commands-clause-answers
returns-then-has_no_commands-clause-answers g c = λ input is_list.
    let da = g.A.Book.meaning c.args.a.now in
    let none = no_items da.commands (eqb-true (length da.commands) 0 (sym c.has_no_commands.ensures ∙ c.if-has_no_commands.true)) in
    refusal_answered (g.W.LineWriter.writes c.args.writer.now) c.args.asked input da (g.B.Book.meaning c.args.b.now) _ _ c.as_str.result.now NoCommands c.refused.result
    (no_commands (map plain_entry c.args.list.now) is_list none (c.as_str.ensures.value ∙ c.in_ok-text.ensures, refl) refl) c.refused.ensures.put c.refused.ensures.exit c.refused.ensures.found c.refused.ensures.fault c.refused.ensures.front

pub returns-in-Ok-clause-answers : goal.returns-in-Ok-clause-answers
returns-in-Ok-clause-answers g c = λ input is_list.
    let da = g.A.Book.meaning c.args.a.now in
    let known = rw c.in-Ok.is at c.in_ok-commands.ensures.known in
    let same = rw c.in-Ok.is at c.in_ok-commands.ensures.exact in
    let some = some_items da.commands (not_zero (length da.commands) (sym c.has_no_commands.ensures ∙ c.if-has_no_commands.false)) in
    c.compared.ensures.answers input is_list (record { some = some; known = known }) (c.as_slice.ensures.value ∙ same)

pub returns-in_err-text-in-Err-clause-answers : goal.returns-in_err-text-in-Err-clause-answers
returns-in_err-text-in-Err-clause-answers g c = λ input is_list.
    let p = err_from_is_err_and c.from_residual-in_err-text-in-Err.result c.from_residual-in_err-text-in-Err.ensures.1 in
    rw (p.1, p.2) (none_answered (g.W.LineWriter.writes c.args.writer.now) c.args.asked input (g.A.Book.meaning c.args.a.now) (g.B.Book.meaning c.args.b.now) (g.S.Sink.written c.args.sink.now))

pub returns-in_ok-text-in-Err-clause-answers : goal.returns-in_ok-text-in-Err-clause-answers
returns-in_ok-text-in-Err-clause-answers g c = λ input is_list.
    let da = g.A.Book.meaning c.args.a.now in
    let first = rw c.in-Err.is at c.in_ok-commands.ensures.unknown in
    let some = some_items da.commands (not_zero (length da.commands) (sym c.has_no_commands.ensures ∙ c.if-has_no_commands.false)) in
    refusal_answered (g.W.LineWriter.writes c.args.writer.now) c.args.asked input da (g.B.Book.meaning c.args.b.now) _ _ c.as_str-in-Err.result.now NoCommand c.refused-in-Err.result
    (no_command (map plain_entry c.args.list.now) c.in-Err.name.now is_list some first (c.as_str-in-Err.ensures.value ∙ c.in_ok-text-in-Err.ensures, refl) refl) c.refused-in-Err.ensures.put c.refused-in-Err.ensures.exit
    c.refused-in-Err.ensures.found c.refused-in-Err.ensures.fault c.refused-in-Err.ensures.front
