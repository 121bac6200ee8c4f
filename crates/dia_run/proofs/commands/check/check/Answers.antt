use Rattle.std.proofs.Common.{subst}
use Rattle.std.proofs.lemmas.Result.{err_from_is_err_and}
use Rattle.dia_check.specs.Faults.{IsAnswer}
use Rattle.dia_run.specs.Outcome.{IsJudged, ended}
use Rattle.dia_run.proofs.FedTexts.{names_command}
use Rattle.dia_run.proofs.RefusedInputs.{Ends-no_dictionary, Ends-no_message}
use Rattle.dia_run.proofs.commands.check.check.Goals as goal

pub returns-in_err-first-clause-outcome : goal.returns-in_err-first-clause-outcome
returns-in_err-first-clause-outcome c =
    let p = err_from_is_err_and c.from_residual.result c.from_residual.ensures.1 in
    rw (p.1, p.2) (Ends-no_dictionary (IsJudged c.args.unknown c.args.levels) c.args.inputs.now _ c.in_err-first.ensures.recorded)

pub returns-in_err-message-clause-outcome : goal.returns-in_err-message-clause-outcome
returns-in_err-message-clause-outcome c =
    let p = err_from_is_err_and c.from_residual-in_err-message.result c.from_residual-in_err-message.ensures.1 in
    rw (p.1, p.2) (Ends-no_message (IsJudged c.args.unknown c.args.levels) c.args.inputs.now _ _ c.in_ok-first.ensures.book c.in_err-message.ensures.recorded)

pub verdict-requires-clause-def : goal.verdict-requires-clause-def
verdict-requires-clause-def c =
    rw (c.deref-2.ensures) (names_command _ c.args.unknown c.args.levels _ _ (rw c.deref.ensures at c.in_ok-message.ensures.answer))

pub verdict-requires-clause-live : goal.verdict-requires-clause-live
verdict-requires-clause-live c spent =
    subst (IsAnswer _ c.args.unknown c.args.levels c.in_ok-message.field-0.bytes.items) spent c.in_ok-message.ensures.answer

pub returns-in_default-clause-outcome : goal.returns-in_default-clause-outcome
returns-in_default-clause-outcome c =
    ended _ _ c.in_ok-first.ensures.book c.in_ok-message.ensures.message
    (_, (rw c.deref.ensures at c.in_ok-message.ensures.answer), (rw c.deref-2.ensures at c.in_ok-text.ensures))

pub returns-clause-outcome : goal.returns-clause-outcome
returns-clause-outcome c =
    ended _ _ c.in_ok-first.ensures.book c.in_ok-message.ensures.message
    (_, (rw c.deref.ensures at c.in_ok-message.ensures.answer), (rw c.deref-2.ensures at c.in_ok-text.ensures))
