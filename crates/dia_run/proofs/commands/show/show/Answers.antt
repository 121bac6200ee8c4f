use Rattle.std.proofs.lemmas.Result.{err_from_is_err_and}
use Rattle.dia_io.specs.declared.Exit.TheVariants.{Bad}
use Rattle.dia_run.specs.Texts.{line}
use Rattle.dia_run.specs.Outcome.{IsMessageShown, IsShowOutcome, ended}
use Rattle.dia_run.proofs.RefusedInputs.{RecordsOf-map, Ends-no_dictionary, Ends-no_message}
use Rattle.dia_run.proofs.commands.show.show.Goals as goal

pub returns-in_err-first-clause-outcome : goal.returns-in_err-first-clause-outcome
returns-in_err-first-clause-outcome c =
    let p = err_from_is_err_and c.from_residual.result c.from_residual.ensures.1 in
    rw (p.1, p.2) (Ends-no_dictionary IsMessageShown c.args.inputs.now _ c.in_err-first.ensures.recorded)

pub returns-in_err-message-clause-outcome : goal.returns-in_err-message-clause-outcome
returns-in_err-message-clause-outcome c =
    let p = err_from_is_err_and c.from_residual-in_err-message.result c.from_residual-in_err-message.ensures.1 in
    rw (p.1, p.2) (Ends-no_message IsMessageShown c.args.inputs.now _ _ c.in_ok-first.ensures.book c.in_err-message.ensures.recorded)

pub returns-in_err-text-clause-outcome : goal.returns-in_err-text-clause-outcome
returns-in_err-text-clause-outcome c =
    let p = err_from_is_err_and c.from_residual-in_err-text.result c.from_residual-in_err-text.ensures.1 in
    rw (p.1, p.2) (RecordsOf-map (λ recorded. IsMessageShown _ c.as_slice.result.now (line recorded) Bad) (λ recorded. IsShowOutcome c.args.inputs.now (line recorded) Bad) _
    (λ recorded shows. ended _ c.as_slice.result.now c.in_ok-first.ensures.book (rw c.as_slice.ensures.value c.in_ok-message.ensures.message) shows)
    (rw c.deref.ensures at c.in_err-text.ensures.outcome))

pub returns-in-Yes-clause-outcome : goal.returns-in-Yes-clause-outcome
returns-in-Yes-clause-outcome c =
    ended _ c.as_slice.result.now c.in_ok-first.ensures.book (rw c.as_slice.ensures.value c.in_ok-message.ensures.message) (rw c.deref.ensures at c.in_ok-text.ensures.outcome)

pub returns-clause-outcome : goal.returns-clause-outcome
returns-clause-outcome c =
    ended _ c.as_slice.result.now c.in_ok-first.ensures.book (rw c.as_slice.ensures.value c.in_ok-message.ensures.message) (rw c.deref.ensures at c.in_ok-text.ensures.outcome)
