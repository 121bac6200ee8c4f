use Rattle.std.proofs.Common.{Bool, subst}
use Rattle.std.proofs.lemmas.Result.{err_from_is_err_and}
use Rattle.dia_show.specs.Outcome.{Gives, IsNamedOutcome, no_values}
use Rattle.dia_show.proofs.Outcomes.{gives_no_dictionary}
use Rattle.dia_show.proofs.command.attempt.Goals as goal

pub returns-in_err-first-clause-outcome : goal.returns-in_err-first-clause-outcome
returns-in_err-first-clause-outcome c =
    let p = err_from_is_err_and c.from_residual.result c.from_residual.ensures.1 in
    rw (p.1, p.2) (gives_no_dictionary c.args.names c.args.inputs.now _ c.in_err-first.ensures.recorded)

pub returns-in_err-manner-clause-outcome : goal.returns-in_err-manner-clause-outcome
returns-in_err-manner-clause-outcome c = let p = err_from_is_err_and c.from_residual-in_err-manner.result c.from_residual-in_err-manner.ensures.1 in rw (p.1, p.2) tt

pub returns-in_err-no_values-in-Err-clause-outcome : goal.returns-in_err-no_values-in-Err-clause-outcome
returns-in_err-no_values-in-Err-clause-outcome c =
    let p = err_from_is_err_and c.from_residual-in_err-no_values-in-Err.result c.from_residual-in_err-no_values-in-Err.ensures.1 in rw (p.1, p.2) tt

pub returns-in_ok-no_values-in-Err-clause-outcome : goal.returns-in_ok-no_values-in-Err-clause-outcome
returns-in_ok-no_values-in-Err-clause-outcome c =
    no_values _ c.in-Err.bad c.in_ok-first.ensures.book (rw c.in-Err.is at c.in_ok-manner.ensures.bad) (c.in_ok-no_values-in-Err.ensures.text, c.in_ok-no_values-in-Err.ensures.exit)

pub returns-in-Ok-clause-outcome : goal.returns-in-Ok-clause-outcome
returns-in-Ok-clause-outcome c =
    let known = rw c.in-Ok.is at c.in_ok-manner.ensures.words in
    subst (λ (names : Bool). Gives (IsNamedOutcome names c.args.inputs.now) c.listed.result) (rw (← c.deref.ensures) at known.1)
    (c.listed.ensures.outcome (c.in_ok-first.ensures.source, c.in_ok-first.ensures.book) (rw (← c.deref.ensures) at known.0))
