use Rattle.dia_show.specs.Outcome.{IsNamedOutcome}
use Rattle.dia_show.proofs.Outcomes.{refused_ends, recorded_refused}
use Rattle.dia_show.proofs.command.answer.Goals as goal

pub returns-in-Err-Bad-clause-outcome : goal.returns-in-Err-Bad-clause-outcome
returns-in-Err-Bad-clause-outcome c =
    refused_ends (IsNamedOutcome c.args.names c.args.inputs.now) _ _ (rw c.in-Err-Bad.field-0-is at c.in-Err-Bad.ensures.outcome) c.refuse.ensures.text c.refuse.ensures.exit

pub returns-in-Err-Bad-clause-report : goal.returns-in-Err-Bad-clause-report
returns-in-Err-Bad-clause-report c = recorded_refused _ c.args.inputs.now _ _ c.refuse.ensures.text c.refuse.ensures.exit c.refuse.ensures.report
