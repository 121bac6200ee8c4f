use Rattle.dia_run.specs.Outcome.{IsOutcome}
use Rattle.dia_run.proofs.RefusedInputs.{answer_is, kind_is, report_is}
use Rattle.dia_run.proofs.running.answer.Goals as goal

pub returns-clause-outcome : goal.returns-clause-outcome
returns-clause-outcome c =
    answer_is (IsOutcome c.args.command.now c.args.inputs.now) _ _ c.answer_of.ensures.done c.answer_of.ensures.refused c.attempt.ensures.outcome

pub returns-clause-report : goal.returns-clause-report
returns-clause-report c = report_is _ c.args.inputs.now _ _ c.answer_of.ensures.done c.answer_of.ensures.refused c.attempt.ensures.report

pub returns-clause-kind : goal.returns-clause-kind
returns-clause-kind c = kind_is c.args.command.now _ _ c.answer_of.ensures.done c.answer_of.ensures.refused c.attempt.ensures.kind
