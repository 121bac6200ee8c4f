use Rattle.dia_make.proofs.Answers.{recorded_no_text, recorded_values, values_refused}
use Rattle.dia_make.proofs.command.answer_with_values.Goals as goal

pub returns-in-Err-clause-outcome : goal.returns-in-Err-clause-outcome
returns-in-Err-clause-outcome c =
    values_refused c.args.inputs.now _ c.in-Err.bad _ c.requires.1 (rw c.in-Err.is at c.in_ok-tables.ensures.bad) c.no_values.ensures.text c.no_values.ensures.exit

pub returns-in-Err-clause-report : goal.returns-in-Err-clause-report
returns-in-Err-clause-report c = recorded_values c.in-Err.bad _ c.no_values.ensures.text c.no_values.ensures.exit c.no_values.ensures.report

pub returns-in-Err-clause-read : goal.returns-in-Err-clause-read
returns-in-Err-clause-read c = recorded_no_text _ c.args.inputs.now c.in-Err.bad _ c.no_values.ensures.report
