use Rattle.dia_make.proofs.Answers.{refused_by, recorded_refused, recorded_other}
use Rattle.dia_make.proofs.command.answer.Goals as goal

pub returns-in-Err-Bad-clause-outcome : goal.returns-in-Err-Bad-clause-outcome
returns-in-Err-Bad-clause-outcome c = refused_by c.args.values c.args.inputs.now _ _ (rw c.in-Err-Bad.field-0-is at c.in-Err-Bad.ensures.recorded) c.refuse.ensures.text c.refuse.ensures.exit

pub returns-in-Err-Bad-clause-report : goal.returns-in-Err-Bad-clause-report
returns-in-Err-Bad-clause-report c = recorded_refused _ _ c.refuse.ensures.text c.refuse.ensures.exit c.refuse.ensures.report

pub returns-in-Err-Bad-clause-read : goal.returns-in-Err-Bad-clause-read
returns-in-Err-Bad-clause-read c = recorded_other _ c.args.inputs.now _ _ c.refuse.ensures.report
