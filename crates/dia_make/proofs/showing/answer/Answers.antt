use Rattle.std.proofs.lemmas.Result.{IfOk-weaker}
use Rattle.dia_make.specs.Shown.{IsShowTextOutcome}
use Rattle.dia_make.proofs.Answers.{recorded_refused}
use Rattle.dia_make.proofs.Shown.{refused_ends}
use Rattle.dia_make.proofs.showing.answer.Goals as goal

pub returns-in-Err-Bad-clause-outcome : goal.returns-in-Err-Bad-clause-outcome
returns-in-Err-Bad-clause-outcome c =
    refused_ends (IsShowTextOutcome c.args.inputs.now) _ _ (rw c.in-Err-Bad.field-0-is at c.in-Err-Bad.ensures.outcome) c.refuse.ensures.text c.refuse.ensures.exit

pub returns-in-Err-Bad-clause-report : goal.returns-in-Err-Bad-clause-report
returns-in-Err-Bad-clause-report c = recorded_refused _ _ c.refuse.ensures.text c.refuse.ensures.exit c.refuse.ensures.report

pub returns-in-Err-Bad-clause-shown : goal.returns-in-Err-Bad-clause-shown
returns-in-Err-Bad-clause-shown c = IfOk-weaker c.refuse.result _ _ (λ answered bad not. absurd (not bad)) c.refuse.ensures.exit
