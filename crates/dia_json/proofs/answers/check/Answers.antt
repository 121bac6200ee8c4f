use Rattle.std.proofs.Common.{inl, inr}
use Rattle.std.specs.Prelude.{string_bytes}
use Rattle.std.proofs.lemmas.Result.{IfOk-weaker}
use Rattle.dia_run.specs.RefusedDictionaries.{RefusesFirst}
use Rattle.dia_refused_json.proofs.Recording.{dictionary_refused, refusal_reported}
use Rattle.dia_json.specs.Reports.{IsNothing}
use Rattle.dia_json.proofs.Reports.{nothing_reported}
use Rattle.dia_json.proofs.answers.check.Goals as goal

pub returns-in-Err-clause-outcome : goal.returns-in-Err-clause-outcome
returns-in-Err-clause-outcome c =
    IfOk-weaker c.refuse.result _ _
    (λ answered is. inr (dictionary_refused (RefusesFirst c.args.inputs.now) c.args.inputs.now.first c.in-Err.refused c.in-Err.ensures.recorded c.in-Err.ensures.kept (string_bytes answered.text)
    answered.exit is)) c.refuse.ensures.recorded

pub returns-clause-outcome : goal.returns-clause-outcome
returns-clause-outcome c =
    IfOk-weaker c.checked.result _ _ (λ answered recorded. inl (_, (rw (← c.deref.ensures) at c.in-Ok.ensures.book), recorded)) c.checked.ensures.outcome

pub returns-in-Err-clause-report : goal.returns-in-Err-clause-report
returns-in-Err-clause-report c = refusal_reported IsNothing c.args.inputs.now.first c.in-Err.refused c.refuse.result c.refuse.ensures.recorded c.refuse.ensures.report

pub returns-clause-report : goal.returns-clause-report
returns-clause-report c = nothing_reported c.checked.result c.checked.ensures.report
