use Rattle.std.proofs.Common.{inl, inr}
use Rattle.std.specs.Prelude.{string_bytes}
use Rattle.dia_run.specs.Outcome.{IsMessageShown, IsShowOutcome}
use Rattle.dia_run.proofs.RefusedInputs.{Ends-no_dictionary}
use Rattle.dia_refused_json.specs.Recording.{RefusesAs}
use Rattle.dia_refused_json.proofs.Recording.{dictionary_refused}
use Rattle.dia_json.specs.Whole.{IsShowJson}
use Rattle.dia_json.proofs.Reports.{shown_refused}
use Rattle.dia_json.proofs.Shown.{same_outcome}
use Rattle.dia_json.proofs.showing.show.Goals as goal

pub returns-in_ok-answered-in-Err-clause-outcome : goal.returns-in_ok-answered-in-Err-clause-outcome
returns-in_ok-answered-in-Err-clause-outcome c =
    let inputs = c.args.inputs.now in
    let answered = c.in_ok-answered-in-Err.answered in
    same_outcome (IsShowJson c.args.names inputs) answered c.of_show.result c.of_show.ensures.text c.of_show.ensures.exit
    (inr (inl (dictionary_refused (RefusesAs (IsShowOutcome inputs)) inputs.first c.in-Err.refused
    (Ends-no_dictionary IsMessageShown inputs c.in-Err.refused c.in-Err.ensures.recorded) c.in-Err.ensures.kept (string_bytes answered.text) answered.exit
    c.in_ok-answered-in-Err.ensures.recorded)))

pub returns-in_ok-answered-in-Err-clause-report : goal.returns-in_ok-answered-in-Err-clause-report
returns-in_ok-answered-in-Err-clause-report c =
    shown_refused _ c.args.inputs.now c.args.inputs.now.first c.in-Err.refused c.in_ok-answered-in-Err.answered c.of_show.result c.of_show.ensures.report
    c.of_show.ensures.text c.of_show.ensures.exit c.in_ok-answered-in-Err.ensures.recorded c.in_ok-answered-in-Err.ensures.report
