use Rattle.std.proofs.Common.{inl, inr}
use Rattle.std.specs.Prelude.{string_bytes}
use Rattle.std.proofs.lemmas.Result.{IfOk-weaker}
use Rattle.dia_run.specs.Texts.{IsMessageText}
use Rattle.dia_run.specs.Outcome.{IsMessageShown, IsShowOutcome}
use Rattle.dia_run.proofs.RefusedInputs.{Ends-no_message}
use Rattle.dia_refused_json.specs.Recording.{RefusesAs}
use Rattle.dia_refused_json.proofs.Recording.{input_refused}
use Rattle.dia_show.specs.Manners.{plain_manner_of}
use Rattle.dia_json.proofs.Objects.{message_refused, message_recorded}
use Rattle.dia_json.proofs.Reports.{show_refused}
use Rattle.dia_json.proofs.showing.listed.Goals as goal

pub returns-in-Err-clause-outcome : goal.returns-in-Err-clause-outcome
returns-in-Err-clause-outcome c =
    let inputs = c.args.inputs.now in
    IfOk-weaker c.refuse.result _ _
    (λ answered is. inr (input_refused (RefusesAs (IsShowOutcome inputs)) inputs.message c.in-Err.refused
    (Ends-no_message IsMessageShown inputs _ c.in-Err.refused c.requires.1 c.in-Err.ensures.recorded) (string_bytes answered.text) answered.exit is))
    c.refuse.ensures.recorded

pub returns-in-Err-made-clause-outcome : goal.returns-in-Err-made-clause-outcome
returns-in-Err-made-clause-outcome c =
    let inputs = c.args.inputs.now in
    let bytes = c.as_slice.result.now in
    let message : IsMessageText inputs.message bytes = rw c.as_slice.ensures.value c.in-Ok.ensures.message in
    let why = c.in-Err-made.refused in
    IfOk-weaker c.refuse-in-Err-made.result _ _
    (λ answered is. inr (input_refused (RefusesAs (IsShowOutcome inputs)) inputs.message why
    (message_refused (plain_manner_of c.args.manner.now) inputs _ bytes why c.requires.1 message (rw c.deref.ensures at c.in-Err-made.ensures.outcome)) (string_bytes answered.text) answered.exit is))
    c.refuse-in-Err-made.ensures.recorded

pub returns-clause-outcome : goal.returns-clause-outcome
returns-clause-outcome c =
    let bytes = c.as_slice.result.now in
    let message : IsMessageText c.args.inputs.now.message bytes = rw c.as_slice.ensures.value c.in-Ok.ensures.message in
    inl (bytes, message, message_recorded (plain_manner_of c.args.manner.now) _ bytes _ _ (rw c.deref.ensures at c.in-Ok-made.ensures.outcome) c.in-Ok-made.ensures.exit)

pub returns-in-Err-clause-report : goal.returns-in-Err-clause-report
returns-in-Err-clause-report c =
    show_refused _ c.args.inputs.now c.args.inputs.now.message c.in-Err.refused c.refuse.result c.refuse.ensures.recorded
    c.refuse.ensures.report

pub returns-in-Err-made-clause-report : goal.returns-in-Err-made-clause-report
returns-in-Err-made-clause-report c =
    show_refused _ c.args.inputs.now c.args.inputs.now.message c.in-Err-made.refused c.refuse-in-Err-made.result c.refuse-in-Err-made.ensures.recorded
    c.refuse-in-Err-made.ensures.report
