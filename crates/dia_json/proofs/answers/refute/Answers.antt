use Rattle.std.proofs.Common.{inl, inr}
use Rattle.std.specs.Prelude.{string_bytes}
use Rattle.std.proofs.lemmas.Result.{IfOk-weaker}
use Rattle.dia_run.specs.RefusedDictionaries.{RefusesFirst, RefusesSecond}
use Rattle.dia_refused_json.proofs.Recording.{dictionary_refused, refusal_reported, second_refused}
use Rattle.dia_json.specs.Reports.{IsNothing}
use Rattle.dia_json.proofs.Reports.{nothing_reported}
use Rattle.dia_json.proofs.answers.refute.Goals as goal

pub returns-in-Err-clause-outcome : goal.returns-in-Err-clause-outcome
returns-in-Err-clause-outcome c =
    IfOk-weaker c.refuse.result _ _
    (λ answered is. inr (inl (dictionary_refused (RefusesFirst c.args.inputs.now) c.args.inputs.now.first c.in-Err.refused c.in-Err.ensures.recorded c.in-Err.ensures.kept
    (string_bytes answered.text) answered.exit is))) c.refuse.ensures.recorded

pub returns-in-Err-read_dictionary-clause-outcome : goal.returns-in-Err-read_dictionary-clause-outcome
returns-in-Err-read_dictionary-clause-outcome c =
    let records = second_refused c.args.inputs.now _ c.in-Err-read_dictionary.refused c.in-Ok.ensures.book c.in-Err-read_dictionary.ensures.recorded in
    IfOk-weaker c.refuse-in-Err-read_dictionary.result _ _
    (λ answered is. inr (inr (dictionary_refused (RefusesSecond c.args.inputs.now) c.args.inputs.now.second c.in-Err-read_dictionary.refused records
    c.in-Err-read_dictionary.ensures.kept (string_bytes answered.text) answered.exit is))) c.refuse-in-Err-read_dictionary.ensures.recorded

pub returns-clause-outcome : goal.returns-clause-outcome
returns-clause-outcome c =
    IfOk-weaker c.refuted.result _ _
    (λ answered recorded. inl (_, _, (rw (← c.deref.ensures) at c.in-Ok.ensures.book), (rw (← c.deref-2.ensures) at c.in-Ok-read_dictionary.ensures.book), recorded)) c.refuted.ensures.outcome

pub returns-in-Err-clause-report : goal.returns-in-Err-clause-report
returns-in-Err-clause-report c = refusal_reported IsNothing c.args.inputs.now.first c.in-Err.refused c.refuse.result c.refuse.ensures.recorded c.refuse.ensures.report

pub returns-in-Err-read_dictionary-clause-report : goal.returns-in-Err-read_dictionary-clause-report
returns-in-Err-read_dictionary-clause-report c =
    refusal_reported IsNothing c.args.inputs.now.second c.in-Err-read_dictionary.refused c.refuse-in-Err-read_dictionary.result c.refuse-in-Err-read_dictionary.ensures.recorded
    c.refuse-in-Err-read_dictionary.ensures.report

pub returns-clause-report : goal.returns-clause-report
returns-clause-report c = nothing_reported c.refuted.result c.refuted.ensures.report
