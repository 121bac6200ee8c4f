use Rattle.std.proofs.Common.{inl, inr, refl}
use Rattle.std.specs.Prelude.{string_bytes}
use Rattle.std.proofs.lemmas.Result.{IfOk-weaker}
use Rattle.dia_run.specs.RefusedDictionaries.{RefusesFirst, RefusesSecond}
use Rattle.dia_run.specs.Outcome.{IsCompareOutcome}
use Rattle.dia_run.proofs.RefusedInputs.{Ends-no_table}
use Rattle.dia_refused_json.specs.Recording.{RefusesAs}
use Rattle.dia_refused_json.proofs.Recording.{dictionary_refused, input_refused, second_refused}
use Rattle.dia_compared_json.proofs.Reports.{compare_refused}
use Rattle.dia_compared_json.proofs.comparing.compare.Goals as goal

pub returns-in-Err-clause-outcome : goal.returns-in-Err-clause-outcome
returns-in-Err-clause-outcome c =
    IfOk-weaker c.refuse.result _ _
    (λ answered is. inr (inl (inl (dictionary_refused (RefusesFirst c.args.inputs.now) c.args.inputs.now.first c.in-Err.refused c.in-Err.ensures.recorded c.in-Err.ensures.kept
    (string_bytes answered.text) answered.exit is)))) c.refuse.ensures.recorded

pub returns-in-Err-read_dictionary-clause-outcome : goal.returns-in-Err-read_dictionary-clause-outcome
returns-in-Err-read_dictionary-clause-outcome c =
    let records = second_refused c.args.inputs.now _ c.in-Err-read_dictionary.refused c.in-Ok.ensures.book c.in-Err-read_dictionary.ensures.recorded in
    IfOk-weaker c.refuse-in-Err-read_dictionary.result _ _
    (λ answered is. inr (inl (inr (dictionary_refused (RefusesSecond c.args.inputs.now) c.args.inputs.now.second c.in-Err-read_dictionary.refused records
    c.in-Err-read_dictionary.ensures.kept (string_bytes answered.text) answered.exit is)))) c.refuse-in-Err-read_dictionary.ensures.recorded

pub returns-in-Err-read_table-clause-outcome : goal.returns-in-Err-read_table-clause-outcome
returns-in-Err-read_table-clause-outcome c =
    let inputs = c.args.inputs.now in
    let records = Ends-no_table c.args.unknown inputs _ _ c.in-Err-read_table.refused c.in-Ok.ensures.book c.in-Ok-read_dictionary.ensures.book c.in-Err-read_table.ensures.recorded in
    IfOk-weaker c.refuse-in-Err-read_table.result _ _
    (λ answered is. inr (inr (input_refused (RefusesAs (IsCompareOutcome c.args.unknown inputs)) inputs.table c.in-Err-read_table.refused records
    (string_bytes answered.text) answered.exit is))) c.refuse-in-Err-read_table.ensures.recorded

pub returns-clause-outcome : goal.returns-clause-outcome
returns-clause-outcome c =
    let answer = rw (c.deref.ensures, c.deref-2.ensures) at c.in_ok-text.ensures.answer in
    let recorded = rw (c.deref.ensures, c.deref-2.ensures) at c.in_ok-text.ensures.recorded in
    inl (_, _, _, c.in-Ok.ensures.book, c.in-Ok-read_dictionary.ensures.book, c.in-Ok-read_table.ensures.table, (_, answer, recorded))

pub returns-in-Err-clause-report : goal.returns-in-Err-clause-report
returns-in-Err-clause-report c = compare_refused _ c.args.unknown c.args.inputs.now c.args.inputs.now.first c.in-Err.refused c.refuse.result c.refuse.ensures.recorded c.refuse.ensures.report

pub returns-in-Err-read_dictionary-clause-report : goal.returns-in-Err-read_dictionary-clause-report
returns-in-Err-read_dictionary-clause-report c =
    compare_refused _ c.args.unknown c.args.inputs.now c.args.inputs.now.second c.in-Err-read_dictionary.refused c.refuse-in-Err-read_dictionary.result c.refuse-in-Err-read_dictionary.ensures.recorded
    c.refuse-in-Err-read_dictionary.ensures.report

pub returns-in-Err-read_table-clause-report : goal.returns-in-Err-read_table-clause-report
returns-in-Err-read_table-clause-report c =
    compare_refused _ c.args.unknown c.args.inputs.now c.args.inputs.now.table c.in-Err-read_table.refused c.refuse-in-Err-read_table.result c.refuse-in-Err-read_table.ensures.recorded c.refuse-in-Err-read_table.ensures.report

pub returns-clause-report : goal.returns-clause-report
returns-clause-report c =
    let answer = rw (c.deref.ensures, c.deref-2.ensures) at c.in_ok-text.ensures.answer in
    let failings = rw (c.deref.ensures, c.deref-2.ensures) at c.in_ok-text.ensures.failings in
    let recorded = rw (c.deref.ensures, c.deref-2.ensures) at c.in_ok-text.ensures.recorded in
    (refl, ((c.in-Ok.ensures.source, c.in-Ok.ensures.book), (c.in-Ok-read_dictionary.ensures.source, c.in-Ok-read_dictionary.ensures.book)), c.in-Ok-read_table.ensures.table, answer, failings, recorded)
