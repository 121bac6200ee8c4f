use Rattle.std.proofs.Common.{inl, inr}
use Rattle.std.specs.Prelude.{string_bytes}
use Rattle.std.proofs.lemmas.Result.{IfOk-weaker}
use Rattle.dia_run.specs.RefusedDictionaries.{RefusesFirst, RefusesSecond}
use Rattle.dia_refused_json.proofs.Recording.{dictionary_refused, second_refused}
use Rattle.dia_json.proofs.Reports.{no_command_reported, propose_refused, table_reported}
use Rattle.dia_json.proofs.Pairs.{IfOk-both}
use Rattle.dia_json.proofs.proposing.propose.Goals as goal

pub returns-in-Err-clause-outcome : goal.returns-in-Err-clause-outcome
returns-in-Err-clause-outcome c =
    IfOk-weaker c.refuse.result _ _
    (λ answered is. inr (inl (dictionary_refused (RefusesFirst c.args.inputs.now) c.args.inputs.now.first c.in-Err.refused c.in-Err.ensures.recorded c.in-Err.ensures.kept
    (string_bytes answered.text) answered.exit is))) c.refuse.ensures.recorded

pub returns-in-Err-read_dictionary-clause-outcome : goal.returns-in-Err-read_dictionary-clause-outcome
returns-in-Err-read_dictionary-clause-outcome c =
    let records = second_refused c.args.inputs.now _ c.in-Err-read_dictionary.refused c.in-Ok.ensures.book c.in-Err-read_dictionary.ensures.recorded in
    IfOk-weaker c.refuse-in-Err-read_dictionary.result _ _
    (λ answered is. inr (inr (dictionary_refused (RefusesSecond c.args.inputs.now) c.args.inputs.now.second c.in-Err-read_dictionary.refused records
    c.in-Err-read_dictionary.ensures.kept (string_bytes answered.text) answered.exit is))) c.refuse-in-Err-read_dictionary.ensures.recorded

pub returns-in-Ok-propose-clause-outcome : goal.returns-in-Ok-propose-clause-outcome
returns-in-Ok-propose-clause-outcome c =
    let proposal = rw (c.deref.ensures, c.deref-2.ensures) at c.in-Ok-propose.ensures.proposal in
    IfOk-both c.listed.result _ _ _ (λ answered text exit. inl (_, _, c.in-Ok.ensures.book, c.in-Ok-read_dictionary.ensures.book, inl (_, proposal, text, exit)))
    c.listed.ensures.text c.listed.ensures.exit

pub returns-in-Err-UnknownCommand-clause-outcome : goal.returns-in-Err-UnknownCommand-clause-outcome
returns-in-Err-UnknownCommand-clause-outcome c =
    let unknown = rw c.in-Err-UnknownCommand.field-0-is at c.in-Err-UnknownCommand.ensures.refusal in
    let first = rw c.deref.ensures at unknown in
    IfOk-both c.no_command.result _ _ _ (λ answered text exit. inl (_, _, c.in-Ok.ensures.book, c.in-Ok-read_dictionary.ensures.book, inr (_, first, text, exit)))
    (rw c.as_str.ensures.value at c.no_command.ensures.text) c.no_command.ensures.exit

pub returns-in-Err-clause-report : goal.returns-in-Err-clause-report
returns-in-Err-clause-report c = propose_refused _ c.args.inputs.now c.args.inputs.now.first c.in-Err.refused c.refuse.result c.refuse.ensures.recorded c.refuse.ensures.report

pub returns-in-Err-read_dictionary-clause-report : goal.returns-in-Err-read_dictionary-clause-report
returns-in-Err-read_dictionary-clause-report c =
    propose_refused _ c.args.inputs.now c.args.inputs.now.second c.in-Err-read_dictionary.refused c.refuse-in-Err-read_dictionary.result c.refuse-in-Err-read_dictionary.ensures.recorded
    c.refuse-in-Err-read_dictionary.ensures.report

pub returns-in-Ok-propose-clause-report : goal.returns-in-Ok-propose-clause-report
returns-in-Ok-propose-clause-report c = table_reported _ c.args.inputs.now c.listed.result c.listed.ensures.exit c.listed.ensures.report

pub returns-in-Err-UnknownCommand-clause-report : goal.returns-in-Err-UnknownCommand-clause-report
returns-in-Err-UnknownCommand-clause-report c =
    no_command_reported _ c.args.inputs.now _ c.no_command.result
    ((c.in-Ok.ensures.source, c.in-Ok.ensures.book), (c.in-Ok-read_dictionary.ensures.source, c.in-Ok-read_dictionary.ensures.book)) c.no_command.ensures.exit c.no_command.ensures.report
