use Rattle.std.proofs.Common.{inr, refl}
use Rattle.std.specs.Prelude.{string_bytes}
use Rattle.std.proofs.lemmas.Result.{err_from_is_err_and}
use Rattle.dia_ccf.specs.Plain.{plain_source}
use Rattle.dia_dict.specs.Resolution.{wrong}
use Rattle.dia_report.specs.Refusals.{wrong_text}
use Rattle.dia_run.specs.Texts.{IsNoDictionaryText}
use Rattle.dia_run.proofs.RefusedInputs.{recorded_of_source, recorded_why}
use Rattle.dia_run.proofs.inputs.dictionary.read_dictionary.Goals as goal

pub returns-in_err-source-clause-recorded : goal.returns-in_err-source-clause-recorded
returns-in_err-source-clause-recorded c =
    let p = err_from_is_err_and c.from_residual.result c.from_residual.ensures.1 in
    rw (p.1, p.2) (recorded_of_source c.args.input.now c.args.number _ c.in_err-source.ensures.recorded)

pub returns-in_ok-found-in-Err-Stands-clause-recorded : goal.returns-in_ok-found-in-Err-Stands-clause-recorded
returns-in_ok-found-in-Err-Stands-clause-recorded c =
    let found = c.in_ok-found-in-Err-Stands.found in
    let is_wrong = wrong found.kind (string_bytes found.name) (string_bytes found.slot) in
    let source = rw (← c.in_ok-found-in-Err-Stands.ensures) at c.in_ok-source.ensures.source in
    recorded_why (IsNoDictionaryText c.args.input.now) c.args.number (wrong_text is_wrong) _
    (inr (plain_source found.source.value, is_wrong, source, found.first, refl)) c.deliver.ensures.recorded

pub returns-in_ok-found-in-Err-Stands-clause-kept : goal.returns-in_ok-found-in-Err-Stands-clause-kept
returns-in_ok-found-in-Err-Stands-clause-kept c =
    rw (c.deliver.ensures.bad, c.in_ok-found-in-Err-Stands.ensures) c.in_ok-source.ensures.source
