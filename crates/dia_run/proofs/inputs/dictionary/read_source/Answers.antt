use Rattle.std.proofs.Common.{refl, ◌∙◌, codes}
use Rattle.dia_run.specs.Texts.{IsNoSourceText, too_long, not_text}
use Rattle.dia_run.proofs.RefusedInputs.{recorded_why, recorded_text, most_bytes, is_refused_of}
use Rattle.dia_run.proofs.inputs.dictionary.read_source.Goals as goal

pub returns-in_default-clause-recorded : goal.returns-in_default-clause-recorded
returns-in_default-clause-recorded c = recorded_why (IsNoSourceText c.args.input.now) c.args.number (codes "too long") _ (too_long (c.in_default.ensures.none refl) refl) c.deliver.ensures.recorded

pub returns-in-Err-clause-recorded : goal.returns-in-Err-clause-recorded
returns-in-Err-clause-recorded c =
    recorded_why (IsNoSourceText c.args.input.now) c.args.number (codes "not text") _ (not_text _ c.in-Some.ensures.some c.in-Err.ensures.cases.0 refl) c.deliver-in-Err.ensures.recorded

pub returns-in-Err-read-clause-recorded : goal.returns-in-Err-read-clause-recorded
returns-in-Err-read-clause-recorded c =
    recorded_text _ _ _ _ _ c.in-Some.ensures.some c.in-Ok.ensures.cases.1 (most_bytes c.args.input.now c.in-Some.bytes.now c.in-Some.ensures.some)
    (is_refused_of _ _ _ c.in-Ok.ensures.cases.0 c.in-Err-read.ensures.refused) c.report_text.ensures.memory c.report_text.ensures.recorded

pub returns-in-Err-read-clause-kept : goal.returns-in-Err-read-clause-kept
returns-in-Err-read-clause-kept c =
    c.report_text.ensures.kept c.args.input.now c.in-Some.bytes.now c.in-Some.ensures.some (is_refused_of _ _ _ c.in-Ok.ensures.cases.0 c.in-Err-read.ensures.refused)

pub returns-in-Err-clause-kept : goal.returns-in-Err-clause-kept
returns-in-Err-clause-kept c =
    rw c.deliver-in-Err.ensures.bad (c.in-Some.bytes.now, c.in-Some.ensures.some, c.in-Err.ensures.cases.0, c.valid_up_to-at.ensures ∙ c.in-Err.ensures.valid_len)
