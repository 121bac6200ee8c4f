use Rattle.std.proofs.Common.{refl, ◌∙◌, codes}
use Rattle.dia_run.specs.Pairs.{too_long, not_text}
use Rattle.dia_run.proofs.RefusedInputs.{recorded_table, recorded_table_fault, most_table_bytes, is_table_fault_of}
use Rattle.dia_run.proofs.inputs.table.read_table.Goals as goal

pub returns-in_default-clause-recorded : goal.returns-in_default-clause-recorded
returns-in_default-clause-recorded c = recorded_table c.args.input.now (codes "too long") _ (too_long (c.in_default.ensures.none refl) refl) c.deliver.ensures.recorded

pub returns-in-Err-clause-recorded : goal.returns-in-Err-clause-recorded
returns-in-Err-clause-recorded c =
    recorded_table c.args.input.now (codes "not text") _ (not_text _ c.in-Some.ensures.some c.in-Err.ensures.cases.0 refl) c.deliver-in-Err.ensures.recorded

pub returns-in-Err-parse_table-clause-recorded : goal.returns-in-Err-parse_table-clause-recorded
returns-in-Err-parse_table-clause-recorded c =
    let short = most_table_bytes c.args.input.now c.in-Some.bytes.now c.in-Some.ensures.some in
    recorded_table_fault _ _ _ _ c.in-Some.ensures.some c.in-Ok.ensures.cases.1 (is_table_fault_of _ _ _ c.in-Ok.ensures.cases.0 short c.in-Err-parse_table.ensures.fault) c.report_fault.ensures.recorded

pub returns-in-Err-clause-kept : goal.returns-in-Err-clause-kept
returns-in-Err-clause-kept c =
    rw c.deliver-in-Err.ensures.bad (c.in-Some.bytes.now, c.in-Some.ensures.some, c.in-Err.ensures.cases.0, c.valid_up_to-at.ensures ∙ c.in-Err.ensures.valid_len)
