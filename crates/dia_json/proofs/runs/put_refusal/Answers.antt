use Rattle.std.proofs.Common.{subst}
use Rattle.dia_json.proofs.ManyMessages.{ends_badly}
use Rattle.dia_refused_json.specs.Recording.{RecordsBad}
use Rattle.dia_json.proofs.runs.put_refusal.Goals as goal

pub returns-in_err-put_all-clause-front : goal.returns-in_err-put_all-clause-front
returns-in_err-put_all-clause-front g c = λ _.
    let records = c.in_ok-text.ensures.recorded in
    (_, subst (RecordsBad c.args.input.now c.args.refused _) (ends_badly c.args.input.now c.args.refused _ _ records) records, (rw c.as_bytes.ensures.value at c.put_all.ensures.front))

pub returns-clause-exit : goal.returns-clause-exit
returns-clause-exit g c = ends_badly c.args.input.now c.args.refused _ _ c.in_ok-text.ensures.recorded

pub returns-clause-recorded : goal.returns-clause-recorded
returns-clause-recorded g c = (_, c.in_ok-text.ensures.recorded, (rw c.as_bytes.ensures.value at c.in_ok-put_all.ensures.ok))
