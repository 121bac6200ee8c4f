use Rattle.std.proofs.Common.{refl}
use Rattle.dia_driver.specs.Program.{answered, failed, refused}
use Rattle.dia_driver.proofs.running.run.Goals as goal

pub report_failure-requires-clause-failed : goal.report_failure-requires-clause-failed
report_failure-requires-clause-failed g c = c.in-Err-answer.ensures.failed

pub returns-in-Ok-answer : goal.returns-in-Ok-answer
returns-in-Ok-answer g c = answered c.in-Ok.request c.in-Ok-answer.exit c.in-Ok.ensures.words c.in-Ok.ensures.once c.in-Ok-answer.ensures.ends (c.requires.err, refl) c.status.ensures

pub returns-in-Ok : goal.returns-in-Ok
returns-in-Ok g c = failed c.in-Ok.request c.in-Err-answer.ending c.in-Ok.ensures.words c.in-Ok.ensures.once c.in-Err-answer.ensures.ends c.report_failure.ensures

pub returns : goal.returns
returns g c = refused c.in-Err.ending c.advised.result c.in-Err.ensures.refused c.advised.ensures c.report_refusal.ensures
