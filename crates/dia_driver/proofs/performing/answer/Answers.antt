use Rattle.std.proofs.Common.{refl}
use Rattle.dia_driver.specs.Program.{done, unread}
use Rattle.dia_driver.proofs.Failures.{unread_failed}
use Rattle.dia_driver.proofs.performing.answer.Goals as goal

pub returns-in-Ok-clause-ends : goal.returns-in-Ok-clause-ends
returns-in-Ok-clause-ends g c = done c.in-Ok.inputs c.in-Ok.ensures.ok c.answer_by.ensures.ends

pub returns-in-Err-clause-ends : goal.returns-in-Err-clause-ends
returns-in-Err-clause-ends g c = unread c.in-Err.ending c.in-Err.ensures.err (c.requires, refl) refl

pub returns-in-Err-clause-failed : goal.returns-in-Err-clause-failed
returns-in-Err-clause-failed g c = unread_failed c.args.request.now.origins c.in-Err.ending c.in-Err.ensures.err
