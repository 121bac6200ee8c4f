use Rattle.std.proofs.Common.{refl}
use Rattle.dia_driver.specs.Program.{run, unread}
use Rattle.dia_driver.proofs.running.run_process.Goals as goal

pub returns-in-Ok : goal.returns-in-Ok
returns-in-Ok g c = run _ c.run.ensures

pub returns-in-Err : goal.returns-in-Err
returns-in-Err g c = unread c.in-Err.ending c.in-Err.ensures (c.requires.out, refl) c.report_error.ensures
