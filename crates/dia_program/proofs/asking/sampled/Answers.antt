use Rattle.std.proofs.Common.{refl}
use Rattle.dia_program.proofs.RunFailures.{run_failure}
use Rattle.dia_program.proofs.Results.{sound_at_ok}
use Rattle.dia_program.proofs.asking.sampled.Goals as goal

pub returns-in-Ok : goal.returns-in-Ok
returns-in-Ok g c = (sound_at_ok _ _ _ c.in-Ok.ensures.device, rw c.form_of-form.ensures at c.in-Ok.ensures.answered)

pub returns : goal.returns
returns g c = (run_failure c.in-Err.fault _ _ _ _ _ c.of_run.ensures c.in-Err.is c.write_examples.ensures.device refl, rw c.form_of-form.ensures at c.in-Err.ensures.begun)
