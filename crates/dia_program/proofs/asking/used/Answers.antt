use Rattle.dia_program.proofs.Results.{sound_at_ok}
use Rattle.dia_program.proofs.asking.used.Goals as goal

pub returns-in-Ok : goal.returns-in-Ok
returns-in-Ok g c = let t = c.in-Ok.ensures.text in (sound_at_ok _ _ _ c.in-Ok.ensures.device, (t.0, t.1, t.2))
