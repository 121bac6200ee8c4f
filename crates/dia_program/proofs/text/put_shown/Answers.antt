use Rattle.dia_program.proofs.Results.{sound_at_ok}
use Rattle.dia_program.proofs.text.put_shown.Goals as goal

pub returns-in-Ok-clause-ok : goal.returns-in-Ok-clause-ok
returns-in-Ok-clause-ok g c = let t = c.in-Ok.ensures.text in (sound_at_ok _ _ _ c.in-Ok.ensures.device, (t.0, t.1, t.3))
