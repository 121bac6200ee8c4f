use Rattle.std.proofs.Common.{refl}
use Rattle.dia_check.proofs.stream.paused.resume_body.Goals as goal

pub returns : goal.returns
returns g c = record { def = refl; open_levels = refl; part = c.resume_part.ensures }
