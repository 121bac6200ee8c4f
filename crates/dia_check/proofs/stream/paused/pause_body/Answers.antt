use Rattle.std.proofs.Common.{refl}
use Rattle.dia_check.proofs.stream.paused.pause_body.Goals as goal

pub returns : goal.returns
returns c d = record { def = refl; open_levels = refl; part = c.pause_part.ensures d }
