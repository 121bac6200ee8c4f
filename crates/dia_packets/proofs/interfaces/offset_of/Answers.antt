use Rattle.std.proofs.Common.{Some, None, refl}
use Rattle.dia_packets.proofs.interfaces.offset_of.Goals as goal

pub returns-in-Some : goal.returns-in-Some
returns-in-Some c = (Some c.in-Some.value.now, c.in-Some.ensures.first, c.u64_at.ensures)

pub returns-in-None : goal.returns-in-None
returns-in-None c = (None, c.in-None.ensures.first, refl)
