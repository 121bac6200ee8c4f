use Rattle.std.proofs.Common.{append_assoc}
use Rattle.dia_show.proofs.header.push_rest.Goals as goal

pub returns : goal.returns
returns c = simp append_assoc c.writeln.ensures.bytes
