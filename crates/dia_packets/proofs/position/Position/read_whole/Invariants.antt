use Rattle.std.proofs.Common.{length}
use Rattle.dia_packets.specs.UnderWay.{Reads}
use Rattle.dia_packets.proofs.position.Position.read_whole.Given as goal

abbrev pub invariant-loop-following : goal.invariant-loop-following
invariant-loop-following l = Reads l.initial.self l.self l.initial.packets.items l.packets.items l.bytes l.rest

abbrev pub decreases-loop-following : goal.decreases-loop-following
decreases-loop-following l = length l.rest
