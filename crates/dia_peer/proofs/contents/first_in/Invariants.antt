use Rattle.std.proofs.Common.{List}
use Rattle.dia_wire.specs.Level.{level_left}
use Rattle.dia_wire.specs.Wire.{PlainAvp, SpellsAll}
use Rattle.dia_peer.proofs.FirstData.{Leads}
use Rattle.dia_peer.proofs.contents.first_in.Given as goal

abbrev pub invariant-loop-found : goal.invariant-loop-found
invariant-loop-found l = (avps : List PlainAvp) → SpellsAll avps l.body → Leads l.code avps (level_left l.found-iterator)
