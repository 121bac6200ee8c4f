use Rattle.std.proofs.Common.{List}
use Rattle.std.specs.List.{AllByRecursion}
use Rattle.dia_wire.specs.Level.{level_left}
use Rattle.dia_wire.specs.Wire.{PlainAvp, SpellsAll}
use Rattle.dia_peer.specs.Incoming.{Has, HasNumber, NamesApplication}
use Rattle.dia_peer.proofs.LevelWalks.{Walk}
use Rattle.dia_peer.proofs.contents.add_members.Given as goal

abbrev pub invariant-loop-found : goal.invariant-loop-found
invariant-loop-found l = (avps : List PlainAvp) → SpellsAll avps l.level → AllByRecursion HasNumber avps → Walk HasNumber NamesApplication avps (Has l.initial.named) (Has l.named) (level_left l.found-iterator)
