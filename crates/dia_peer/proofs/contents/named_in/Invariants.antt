use Rattle.std.proofs.Common.{List}
use Rattle.std.specs.List.{AllByRecursion}
use Rattle.dia_wire.specs.Level.{level_left}
use Rattle.dia_wire.specs.Wire.{PlainAvp, SpellsAll}
use Rattle.dia_peer.specs.Incoming.{Has, IsReadable, Records}
use Rattle.dia_peer.proofs.LevelWalks.{Walk}
use Rattle.dia_peer.proofs.contents.named_in.Given as goal

abbrev pub invariant-loop-found : goal.invariant-loop-found
invariant-loop-found l = (avps : List PlainAvp) → SpellsAll avps l.body → AllByRecursion IsReadable avps → Walk IsReadable Records avps (λ p. ⊥) (Has l.named) (level_left l.found-iterator)
