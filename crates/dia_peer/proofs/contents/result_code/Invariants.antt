use Rattle.std.proofs.Common.{List}
use Rattle.std.specs.List.{AllByRecursion}
use Rattle.dia_wire.specs.Level.{level_left}
use Rattle.dia_wire.specs.Wire.{PlainAvp, SpellsAll}
use Rattle.dia_peer.specs.Incoming.{HasCode, IsResult}
use Rattle.dia_peer.proofs.LevelWalks.{Walk}
use Rattle.dia_peer.proofs.contents.result_code.Given as goal

abbrev pub invariant-loop-found : goal.invariant-loop-found
invariant-loop-found l = (avps : List PlainAvp) → SpellsAll avps l.body → AllByRecursion HasCode avps → Walk HasCode IsResult avps (λ n. ⊥) (λ n. ⊥) (level_left l.found-iterator)
