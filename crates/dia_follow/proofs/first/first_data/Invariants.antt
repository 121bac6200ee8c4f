use Rattle.std.proofs.Common.{ℕ, List}
use Rattle.dia_wire.specs.Level.{level_left}
use Rattle.dia_wire.specs.Wire.{PlainAvp}
use Rattle.dia_follow.specs.Fronts.{IsFront, first_data}
use Rattle.dia_follow.proofs.Fronts.{Walked}
use Rattle.dia_follow.proofs.first.first_data.Given as goal

abbrev pub invariant-loop-found : goal.invariant-loop-found
invariant-loop-found l = (avps : List PlainAvp) (left : List ℕ) → IsFront avps l.level left
    → Walked (first_data l.code avps) (first_data l.code) (level_left l.found-iterator) left
