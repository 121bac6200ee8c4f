use Rattle.std.proofs.Common.{ℕ, List}
use Rattle.std.specs.List.{fold}
use Rattle.dia_wire.specs.Level.{level_left}
use Rattle.dia_wire.specs.Wire.{PlainAvp}
use Rattle.dia_follow.specs.Fronts.{IsFront}
use Rattle.dia_follow.specs.Contents.{add_named}
use Rattle.dia_follow.proofs.Fronts.{Walked}
use Rattle.dia_follow.proofs.contents.add_members.Given as goal

abbrev pub invariant-loop-found : goal.invariant-loop-found
invariant-loop-found l = (avps : List PlainAvp) (left : List ℕ) → IsFront avps l.group left
    → Walked (fold add_named l.initial.apps avps) (fold add_named l.apps) (level_left l.found-iterator) left
