use Rattle.std.proofs.Common.{◌≡◌, List, ◌++◌, ℕ, length, true}
use Rattle.dia_streams.specs.StreamUnderWay.{Takes}
use Rattle.dia_streams.proofs.digits.Digits.take.Given as goal

abbrev pub invariant-loop-at : goal.invariant-loop-at
invariant-loop-at l =
    (front : List ℕ) × (front ++ l.rest ≡ l.text) × Takes true l.initial.self.half l.self.half l.initial.self.bytes.items l.self.bytes.items front

abbrev pub decreases-loop-at : goal.decreases-loop-at
decreases-loop-at l = length l.rest
