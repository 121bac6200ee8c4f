use Rattle.std.proofs.Common.{◌≡◌, take}
use Rattle.dia_directions.specs.Waits.{counted}
use Rattle.dia_directions.proofs.waiting.size_of.Given as goal

abbrev pub invariant-loop-segment : goal.invariant-loop-segment
invariant-loop-segment l = l.size ≡ counted (take l.segment-index l.waiting)
