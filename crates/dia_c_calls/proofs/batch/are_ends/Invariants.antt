use Rattle.std.proofs.Common.{◌↔◌, length}
use Rattle.dia_c_calls.specs.Batches.{AreEnds, AreEndsFrom}
use Rattle.dia_c_calls.proofs.batch.are_ends.Given as goal

abbrev pub invariant-loop-end : goal.invariant-loop-end
invariant-loop-end l = AreEnds l.total l.ends ↔ AreEndsFrom l.at l.total l.left

abbrev pub decreases-loop-end : goal.decreases-loop-end
decreases-loop-end l = length l.left
