use Rattle.std.proofs.Common.{length}
use Rattle.dia_follow.proofs.Fronts.{IsPassed}
use Rattle.dia_follow.proofs.first.after_avps.Given as goal

abbrev pub invariant-loop-following : goal.invariant-loop-following
invariant-loop-following l = IsPassed l.fn.level l.left

abbrev pub decreases-loop-following : goal.decreases-loop-following
decreases-loop-following l = length l.left
