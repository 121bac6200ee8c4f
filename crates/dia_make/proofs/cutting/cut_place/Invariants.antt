use Rattle.std.proofs.Common.{drop, length}
use Rattle.dia_make.proofs.Shown.{IsReadTo}
use Rattle.dia_make.proofs.cutting.cut_place.Given as goal

abbrev pub invariant-loop-following : goal.invariant-loop-following
invariant-loop-following l = IsReadTo (drop 20 l.fn.message) l.rest

abbrev pub decreases-loop-following : goal.decreases-loop-following
decreases-loop-following l = length l.rest
