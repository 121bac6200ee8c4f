use Rattle.std.proofs.Common.{length}
use Rattle.dia_lint.proofs.FoundWays.{AreWaysOf}
use Rattle.dia_lint.proofs.reached.ways_of.Given as goal

abbrev pub invariant-loop-step : goal.invariant-loop-step
invariant-loop-step l = AreWaysOf (length l.walk.reached.items) l.walk.steps.items l.step-index l.ways.items
