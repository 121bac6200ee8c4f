use Rattle.dia_lint.specs.Ways.{AreAvpsReached}
use Rattle.dia_lint.proofs.reached.avps_of.Given as goal

abbrev pub invariant-loop-place : goal.invariant-loop-place
invariant-loop-place l = AreAvpsReached l.walk.reached.items l.place l.avps.items
