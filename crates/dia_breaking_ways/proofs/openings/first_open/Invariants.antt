use Rattle.dia_breaking_ways.specs.Openings.{AreShutTo}
use Rattle.dia_breaking_ways.proofs.openings.first_open.Given as goal

abbrev pub invariant-loop-opening : goal.invariant-loop-opening
invariant-loop-opening l = AreShutTo l.stages l.openings l.place l.opening-index
