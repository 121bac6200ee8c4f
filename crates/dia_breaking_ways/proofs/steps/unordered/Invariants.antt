use Rattle.dia_breaking_ways.specs.Stages.{graph_in}
use Rattle.dia_breaking_ways.specs.Steps.{AreStepsTo}
use Rattle.dia_breaking_ways.proofs.steps.unordered.Given as goal

abbrev pub invariant-loop-place : goal.invariant-loop-place
invariant-loop-place l = AreStepsTo (graph_in l.ways) l.reached l.place l.steps.items
