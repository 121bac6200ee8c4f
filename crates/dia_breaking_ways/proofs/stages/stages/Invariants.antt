use Rattle.dia_breaking_ways.specs.Stages.{graph_in, AreStages}
use Rattle.dia_breaking_ways.proofs.stages.stages.Given as goal

abbrev pub invariant-loop-step : goal.invariant-loop-step
invariant-loop-step l = AreStages (graph_in l.ways) l.steps l.step-index l.stages.items
