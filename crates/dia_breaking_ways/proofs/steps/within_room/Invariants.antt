use Rattle.dia_breaking_ways.specs.Rounds.{AreWithin}
use Rattle.dia_breaking_ways.specs.Stages.{HaveLevels, graph_in}
use Rattle.dia_breaking_ways.proofs.steps.within_room.Given as goal

abbrev pub invariant-loop-step : goal.invariant-loop-step
invariant-loop-step l = HaveLevels (graph_in l.ways) l.steps.items × AreWithin (graph_in l.ways) l.steps.items
