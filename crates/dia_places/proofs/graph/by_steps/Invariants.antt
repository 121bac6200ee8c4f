use Rattle.std.proofs.Common.{◌≡◌, map, take}
use Rattle.dia_places.specs.Records.{reached_by}
use Rattle.dia_places.proofs.graph.by_steps.Given as goal

abbrev pub invariant-loop-step : goal.invariant-loop-step
invariant-loop-step l = l.reached.items ≡ map reached_by (take l.step-index l.steps)
