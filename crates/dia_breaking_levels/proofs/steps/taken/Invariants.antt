use Rattle.std.proofs.Common.{◌≡◌, take}
use Rattle.std.specs.Prelude.{fold}
use Rattle.dia_breaking_levels.specs.Steps.{take_step}
use Rattle.dia_breaking_levels.proofs.steps.taken.Given as goal

abbrev pub invariant-loop-step : goal.invariant-loop-step
invariant-loop-step l = fold take_step (l.wanted, 0) (take l.step-index l.steps) ≡ (l.left, l.length)
