use Rattle.std.proofs.Common.{◌≡◌, take}
use Rattle.std.specs.Prelude.{fold}
use Rattle.dia_breaking_levels.specs.Cuts.{cut_step}
use Rattle.dia_breaking_levels.proofs.cut.cut_of.Given as goal

abbrev pub invariant-loop-step : goal.invariant-loop-step
invariant-loop-step l = fold cut_step (record { length = 0; left = l.wanted }, l.wanted) (take l.step-index l.steps) ≡ (l.cut, l.left)
