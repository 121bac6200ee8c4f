use Rattle.std.proofs.Common.{ap, arith, ◌∙◌}
use Rattle.std.specs.List.{range_with_len}
use Rattle.dia_upgrades.proofs.AskedCommands.{in_range}
use Rattle.dia_upgrades.proofs.naming.places_below.Goals as goal

pub loop-place-preserved : goal.loop-place-preserved
loop-place-preserved c = in_range _ _ _ c.in_ok-push.ensures.items c.loop-place.invariant

pub returns : goal.returns
returns c = c.loop-place.invariant ∙ ap (range_with_len 0) (omega arith)
