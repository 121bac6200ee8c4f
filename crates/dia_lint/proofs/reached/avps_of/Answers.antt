use Rattle.dia_lint.proofs.FoundWays.{none_reached_yet, one_reached_more}
use Rattle.dia_lint.proofs.reached.avps_of.Goals as goal

pub loop-place-init : goal.loop-place-init
loop-place-init c = none_reached_yet c.args.walk.now.reached.items c.new-avps.result.items c.new-avps.ensures.items

pub loop-place-preserved : goal.loop-place-preserved
loop-place-preserved c =
    one_reached_more c.args.walk.now.reached.items c.loop-place.place c.is_reached.result c.loop-place.avps.items _ c.loop-place.invariant c.in_ok-push.ensures.items c.is_reached.ensures
