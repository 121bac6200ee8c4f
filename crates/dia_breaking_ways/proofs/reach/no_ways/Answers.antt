use Rattle.dia_breaking_ways.proofs.BestWays.{none_yet, none_more}
use Rattle.dia_breaking_ways.proofs.reach.no_ways.Goals as goal

pub loop-init : goal.loop-init
loop-init c = rw c.new-best.ensures.items none_yet

pub loop-preserved : goal.loop-preserved
loop-preserved c = rw c.in_ok-push.ensures.items (none_more c.loop.index c.loop.best.items c.loop.invariant)
