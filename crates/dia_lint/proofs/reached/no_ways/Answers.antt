use Rattle.dia_lint.proofs.FoundWays.{no_way_more, none_yet}
use Rattle.dia_lint.proofs.reached.no_ways.Goals as goal

pub loop-init : goal.loop-init
loop-init c = none_yet c.new-ways.result.items c.new-ways.ensures.items

pub loop-preserved : goal.loop-preserved
loop-preserved c = no_way_more c.loop.counter c.loop.ways.items _ c.loop.invariant c.in_ok-push.ensures.items
