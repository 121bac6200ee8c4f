use Rattle.std.specs.Prelude.{None}
use Rattle.dia_lint.proofs.JoinedRanges.{differ, joins_more}
use Rattle.dia_lint.proofs.overlaps.take_overlapping.Goals as goal

pub loop-other_first-preserved : goal.loop-other_first-preserved
loop-other_first-preserved c =
    let old = c.loop-other_first.ranges in
    let new = c.remove.new.self in
    let last = c.in-Some.other_last in
    joins_more c.args.ranges.now (c.args.low, c.args.high) old new c.loop-other_first.first c.loop-other_first.last c.in-Some.other_first last c.min-first.result c.max-last.result
    c.loop-other_first.invariant c.in-Some.ensures (differ old new last None c.remove.ensures.updates) c.min-first.ensures c.max-last.ensures
