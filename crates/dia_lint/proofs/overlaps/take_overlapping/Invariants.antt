use Rattle.std.specs.BTreeMap.{btree_map_len}
use Rattle.dia_lint.specs.Overlaps.{AreJoined}
use Rattle.dia_lint.proofs.overlaps.take_overlapping.Given as goal

abbrev pub invariant-loop-other_first : goal.invariant-loop-other_first
invariant-loop-other_first l = AreJoined l.fn.ranges (l.fn.low, l.fn.high) l.ranges (l.first, l.last)

abbrev pub decreases-loop-other_first : goal.decreases-loop-other_first
decreases-loop-other_first l = btree_map_len l.ranges
