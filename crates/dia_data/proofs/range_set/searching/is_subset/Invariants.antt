use Rattle.dia_data.proofs.RangeSets.{IsWalked}
use Rattle.dia_data.proofs.range_set.searching.is_subset.Given as goal

abbrev pub invariant-loop-low : goal.invariant-loop-low
invariant-loop-low l = IsWalked l.f l.g l.low-index l.place
