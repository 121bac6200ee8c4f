use Rattle.std.proofs.Common.{◌≡◌, take}
use Rattle.dia_breaking.specs.Gaps.{all_gaps}
use Rattle.dia_breaking.proofs.number_lists.without.Given as goal

abbrev pub invariant-loop-low : goal.invariant-loop-low
invariant-loop-low l = l.found.items ≡ all_gaps (take l.low-index l.ranges) l.others
