use Rattle.std.proofs.Common.{◌≡◌, ◌≤◌, ◌++◌, drop}
use Rattle.dia_breaking.specs.Gaps.{gaps}
use Rattle.dia_breaking.proofs.number_lists.push_gaps.Given as goal

abbrev pub invariant-loop-other : goal.invariant-loop-other
invariant-loop-other l = record {
  first : l.first ≤ l.high;
  same : l.found.items ++ gaps l.first l.high (drop l.other-index l.others) ≡ l.initial.found.items ++ gaps l.low l.high l.others;
}
