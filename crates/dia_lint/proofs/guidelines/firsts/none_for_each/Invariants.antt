use Rattle.std.proofs.Common.{◌≡◌, replicate, None}
use Rattle.dia_lint.proofs.guidelines.firsts.none_for_each.Given as goal

abbrev pub invariant-loop : goal.invariant-loop
invariant-loop l = l.list.items ≡ replicate l.counter None
