use Rattle.std.proofs.Common.{◌≡◌, filter, map}
use Rattle.std.specs.Map.Iter.{deref}
use Rattle.dia_follow.specs.Applications.{has}
use Rattle.dia_follow.proofs.applications.numbers_in.Given as goal

abbrev pub invariant-loop-number : goal.invariant-loop-number
invariant-loop-number l = l.numbers.items ≡ filter (has l.others.keys) (map deref l.yielded)
