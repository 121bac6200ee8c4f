use Rattle.std.proofs.Common.{◌≡◌, map}
use Rattle.std.specs.List.{list_any}
use Rattle.std.specs.Map.Iter.{deref}
use Rattle.dia_follow.specs.Applications.{has}
use Rattle.dia_follow.proofs.applications.shares_one.Given as goal

abbrev pub invariant-loop-number : goal.invariant-loop-number
invariant-loop-number l = l.found ≡ list_any (has l.theirs.keys) (map deref l.yielded)
