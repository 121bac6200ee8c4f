use Rattle.std.proofs.Common.{◌≡◌, map}
use Rattle.std.specs.List.{fold}
use Rattle.std.specs.Map.Iter.{deref}
use Rattle.dia_follow.specs.Applications.{with_auth}
use Rattle.dia_follow.proofs.applications.Applications.add_auth.Given as goal

abbrev pub invariant-loop-number : goal.invariant-loop-number
invariant-loop-number l = l.self ≡ fold with_auth l.initial.self (map deref l.yielded)
