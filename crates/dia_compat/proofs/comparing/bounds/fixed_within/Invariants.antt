use Rattle.std.proofs.Common.{◌≡◌, drop}
use Rattle.dia_compat.specs.Tests.{begins_with}
use Rattle.dia_compat.proofs.comparing.bounds.fixed_within.Given as goal

abbrev pub invariant-loop-index : goal.invariant-loop-index
invariant-loop-index l = begins_with l.a l.b ≡ begins_with (drop l.index l.a) (drop l.index l.b)
