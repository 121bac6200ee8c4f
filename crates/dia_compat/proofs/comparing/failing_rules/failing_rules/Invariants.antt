use Rattle.std.proofs.Common.{◌≡◌, take}
use Rattle.dia_compat.specs.Failings.{among}
use Rattle.dia_compat.specs.FailingRules.{asked_rules, fails_rule}
use Rattle.dia_compat.proofs.comparing.failing_rules.failing_rules.Given as goal

abbrev pub invariant-loop-index : goal.invariant-loop-index
invariant-loop-index g l = l.all.items ≡ among (fails_rule l.cover l.test l.a l.b) (take l.index (asked_rules l.test l.a l.b))
