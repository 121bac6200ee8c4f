use Rattle.std.proofs.Common.{◌≡◌, true, take}
use Rattle.std.specs.List.{list_all}
use Rattle.dia_compat.specs.Tests.{common_rule}
use Rattle.dia_compat.proofs.comparing.keys.common_within.Given as goal

abbrev pub invariant-loop-rule : goal.invariant-loop-rule
invariant-loop-rule g l = list_all (common_rule l.b) (take l.rule-index l.rule-items) ≡ true
