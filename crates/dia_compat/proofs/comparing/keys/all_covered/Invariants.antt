use Rattle.std.proofs.Common.{◌≡◌, true, take}
use Rattle.std.specs.List.{list_all}
use Rattle.dia_compat.specs.Tests.{covered_rule}
use Rattle.dia_compat.specs.PairTests.{is_covered}
use Rattle.dia_compat.proofs.comparing.keys.all_covered.Given as goal

abbrev pub invariant-loop-rule : goal.invariant-loop-rule
invariant-loop-rule g l = list_all (covered_rule (is_covered l.cover)) (take l.rule-index l.rule-items) ≡ true
