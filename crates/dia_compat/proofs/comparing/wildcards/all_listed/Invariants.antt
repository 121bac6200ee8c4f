use Rattle.std.proofs.Common.{◌≡◌, true, take}
use Rattle.std.specs.List.{list_all}
use Rattle.dia_compat.specs.Tests.{listed_rule}
use Rattle.dia_compat.proofs.comparing.wildcards.all_listed.Given as goal

abbrev pub invariant-loop-rule : goal.invariant-loop-rule
invariant-loop-rule g l = list_all (listed_rule l.b) (take l.rule-index l.rule-items) ≡ true
