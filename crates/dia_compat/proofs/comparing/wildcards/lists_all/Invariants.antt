use Rattle.std.proofs.Common.{◌≡◌, true, take}
use Rattle.std.specs.List.{list_all}
use Rattle.dia_valid.specs.Valid.{is_listed}
use Rattle.dia_compat.specs.Tests.{of_key}
use Rattle.dia_compat.proofs.comparing.wildcards.lists_all.Given as goal

abbrev pub invariant-loop-rule : goal.invariant-loop-rule
invariant-loop-rule g l = list_all (of_key (is_listed l.a)) (take l.rule-index l.rule-items) ≡ true
