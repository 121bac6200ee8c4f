use Rattle.std.proofs.Common.{◌≡◌, true, take}
use Rattle.std.specs.List.{list_all}
use Rattle.dia_valid.specs.Valid.{has_wildcard}
use Rattle.dia_compat.specs.Tests.{let_in_rule}
use Rattle.dia_compat.proofs.comparing.keys.let_in.Given as goal

abbrev pub invariant-loop-rule : goal.invariant-loop-rule
invariant-loop-rule g l = list_all (let_in_rule l.b (has_wildcard l.b)) (take l.rule-index l.rule-items) ≡ true
