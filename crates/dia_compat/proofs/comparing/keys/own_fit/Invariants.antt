use Rattle.std.proofs.Common.{◌≡◌, true, take}
use Rattle.std.specs.List.{list_all}
use Rattle.dia_compat.specs.Tests.{may_come, own_rule}
use Rattle.dia_valid.specs.Rules.{wildcard_of}
use Rattle.dia_compat.proofs.comparing.keys.own_fit.Given as goal

abbrev pub invariant-loop-rule : goal.invariant-loop-rule
invariant-loop-rule g l = list_all (own_rule (may_come l.sides) l.a (wildcard_of l.a)) (take l.rule-index l.rule-items) ≡ true
