use Rattle.std.proofs.Common.{◌≡◌}
use Rattle.dia_lint.specs.Gathered.{gathered}
use Rattle.dia_lint.specs.OwnRules.{rule_part}
use Rattle.dia_lint.proofs.own_rules.of_rules.Given as goal

abbrev pub invariant-loop-index : goal.invariant-loop-index
invariant-loop-index l = l.found.items ≡ gathered (rule_part l.def l.rules) l.index
