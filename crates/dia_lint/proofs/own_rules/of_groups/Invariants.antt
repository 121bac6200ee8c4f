use Rattle.std.proofs.Common.{◌≡◌}
use Rattle.dia_lint.specs.Gathered.{gathered}
use Rattle.dia_lint.specs.OwnRules.{rules_of_entry}
use Rattle.dia_lint.proofs.own_rules.of_groups.Given as goal

abbrev pub invariant-loop-index : goal.invariant-loop-index
invariant-loop-index g l = l.found.items ≡ gathered (rules_of_entry (g.B.Book.meaning l.book)) l.index
