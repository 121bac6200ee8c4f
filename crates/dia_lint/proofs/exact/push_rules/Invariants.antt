use Rattle.std.proofs.Common.{◌≡◌, ◌++◌}
use Rattle.dia_valid.specs.Rules.{rules_in}
use Rattle.dia_lint.specs.ExactLines.{rule_lines}
use Rattle.dia_lint.specs.Gathered.{gathered}
use Rattle.dia_lint.specs.Ways.{side_of}
use Rattle.dia_lint.proofs.exact.push_rules.Given as goal

abbrev pub invariant-loop-index : goal.invariant-loop-index
invariant-loop-index g l =
    let s = side_of g.B.Book.meaning l.lengths in
    l.found.items ≡ l.initial.found.items ++ gathered (rule_lines s l.def l.way (rules_in s.book l.def)) l.index
