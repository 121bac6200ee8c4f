use Rattle.std.proofs.Common.{◌≡◌, ◌++◌}
use Rattle.dia_lint.specs.ExactLines.{group_lines}
use Rattle.dia_lint.specs.Gathered.{gathered}
use Rattle.dia_lint.specs.Ways.{side_of}
use Rattle.dia_lint.proofs.exact.push_groups.Given as goal

abbrev pub invariant-loop-index : goal.invariant-loop-index
invariant-loop-index g l = l.found.items ≡ l.initial.found.items ++ gathered (group_lines (side_of g.B.Book.meaning l.lengths) l.reached) l.index
