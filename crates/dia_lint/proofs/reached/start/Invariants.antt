use Rattle.std.proofs.Common.{◌≡◌}
use Rattle.dia_lint.specs.Gathered.{gathered}
use Rattle.dia_lint.specs.Ways.{side_of, start_part}
use Rattle.dia_lint.proofs.reached.start.Given as goal

abbrev pub invariant-loop-index : goal.invariant-loop-index
invariant-loop-index g l = l.listed.items ≡ gathered (start_part (side_of g.B.Book.meaning l.lengths)) l.index
