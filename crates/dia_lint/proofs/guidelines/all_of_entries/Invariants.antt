use Rattle.std.proofs.Common.{◌≡◌}
use Rattle.dia_lint.specs.Gathered.{gathered}
use Rattle.dia_lint.specs.GuidelineLines.{lines_of_entry}
use Rattle.dia_lint.proofs.guidelines.all_of_entries.Given as goal

abbrev pub invariant-loop-index : goal.invariant-loop-index
invariant-loop-index g l = l.found.items ≡ gathered (lines_of_entry (g.B.Book.meaning l.book)) l.index
