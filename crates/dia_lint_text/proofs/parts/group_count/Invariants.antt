use Rattle.std.proofs.Common.{◌≡◌, ◌≤◌}
use Rattle.dia_lint_text.proofs.Counts.{number_of}
use Rattle.dia_lint_text.proofs.parts.group_count.Given as goal

abbrev pub invariant-loop-index : goal.invariant-loop-index
invariant-loop-index g l = record {
  counted : l.count ≡ number_of (g.B.Book.meaning l.book) l.index;
  few : l.count ≤ l.index;
}
