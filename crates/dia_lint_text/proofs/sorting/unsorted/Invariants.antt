use Rattle.std.proofs.Common.{◌≡◌, map, take}
use Rattle.std.specs.List.{enumerate_from}
use Rattle.dia_lint_text.specs.Asking.{has_in}
use Rattle.dia_lint_text.specs.Rows.{plain_row, rows_among}
use Rattle.dia_lint_text.proofs.sorting.unsorted.Given as goal

abbrev pub invariant-loop-index : goal.invariant-loop-index
invariant-loop-index g l =
    map plain_row l.rows.items ≡ rows_among (has_in l.choice.chosen.items) (g.B.Book.meaning l.parts.book.now) l.parts.source.now (map (λ x. x.now) l.parts.groups.items)
    l.text (take l.index (enumerate_from 0 l.findings))
