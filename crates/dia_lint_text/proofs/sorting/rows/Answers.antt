use Rattle.std.proofs.Common.{map, subst, IsPermutation}
use Rattle.std.specs.Ordering.{is_lt}
use Rattle.std.proofs.lemmas.List.Sorted.{IsPermutation-map}
use Rattle.dia_lint_text.specs.Rows.{plain_row, row_cmp}
use Rattle.dia_lint_text.proofs.Orders.{sorted_map}
use Rattle.dia_lint_text.proofs.sorting.rows.Goals as goal

pub returns : goal.returns
returns g c = record {
  all = subst (λ unsorted. IsPermutation unsorted (map plain_row c.sort.new.self.items)) c.in_ok-rows.ensures (IsPermutation-map plain_row _ _ c.sort.ensures.permutation);
  order = sorted_map plain_row (λ x y. is_lt (row_cmp x y)) c.sort.new.self.items c.in_ok-sort.ensures.sorted;
}
