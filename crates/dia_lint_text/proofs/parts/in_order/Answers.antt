use Rattle.std.proofs.Common.{map, rules, subst, IsPermutation}
use Rattle.std.proofs.lemmas.List.Sorted.{IsNonDecreasingBy-from_sort_by_key, IsPermutation-map}
use Rattle.dia_lint_text.specs.Rows.{entry_number}
use Rattle.dia_lint_text.proofs.Orders.{nondecreasing_map}
use Rattle.dia_lint_text.proofs.parts.in_order.Goals as goal

pub returns : goal.returns
returns g c =
    let d = g.B.Book.meaning c.args.book.now in
    record {
      all = subst (λ groups. IsPermutation groups (map (λ x. x.now) c.sort_by_key.new.self.items)) c.in_ok-groups.ensures (IsPermutation-map (λ x. x.now) _ _ c.sort_by_key.ensures.permutation);
      order = nondecreasing_map (λ x. x.now) (entry_number d) c.sort_by_key.new.self.items
          (IsNonDecreasingBy-from_sort_by_key (λ x. entry_number d x.now) _ c.in_ok-sort_by_key.ensures.sorted (λ a r q k. search rules));
    }
