use Rattle.std.proofs.Common.{◌≡◌, rules, subst}
use Rattle.std.specs.List.Sorted.{IsPermutation, IsStableByKey}
use Rattle.std.specs.Ordering.{nat_cmp}
use Rattle.std.proofs.lemmas.Fn.{always_returns_same}
use Rattle.std.proofs.lemmas.List.Sorted.{IsNonDecreasingBy-from_sort_by_key}
use Rattle.dia_breaking_shortest.specs.declared.order.Ranked.{Ranked}
use Rattle.dia_breaking_shortest.proofs.lookup.Least.order.Goals as goal

pub returns : goal.returns
returns g c =
    let length = λ (r : Ranked). r.length in
    record {
      sorted = IsNonDecreasingBy-from_sort_by_key length _ c.in_ok-sort_by_key.ensures.sorted (λ a r q k. search rules);
      all = subst (λ ranks. IsPermutation ranks c.sort_by_key.new.self.items) c.in_ok-order.ensures c.sort_by_key.ensures.permutation;
      stable = subst (λ ranks. IsStableByKey length nat_cmp ranks c.sort_by_key.new.self.items) c.in_ok-order.ensures
          (c.sort_by_key.ensures.stable length (always_returns_same _ (λ a r. r ≡ length a.0.now) _ (λ a r q k. search rules)));
    }
