-- Pairs of numbers in their order.
use Rattle.std.proofs.Common.{◌≡◌, ℕ, Bool, List, sym, ◌∙◌}
use Rattle.std.specs.BTreeSet.{BTreeSet}
use Rattle.std.specs.Cmp.{IsTotalOrder, nat_cmp_total, on_total, then_total}
use Rattle.std.proofs.lemmas.Map.Lookups.{CmpEqualImpliesEq, btree_set_from_contains, exact_pairs, exact_unsigned}
use Rattle.std.specs.Ordering.{nat_cmp}
use Rattle.dia_learn.specs.Facts.{AreThose, pairs_cmp}

pub pairs_total : IsTotalOrder pairs_cmp
pairs_total = then_total (on_total (λ p. p.0) nat_cmp_total) (on_total (λ p. p.1) nat_cmp_total)

pub pairs_exact : CmpEqualImpliesEq pairs_cmp
pairs_exact = exact_pairs nat_cmp nat_cmp exact_unsigned exact_unsigned

abbrev set_of : List (ℕ × ℕ) → BTreeSet (ℕ × ℕ)
set_of pairs = record { keys = pairs }

-- there is one list of the pairs that have something
pub one_list : (has also : ℕ × ℕ → Bool) (xs ys : List (ℕ × ℕ)) → ((q : ℕ × ℕ) → has q ≡ also q) → AreThose has xs → AreThose also ys → xs ≡ ys
one_list has also xs ys same a b = btree_set_from_contains pairs_total (set_of xs) (set_of ys) a.order b.order (λ q. a.all q ∙ same q ∙ sym (b.all q)) pairs_exact
