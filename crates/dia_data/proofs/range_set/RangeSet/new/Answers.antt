use Rattle.std.proofs.Common.{ℕ, ◌≤◌, ◌∙◌, sym, ap, subst, rules}
use Rattle.std.specs.Prelude.{All}
use Rattle.std.specs.List.{list_any}
use Rattle.std.specs.List.Sorted.{IsNonDecreasingBy}
use Rattle.std.proofs.lemmas.List.Sorted.{IsNonDecreasingBy-from_sort_by_key, All-permutation, list_any-IsPermutation}
use Rattle.dia_data.specs.Ranges.{covers}
use Rattle.dia_data.proofs.RangeSets.{all_filled, any_filled}
use Rattle.dia_data.proofs.range_set.RangeSet.new.Goals as goal

pub joined-requires-clause-ranges : goal.joined-requires-clause-ranges
joined-requires-clause-ranges c =
    subst (All (λ (r : ℕ × ℕ). r.0 ≤ r.1)) (sym c.deref.ensures.value)
    (All-permutation (λ (r : ℕ × ℕ). r.0 ≤ r.1) _ _ c.sort_unstable_by_key.ensures.permutation (subst (All (λ (r : ℕ × ℕ). r.0 ≤ r.1)) (sym c.in_ok-sorted.ensures) (all_filled c.args.ranges.now)))

pub joined-requires-clause-sorted : goal.joined-requires-clause-sorted
joined-requires-clause-sorted c =
    subst (IsNonDecreasingBy (λ (r : ℕ × ℕ). r.0)) (sym c.deref.ensures.value) (IsNonDecreasingBy-from_sort_by_key (λ r. r.0) _ c.sort_unstable_by_key.ensures.sorted (λ a r q k. search rules))

pub returns : goal.returns
returns c = λ n. c.in_ok-ranges.ensures.same n ∙ ap (list_any (covers n)) c.deref.ensures.value ∙ sym (list_any-IsPermutation (covers n) _ _ c.sort_unstable_by_key.ensures.permutation)
    ∙ ap (list_any (covers n)) c.in_ok-sorted.ensures ∙ any_filled n c.args.ranges.now
