-- Sets of counts, and what is in them.
use Rattle.std.proofs.Common.{◌≡◌, ℕ, ◌+◌, ◌<◌, ◌≤◌, Bool, true, false, cond, List, ◌++◌, length, get_or, Option, Some, refl, sym, ap, subst, ◌∙◌, arith, inl, inr}
use Rattle.std.specs.Prelude.{◌⊎◌, ◌↔◌, option_and_then, option_to_list, slice_get, IsTrue}
use Rattle.std.specs.BTreeSet.{BTreeSet, IsOrdered, Updates, contains}
use Rattle.std.specs.Ordering.{nat_cmp, is_eq}
use Rattle.std.specs.BTreeMap.{is_at}
use Rattle.std.specs.declared.cmp.Ordering.{Ordering}
use Rattle.std.specs.declared.cmp.Ordering.TheVariants.{Less, Equal, Greater}
use Rattle.std.specs.Cmp.{IsTotalOrder, nat_cmp_total, on_total, then_total}
use Rattle.std.proofs.lemmas.Bool.{cases_lt}
use Rattle.std.proofs.lemmas.Map.Lookups.{CmpEqualImpliesEq, btree_set_from_contains, exact_pairs, exact_unsigned}
use Rattle.std.proofs.lemmas.Option.{same_Some, slice_get-get_or}
use Rattle.dia_book.specs.declared.DRule.{DRule}
use Rattle.dia_lint.specs.Gathered.{gathered}
use Rattle.dia_lint.specs.NormalForms.{HasAny, any_counts, counts_cmp, first_counts, first_part, pairs_cmp}
use Rattle.dia_lint.proofs.Added.{one_part_more}

pub counts_total : IsTotalOrder counts_cmp
counts_total = then_total (on_total (λ p. p.0) (then_total (on_total (λ p. p.0) nat_cmp_total) (on_total (λ p. p.1) nat_cmp_total))) (on_total (λ p. p.1) (then_total (on_total (λ p. p.0) nat_cmp_total) (on_total (λ p. p.1) nat_cmp_total)))

pub counts_exact : CmpEqualImpliesEq counts_cmp
counts_exact = exact_pairs pairs_cmp pairs_cmp (exact_pairs nat_cmp nat_cmp exact_unsigned exact_unsigned) (exact_pairs nat_cmp nat_cmp exact_unsigned exact_unsigned)

-- equal sets have the same counts, and sets of the same counts are equal
pub same_keys : (s t : BTreeSet ((ℕ × ℕ) × (ℕ × ℕ))) → IsOrdered counts_cmp s → IsOrdered counts_cmp t → ((q : (ℕ × ℕ) × (ℕ × ℕ)) → contains counts_cmp s q ≡ contains counts_cmp t q) → s.keys ≡ t.keys
same_keys s t os ot same = btree_set_from_contains counts_total s t os ot same counts_exact

-- ---- one set of counts more

is_equal : (o : Ordering) → is_eq o ≡ true → o ≡ Equal
is_equal Less e = absurd (let f : false ≡ true = e in cc)
is_equal Equal e = refl
is_equal Greater e = absurd (let f : false ≡ true = e in cc)

pub set_more : (old new : BTreeSet ((ℕ × ℕ) × (ℕ × ℕ))) (k : (ℕ × ℕ) × (ℕ × ℕ)) (counts : Option ((ℕ × ℕ) × (ℕ × ℕ))) → Updates counts_cmp old new k true → counts ≡ Some k
    → (q : (ℕ × ℕ) × (ℕ × ℕ)) → IsTrue (contains counts_cmp new q) ↔ (IsTrue (contains counts_cmp old q) ⊎ (counts ≡ Some q))
set_more old new k counts updates is q = (λ h. to (is_at (counts_cmp k) q) refl (sym (updates.0 q) ∙ h), from)
  where
    to : (b : Bool) → is_at (counts_cmp k) q ≡ b → cond b true (contains counts_cmp old q) ≡ true → IsTrue (contains counts_cmp old q) ⊎ (counts ≡ Some q)
    to true e h = inr (is ∙ ap (λ (x : (ℕ × ℕ) × (ℕ × ℕ)). Some x) (counts_exact k q (is_equal (counts_cmp k q) e)))
    to false e h = inl h

    kept : (b : Bool) → contains counts_cmp old q ≡ true → cond b true (contains counts_cmp old q) ≡ true
    kept true h = refl
    kept false h = h

    from : IsTrue (contains counts_cmp old q) ⊎ (counts ≡ Some q) → IsTrue (contains counts_cmp new q)
    from (inl h) = updates.0 q ∙ kept (is_at (counts_cmp k) q) h
    from (inr e) = subst (λ (x : (ℕ × ℕ) × (ℕ × ℕ)). contains counts_cmp new x ≡ true) (same_Some k q (sym is ∙ e)) updates.1

pub any_more : (rules : List DRule) (others : Option DRule) (i : ℕ) (d : DRule) (old new : BTreeSet ((ℕ × ℕ) × (ℕ × ℕ))) (counts : Option ((ℕ × ℕ) × (ℕ × ℕ))) → i < length rules
    → counts ≡ any_counts others (get_or rules i d) → ((q : (ℕ × ℕ) × (ℕ × ℕ)) → IsTrue (contains counts_cmp old q) ↔ HasAny rules others i q)
    → ((q : (ℕ × ℕ) × (ℕ × ℕ)) → IsTrue (contains counts_cmp new q) ↔ (IsTrue (contains counts_cmp old q) ⊎ (counts ≡ Some q)))
    → (q : (ℕ × ℕ) × (ℕ × ℕ)) → IsTrue (contains counts_cmp new q) ↔ HasAny rules others (i + 1) q
any_more rules others i d old new counts within is was more q = (λ h. to ((more q).0 h), λ (j, lt, e). from j lt e (cases_lt j i))
  where
    here : option_and_then (any_counts others) (slice_get rules i) ≡ counts
    here = ap (option_and_then (any_counts others)) (slice_get-get_or rules i d within) ∙ sym is

    to : IsTrue (contains counts_cmp old q) ⊎ (counts ≡ Some q) → HasAny rules others (i + 1) q
    to (inl h) = let (j, lt, e) = (was q).0 h in (j, omega (arith, lt), e)
    to (inr e) = (i, omega arith, here ∙ e)

    from : (j : ℕ) → j < i + 1 → option_and_then (any_counts others) (slice_get rules j) ≡ Some q → (j < i) ⊎ (i ≤ j) → IsTrue (contains counts_cmp new q)
    from j lt e (inl less) = (more q).1 (inl ((was q).1 (j, less, e)))
    from j lt e (inr le) =
        let same : j ≡ i = omega (arith, le, lt) in
        (more q).1 (inr (sym here ∙ ap (λ (k : ℕ). option_and_then (any_counts others) (slice_get rules k)) (sym same) ∙ e))

-- ---- one first rule more

pub first_more : (rules : List DRule) (i : ℕ) (d : DRule) (old new : List ((ℕ × ℕ) × (ℕ × ℕ))) (counts : Option ((ℕ × ℕ) × (ℕ × ℕ))) → i < length rules
    → counts ≡ first_counts (get_or rules i d) → new ≡ old ++ option_to_list counts → old ≡ gathered (first_part rules) i → new ≡ gathered (first_part rules) (i + 1)
first_more rules i d old new counts within is same was =
    same ∙ ap (λ (xs : List ((ℕ × ℕ) × (ℕ × ℕ))). xs ++ option_to_list counts) was ∙ ap (λ (o : Option ((ℕ × ℕ) × (ℕ × ℕ))). gathered (first_part rules) i ++ option_to_list o) here
    ∙ one_part_more (first_part rules) i
  where
    here : counts ≡ option_and_then first_counts (slice_get rules i)
    here = is ∙ ap (option_and_then first_counts) (sym (slice_get-get_or rules i d within))
