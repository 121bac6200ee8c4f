-- The pairs the other way, place by place.
use Rattle.std.proofs.Common.{◌≡◌, ◌≢◌, ℕ, zero, suc, ◌+◌, ◌<◌, ◌≤◌, Bool, true, false, cond, ltb, List, [], ◌∷◌, ◌++◌, length, set, Option, Some, None, refl, sym, ap, subst, ◌∙◌, arith, inl, inr, get_or-set_same, get_or-set_other, length-set, length-append}
use Rattle.std.specs.Prelude.{◌⊎◌, slice_get}
use Rattle.std.proofs.lemmas.Bool.{cases_eq, cases_lt, ltb-false, ltb-true}
use Rattle.std.proofs.lemmas.Option.{none-some, same_Some, slice_get-get_or, slice_get_past, slice_get_within}
use Rattle.dia_book.proofs.Members.{at_append}
use Rattle.dia_differences.specs.Partners.{AreBothWays, AreNone, linked}

set_same : {X : Type 0} (xs : List X) (i : ℕ) (v : X) → i < length xs → slice_get (set xs i v) i ≡ Some v
set_same xs i v h = slice_get-get_or (set xs i v) i v (subst (λ (n : ℕ). i < n) (sym (length-set xs i v)) h) ∙ ap (λ x. Some x) (get_or-set_same xs i v v h)

set_other : {X : Type 0} (xs : List X) (i j : ℕ) (v : X) → j ≢ i → slice_get (set xs i v) j ≡ slice_get xs j
set_other {X} xs i j v apart = by (cases_lt j (length xs))
  where
    by : (j < length xs) ⊎ (length xs ≤ j) → slice_get (set xs i v) j ≡ slice_get xs j
    by (inl h) =
        slice_get-get_or (set xs i v) j v (subst (λ (n : ℕ). j < n) (sym (length-set xs i v)) h) ∙ ap (λ x. Some x) (get_or-set_other xs i j v v apart) ∙ sym (slice_get-get_or xs j v h)
    by (inr h) = slice_get_past (set xs i v) j (subst (λ (n : ℕ). n ≤ j) (sym (length-set xs i v)) h) ∙ sym (slice_get_past xs j h)

-- the pairs of the first n places
pub record IsLinked (there back : List (Option ℕ)) (count n : ℕ) : Type 0 where
  pub many : length back ≡ count
  pub back_of : (i j : ℕ) → slice_get back j ≡ Some (Some i) → slice_get there i ≡ Some (Some j)
  pub there_of : (i j : ℕ) → i < n → slice_get there i ≡ Some (Some j) → j < count → (k : ℕ) × (slice_get back j ≡ Some (Some k))

pub linked_none : (there back : List (Option ℕ)) (count : ℕ) → AreNone back count → IsLinked there back count 0
linked_none there back count h = record { many = h.many; back_of = λ i j at. absurd (h.none i j at); there_of = λ i j less at within. absurd (omega arith) }

pub linked_all : (there back : List (Option ℕ)) (count n : ℕ) → length there ≤ n → IsLinked there back count n → AreBothWays there back count
linked_all there back count n all h = record {
  many = h.many;
  back_of = h.back_of;
  there_of = λ i j at within. h.there_of i j (let inside : i < length there = slice_get_within there i (Some j) at in omega arith) at within;
}

same_some : (i j : ℕ) → Some (Some i) ≡ Some (Some j) → i ≡ j
same_some i j e = same_Some i j (same_Some (Some i) (Some j) e)

below_or : (i n : ℕ) → i < n + 1 → (i < n) ⊎ (i ≡ n)
below_or i n h = by (cases_lt i n)
  where
    by : (i < n) ⊎ (n ≤ i) → (i < n) ⊎ (i ≡ n)
    by (inl less) = inl less
    by (inr more) = inr (omega arith)

module _ (there back : List (Option ℕ)) (count n : ℕ) (h : IsLinked there back count n) where
  skipped : slice_get there n ≡ Some None → IsLinked there back count (n + 1)
  skipped here = record { many = h.many; back_of = h.back_of; there_of = λ i j less at within. by i j (below_or i n less) at within }
    where
      by : (i j : ℕ) → (i < n) ⊎ (i ≡ n) → slice_get there i ≡ Some (Some j) → j < count → (k : ℕ) × (slice_get back j ≡ Some (Some k))
      by i j (inl less) at within = h.there_of i j less at within
      by i j (inr same) at within = absurd (none-some j (same_Some None (Some j) (sym here ∙ ap (slice_get there) (sym same) ∙ at)))

  module _ (p : ℕ) (here : slice_get there n ≡ Some (Some p)) where
    named : (i j : ℕ) → i ≡ n → slice_get there i ≡ Some (Some j) → j ≡ p
    named i j same at = same_some j p (sym at ∙ ap (slice_get there) same ∙ here)

    outside : length back ≤ p → IsLinked there back count (n + 1)
    outside past = record { many = h.many; back_of = h.back_of; there_of = λ i j less at within. by i j (below_or i n less) at within }
      where
        by : (i j : ℕ) → (i < n) ⊎ (i ≡ n) → slice_get there i ≡ Some (Some j) → j < count → (k : ℕ) × (slice_get back j ≡ Some (Some k))
        by i j (inl less) at within = h.there_of i j less at within
        by i j (inr same) at within = absurd (let e : j ≡ p = named i j same at in let many : length back ≡ count = h.many in omega arith)

    inside : p < length back → IsLinked there (set back p (Some n)) count (n + 1)
    inside room = record { many = length-set back p (Some n) ∙ h.many; back_of = λ i j at. from i j (cases_eq j p) at; there_of = λ i j less at within. by i j (cases_eq j p) (below_or i n less) at within }
      where
        from : (i j : ℕ) → (j ≡ p) ⊎ (j ≡ p → ⊥) → slice_get (set back p (Some n)) j ≡ Some (Some i) → slice_get there i ≡ Some (Some j)
        from i j (inl same) at =
            let which : n ≡ i = same_some n i (sym (set_same back p (Some n) room) ∙ ap (slice_get (set back p (Some n))) (sym same) ∙ at) in
            ap (slice_get there) (sym which) ∙ here ∙ ap (λ (k : ℕ). Some (Some k)) (sym same)
        from i j (inr apart) at = h.back_of i j (sym (set_other back p j (Some n) apart) ∙ at)

        by : (i j : ℕ) → (j ≡ p) ⊎ (j ≡ p → ⊥) → (i < n) ⊎ (i ≡ n) → slice_get there i ≡ Some (Some j) → j < count → (k : ℕ) × (slice_get (set back p (Some n)) j ≡ Some (Some k))
        by i j (inl same) less at within = (n, ap (slice_get (set back p (Some n))) same ∙ set_same back p (Some n) room)
        by i j (inr apart) (inl less) at within = let (k, e) = h.there_of i j less at within in (k, set_other back p j (Some n) apart ∙ e)
        by i j (inr apart) (inr same) at within = absurd (apart (named i j same at))

pub linked_more : (there back : List (Option ℕ)) (count n : ℕ) (o : Option ℕ) → IsLinked there back count n → slice_get there n ≡ Some o → IsLinked there (linked back n o) count (n + 1)
linked_more there back count n None h here = skipped there back count n h here
linked_more there back count n (Some p) h here = by (ltb p (length back)) refl
  where
    by : (b : Bool) → ltb p (length back) ≡ b → IsLinked there (cond b (set back p (Some n)) back) count (n + 1)
    by true test = inside there back count n h p here (ltb-true p (length back) test)
    by false test = outside there back count n h p here (ltb-false p (length back) test)

-- ---- lists that grow

pub pushed_each : {Y : Type 0} (Q : ℕ → Y → Type 0) (ys : List Y) (y : Y) (n : ℕ) → length ys ≡ n → ((i : ℕ) (o : Y) → slice_get ys i ≡ Some o → Q i o) → Q n y
    → (i : ℕ) (o : Y) → slice_get (ys ++ y ∷ []) i ≡ Some o → Q i o
pushed_each {Y} Q ys y n many all here i o at = by (at_append ys (y ∷ []) i o at)
  where
    last : (j : ℕ) → i ≡ length ys + j → slice_get (y ∷ []) j ≡ Some o → Q i o
    last zero place there =
        let same : n ≡ i = omega (arith, many, place) in
        subst (λ (k : ℕ). Q k o) same (let P : Y → Type 0 = λ z. Q n z in subst P (same_Some y o there) here)
    last (suc j) place there = absurd (none-some o there)

    by : (slice_get ys i ≡ Some o) ⊎ ((j : ℕ) × (i ≡ length ys + j) × (slice_get (y ∷ []) j ≡ Some o)) → Q i o
    by (inl before) = all i o before
    by (inr (j, place, there)) = last j place there

pub length_more : {Y : Type 0} (ys : List Y) (y : Y) (n : ℕ) → length ys ≡ n → length (ys ++ y ∷ []) ≡ n + 1
length_more ys y n many = omega (arith, length-append ys (y ∷ []), many)

pub none_more : (made : List (Option ℕ)) (n : ℕ) → AreNone made n → AreNone (made ++ None ∷ []) (n + 1)
none_more made n h = record {
  many = length_more made None n h.many;
  none = λ i j at. pushed_each (λ (k : ℕ) (o : Option ℕ). o ≡ Some i → ⊥) made None n h.many (λ k o there e. h.none i k (there ∙ ap (λ (p : Option ℕ). Some p) e)) (λ e. none-some i e) j (Some i) at refl;
}

pub each_more : {Y : Type 0} (Q : ℕ → Y → Type 0) (ys zs : List Y) (y : Y) (n : ℕ) → zs ≡ ys ++ y ∷ [] → (length ys ≡ n) × ((i : ℕ) (o : Y) → slice_get ys i ≡ Some o → Q i o) → Q n y
    → (length zs ≡ n + 1) × ((i : ℕ) (o : Y) → slice_get zs i ≡ Some o → Q i o)
each_more {Y} Q ys zs y n same all here = (
  ap length same ∙ length_more ys y n all.0,
  λ i o at. pushed_each Q ys y n all.0 all.1 here i o (ap (λ (ws : List Y). slice_get ws i) (sym same) ∙ at),
)
