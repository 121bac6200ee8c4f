-- What a sort by pairs of numbers gives, where the second numbers rise before it.
use Rattle.std.proofs.Common.{◌≡◌, ◌≢◌, ℕ, zero, suc, ◌<◌, ◌≤◌, Bool, true, false, eqb, List, [], ◌∷◌, length, Some, refl, sym, ap, ap₂, ◌∙◌, get_or, arith, inl, inr, is_lt, nat_cmp, Less, Equal}
use Rattle.std.specs.Prelude.{◌⊎◌, slice_get, sum_by}
use Rattle.std.specs.Cmp.{IsTotalOrder, nat_cmp_is, nat_cmp_total, on_total, then_total}
use Rattle.std.specs.Fn.{Called}
use Rattle.std.specs.declared.cmp.Ordering.{Ordering}
use Rattle.std.specs.Ordering.{ordering_then}
use Rattle.std.specs.List.Sorted.{IsPermutation, IsSortedByKeyClosure}
use Rattle.std.proofs.lemmas.Bool.{cases_eq, cases_order, eq-eqb, ne_eqb}
use Rattle.std.proofs.lemmas.Fn.{always_returns_same}
use Rattle.std.proofs.lemmas.List.Sorted.{ranks_by, sorted_far, sum_by-IsPermutation}
use Rattle.std.proofs.lemmas.List.Sums.{sum_by-cons}
use Rattle.std.proofs.lemmas.Option.{none-some, same_Some, get_or_from_slice_get}
use denote.Param.Members.{Mut}
use denote.Ref.{Bor}
use Rattle.dia_breaking_ways.specs.Openings.{IsLess, IsOrdered}

-- ---- pairs

abbrev pair_cmp : ℕ × ℕ → ℕ × ℕ → Ordering
pair_cmp x y = ordering_then (nat_cmp x.0 y.0) (nat_cmp x.1 y.1)

not_less : (x y : ℕ × ℕ) → is_lt (pair_cmp x y) ≡ false → ¬ IsLess x y
not_less x y e (inl h) =
    let f : is_lt (pair_cmp x y) ≡ true = ap (λ o. is_lt (ordering_then o (nat_cmp x.1 y.1))) (sym (nat_cmp_is x.0 y.0 Less h)) in
    absurd (let bad : false ≡ true = sym e ∙ f in cc)
not_less x y e (inr h) =
    let f : is_lt (pair_cmp x y) ≡ true = ap₂ (λ o p. is_lt (ordering_then o p)) (sym (nat_cmp_is x.0 y.0 Equal h.0)) (sym (nat_cmp_is x.1 y.1 Less h.1)) in
    absurd (let bad : false ≡ true = sym e ∙ f in cc)

less_by : (x y : ℕ × ℕ) → x.1 ≢ y.1 → ¬ IsLess y x → IsLess x y
less_by x y other not = by (cases_order x.0 y.0) (cases_order x.1 y.1)
  where
    by : (x.0 ≡ y.0) ⊎ ((x.0 < y.0) ⊎ (y.0 < x.0)) → (x.1 ≡ y.1) ⊎ ((x.1 < y.1) ⊎ (y.1 < x.1)) → IsLess x y
    by (inr (inl less)) second = inl less
    by (inr (inr more)) second = absurd (not (inl more))
    by (inl e) (inl same) = absurd (other same)
    by (inl e) (inr (inl less)) = inr (e, less)
    by (inl e) (inr (inr more)) = absurd (not (inr (sym e, more)))

-- ---- lists

abbrev one_if : Bool → ℕ
one_if true = 1
one_if false = 0

module _ {X : Type 0} (key : X → ℕ × ℕ) where
  -- the second numbers rise
  abbrev pub SecondsRise : List X → Type 0
  SecondsRise xs = (i j : ℕ) (s t : X) → i < j → slice_get xs i ≡ Some s → slice_get xs j ≡ Some t → (key s).1 < (key t).1

  -- whether the second number is this
  abbrev hit : ℕ → X → ℕ
  hit n x = one_if (eqb (key x).1 n)

  hits : (n : ℕ) (x : X) → (key x).1 ≡ n → hit n x ≡ 1
  hits n x e = ap one_if (eq-eqb (key x).1 n e)

  misses : (n : ℕ) (x : X) → (key x).1 ≢ n → hit n x ≡ 0
  misses n x other = ap one_if (ne_eqb (key x).1 n other)

  never : (n : ℕ) (xs : List X) → ((i : ℕ) (x : X) → slice_get xs i ≡ Some x → (key x).1 ≢ n) → sum_by (hit n) xs ≡ 0
  never n [] none = refl
  never n (x ∷ xs) none =
      let here = misses n x (none zero x refl) in
      let ih = never n xs (λ i y e. none (suc i) y e) in
      let more = sum_by-cons (hit n) x xs in
      omega (arith, here, ih, more)

  once : (n : ℕ) (xs : List X) → SecondsRise xs → sum_by (hit n) xs ≤ 1
  once n [] rise = omega arith
  once n (x ∷ xs) rise = by (cases_eq (key x).1 n) (once n xs (λ i j s t less at_i at_j. rise (suc i) (suc j) s t (omega (arith, less)) at_i at_j))
    where
      by : ((key x).1 ≡ n) ⊎ ((key x).1 ≢ n) → sum_by (hit n) xs ≤ 1 → sum_by (hit n) (x ∷ xs) ≤ 1
      by (inl e) ih =
          let here = hits n x e in
          let rest = never n xs (λ i y at same. let less = rise zero (suc i) x y (omega arith) refl at in omega (arith, less, same, e)) in
          let more = sum_by-cons (hit n) x xs in
          omega (arith, here, rest, more)
      by (inr other) ih =
          let here = misses n x other in
          let more = sum_by-cons (hit n) x xs in
          omega (arith, here, ih, more)

  at_least_once : (n : ℕ) (ys : List X) (j : ℕ) (t : X) → slice_get ys j ≡ Some t → (key t).1 ≡ n → 1 ≤ sum_by (hit n) ys
  at_least_once n [] j t at e = absurd (none-some t at)
  at_least_once n (y ∷ ys) zero t at e =
      let here = hits n y (ap (λ (z : X). (key z).1) (same_Some y t at) ∙ e) in
      let more = sum_by-cons (hit n) y ys in
      omega (arith, here, more)
  at_least_once n (y ∷ ys) (suc j) t at e =
      let ih = at_least_once n ys j t at e in
      let more = sum_by-cons (hit n) y ys in
      omega (arith, ih, more)

  twice : (n : ℕ) (ys : List X) (i j : ℕ) (s t : X) → i < j → slice_get ys i ≡ Some s → slice_get ys j ≡ Some t → (key s).1 ≡ n → (key t).1 ≡ n → 2 ≤ sum_by (hit n) ys
  twice n [] i j s t less at_i at_j e f = absurd (none-some s at_i)
  twice n (y ∷ ys) i zero s t less at_i at_j e f = absurd (omega (arith, less))
  twice n (y ∷ ys) zero (suc j) s t less at_i at_j e f =
      let here = hits n y (ap (λ (z : X). (key z).1) (same_Some y s at_i) ∙ e) in
      let rest = at_least_once n ys j t at_j f in
      let more = sum_by-cons (hit n) y ys in
      omega (arith, here, rest, more)
  twice n (y ∷ ys) (suc i) (suc j) s t less at_i at_j e f =
      let ih = twice n ys i j s t (omega (arith, less)) at_i at_j e f in
      let more = sum_by-cons (hit n) y ys in
      omega (arith, ih, more)

  distinct : (xs ys : List X) → IsPermutation xs ys → SecondsRise xs → (i j : ℕ) (s t : X) → i < j → slice_get ys i ≡ Some s → slice_get ys j ≡ Some t → (key s).1 ≢ (key t).1
  distinct xs ys moved rise i j s t less at_i at_j same =
      let n = (key t).1 in
      let most = once n xs rise in
      let kept = sum_by-IsPermutation (hit n) xs ys moved in
      let two = twice n ys i j s t less at_i at_j same refl in
      omega (arith, most, kept, two)

  total : IsTotalOrder pair_cmp
  total = then_total (on_total (λ (p : ℕ × ℕ). p.0) nat_cmp_total) (on_total (λ (p : ℕ × ℕ). p.1) nat_cmp_total)

  pub pairs_in_order : {F : Type 0} {g : Mut F (Bor X × Unit {0}) (ℕ × ℕ)} {f : F} (xs ys : List X) → IsPermutation xs ys → SecondsRise xs → IsSortedByKeyClosure g pair_cmp f ys
      → ((a : Bor X × Unit {0}) (r : ℕ × ℕ) (f' : F) → Called g f a r f' → (r ≡ key a.0.now) × (f' ≡ f)) → IsOrdered key ys (length ys)
  pairs_in_order {g = g} {f = f} xs ys moved rise sorted calls i j s t less below at_i at_j =
      let up = sorted key (always_returns_same g (λ a r. r ≡ key a.0.now) f calls) in
      let far = sorted_far (λ x y. is_lt (pair_cmp (key x) (key y))) (ranks_by total key) ys up i j s (omega (arith, less)) below in
      let at_first : get_or ys i s ≡ s = get_or_from_slice_get ys i s s at_i in
      let at_second : get_or ys j s ≡ t = get_or_from_slice_get ys j t s at_j in
      let same = sym (ap₂ (λ x y. is_lt (pair_cmp (key x) (key y))) at_second at_first) ∙ far in
      less_by (key s) (key t) (distinct xs ys moved rise i j s t less at_i at_j) (not_less (key t) (key s) same)
