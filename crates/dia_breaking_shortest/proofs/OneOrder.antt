-- A list in the order of numbers, in which those of one number have the order of another list, is unique.
use Rattle.std.proofs.Common.{◌≡◌, ℕ, suc, ◌≤◌, Bool, true, false, cond, get_or, List, [], ◌∷◌, filter, Some, refl, sym, ap, ◌∙◌, arith, rules}
use Rattle.std.specs.Prelude.{slice_get}
use Rattle.std.specs.List.Sorted.{IsNonDecreasingBy, IsStableByKey, ties}
use Rattle.std.specs.Ordering.{is_lt, nat_cmp}
use Rattle.std.proofs.lemmas.Bool.{and_from, not_from_false}
use Rattle.std.proofs.lemmas.Option.{get_or_from_slice_get, none-some, same_Some, slice_get_within}
use Rattle.dia_book.proofs.Members.{at_filter}

module _ {X : Type 0} (f : X → ℕ) where
  abbrev below : X → X → Bool
  below x y = is_lt (nat_cmp (f x) (f y))

  abbrev tie : X → X → Bool
  tie = ties below

  not_below : (m n : ℕ) → n ≤ m → is_lt (nat_cmp m n) ≡ false
  not_below m n le = search rules

  tie_same : (x y : X) → f x ≡ f y → tie x y ≡ true
  tie_same x y same = and_from _ _ (not_from_false (below x y) (not_below (f x) (f y) (omega (arith, same)))) (not_from_false (below y x) (not_below (f y) (f x) (omega (arith, same))))

  abbrev AreAlike : List X → List X → Type 0
  AreAlike xs ys = (x : X) → filter (tie x) xs ≡ filter (tie x) ys

  -- the first of one list is no greater than a member of it
  least_first : (y : X) (ys : List X) (i : ℕ) (z : X) → IsNonDecreasingBy f (y ∷ ys) → slice_get (y ∷ ys) i ≡ Some z → f y ≤ f z
  least_first y ys i z sorted at =
      let le : f y ≤ f (get_or (y ∷ ys) i y) = sorted 0 i y (omega arith) (slice_get_within (y ∷ ys) i z at) in
      let same : f (get_or (y ∷ ys) i y) ≡ f z = ap f (get_or_from_slice_get (y ∷ ys) i z y at) in
      omega (arith, le, same)

  -- a list that is alike has the first of the other
  has_first : (xs : List X) (z : X) (zs : List X) → AreAlike xs (z ∷ zs) → (i : ℕ) × (slice_get xs i ≡ Some z)
  has_first xs z zs are =
      let first : filter (tie z) (z ∷ zs) ≡ z ∷ filter (tie z) zs = ap (λ (b : Bool). cond b (z ∷ filter (tie z) zs) (filter (tie z) zs)) (tie_same z z refl) in
      let r = at_filter (tie z) xs 0 z (ap (λ (ys : List X). slice_get ys 0) (are z ∙ first)) in
      (r.0, r.1)

  no_first : (z : X) (zs : List X) → AreAlike [] (z ∷ zs) → ⊥
  no_first z zs are = let r = has_first [] z zs are in none-some z r.1

  rest_sorted : (x : X) (xs : List X) → IsNonDecreasingBy f (x ∷ xs) → IsNonDecreasingBy f xs
  rest_sorted x xs sorted = λ i j z le within. sorted (suc i) (suc j) z (omega (arith, le)) (omega (arith, within))

  abbrev rest_list : List X → List X
  rest_list [] = []
  rest_list (x ∷ xs) = xs

  rest_alike : (y z : X) (ys zs : List X) → y ≡ z → AreAlike (y ∷ ys) (z ∷ zs) → AreAlike ys zs
  rest_alike y z ys zs same are x = by (tie x y) (are x ∙ ap (λ (w : X). cond (tie x w) (w ∷ filter (tie x) zs) (filter (tie x) zs)) (sym same))
    where
      by : (b : Bool) → cond b (y ∷ filter (tie x) ys) (filter (tie x) ys) ≡ cond b (y ∷ filter (tie x) zs) (filter (tie x) zs) → filter (tie x) ys ≡ filter (tie x) zs
      by true e = ap rest_list e
      by false e = e

  one_first : (y z : X) (ys zs : List X) → IsNonDecreasingBy f (y ∷ ys) → IsNonDecreasingBy f (z ∷ zs) → AreAlike (y ∷ ys) (z ∷ zs) → y ≡ z
  one_first y z ys zs up_y up_z are =
      let p = has_first (y ∷ ys) z zs are in
      let q = has_first (z ∷ zs) y ys (λ x. sym (are x)) in
      let le = least_first y ys p.0 z up_y p.1 in
      let ge = least_first z zs q.0 y up_z q.1 in
      let here : filter (tie y) (y ∷ ys) ≡ y ∷ filter (tie y) ys = ap (λ (b : Bool). cond b (y ∷ filter (tie y) ys) (filter (tie y) ys)) (tie_same y y refl) in
      let there : filter (tie y) (z ∷ zs) ≡ z ∷ filter (tie y) zs = ap (λ (b : Bool). cond b (z ∷ filter (tie y) zs) (filter (tie y) zs)) (tie_same y z (omega (arith, le, ge))) in
      same_Some y z (ap (λ (xs : List X). slice_get xs 0) (sym here ∙ are y ∙ there))

  pub one_order : (ys zs : List X) → IsNonDecreasingBy f ys → IsNonDecreasingBy f zs → AreAlike ys zs → ys ≡ zs
  one_order [] [] up_y up_z are = refl
  one_order [] (z ∷ zs) up_y up_z are = absurd (no_first z zs are)
  one_order (y ∷ ys) [] up_y up_z are = absurd (no_first y ys (λ x. sym (are x)))
  one_order (y ∷ ys) (z ∷ zs) up_y up_z are =
      let first = one_first y z ys zs up_y up_z are in
      let rest = one_order ys zs (rest_sorted y ys up_y) (rest_sorted z zs up_z) (rest_alike y z ys zs first are) in
      λ i. first i ∷ rest i

  -- so it is by a stable sort
  pub one_sorted : (xs ys zs : List X) → IsNonDecreasingBy f ys → IsNonDecreasingBy f zs → IsStableByKey f nat_cmp xs ys → IsStableByKey f nat_cmp xs zs → ys ≡ zs
  one_sorted xs ys zs up_y up_z first second = one_order ys zs up_y up_z (λ x. first x ∙ sym (second x))
