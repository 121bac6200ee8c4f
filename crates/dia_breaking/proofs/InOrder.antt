-- Of one list there is one that is in order.
use Rattle.std.proofs.Common.{◌≡◌, ℕ, suc, ◌<◌, Bool, true, false, cond, not, ◌&&◌, eqb, get_or, drop, List, [], ◌∷◌, length, map, sym, refl, ap, ap₂, subst, ◌∙◌, arith, inl, inr, is_lt, nat_cmp, Less, Equal, Greater}
use Rattle.std.specs.Prelude.{◌⊎◌, ◌==◌}
use Rattle.std.specs.List.{filter}
use Rattle.std.specs.List.Sorted.{IsNonDecreasingBy, IsStableByKey, ties}
use Rattle.std.proofs.lemmas.Bool.{cases_order, eq-eqb, ne_eqb}
use Rattle.std.proofs.lemmas.List.Elements.{filter_agree}
use Rattle.std.proofs.lemmas.List.Sorted.{IsNonDecreasingBy-from_sort_by_key}
use Rattle.std.specs.List.Sorted.{IsSortedByKeyClosure, IsStableByKeyClosure}
use Rattle.std.specs.Fn.{Called}
use denote.Param.Members.{Mut}
use denote.Ref.{Bor}
use Rattle.std.proofs.lemmas.Fn.{always_returns_same}
use Rattle.std.proofs.lemmas.List.{length-map, get_or-map}
use Rattle.std.specs.Cmp.{nat_cmp_is}
use Rattle.dia_breaking.specs.Orders.{IsInOrderOf}

module _ {X : Type 0} (number : X → ℕ) where
  abbrev at : ℕ → List X → List X
  at n xs = filter (λ x. number x == n) xs

  hit : (n : ℕ) (x : X) (xs : List X) → number x ≡ n → at n (x ∷ xs) ≡ x ∷ at n xs
  hit n x xs e = ap (λ b. cond b (x ∷ at n xs) (at n xs)) (eq-eqb (number x) n e)

  miss : (n : ℕ) (x : X) (xs : List X) → (number x ≡ n → ⊥) → at n (x ∷ xs) ≡ at n xs
  miss n x xs other = ap (λ b. cond b (x ∷ at n xs) (at n xs)) (ne_eqb (number x) n other)

  -- where each number is above n, none is n
  none : (n : ℕ) (xs : List X) → ((i : ℕ) (d : X) → i < length xs → n < number (get_or xs i d)) → at n xs ≡ []
  none n [] above = refl
  none n (x ∷ xs) above = miss n x xs (λ e. omega (arith, e, above 0 x (omega arith))) ∙ none n xs (λ i d l. above (suc i) d (omega arith))

  rest : (x : X) (xs : List X) → IsNonDecreasingBy number (x ∷ xs) → IsNonDecreasingBy number xs
  rest x xs up i j d le l = up (suc i) (suc j) d (omega arith) (omega arith)

  nothing : (x : X) (xs : List X) → [] ≡ x ∷ xs → ⊥
  nothing x xs e = absurd (let e' : 0 ≡ length (x ∷ xs) = ap length e in omega (arith, e'))

  head_is : (x y : X) (xs ys : List X) → x ∷ xs ≡ y ∷ ys → x ≡ y
  head_is x y xs ys e = ap (λ zs. get_or zs 0 x) e

  tail_is : (x y : X) (xs ys : List X) → x ∷ xs ≡ y ∷ ys → xs ≡ ys
  tail_is x y xs ys e = ap (λ zs. drop 1 zs) e

  abbrev AtSame : List X → List X → Type 0
  AtSame xs ys = (n : ℕ) → at n xs ≡ at n ys

  -- the first of the one is not below the first of the other
  not_below : (x y : X) (xs ys : List X) → IsNonDecreasingBy number (y ∷ ys) → AtSame (x ∷ xs) (y ∷ ys) → number x < number y → ⊥
  not_below x y xs ys up same less =
      nothing x (at (number x) xs) (sym (none (number x) (y ∷ ys) (λ i d l. omega (arith, less, up 0 i d (omega arith) l))) ∙ sym (same (number x)) ∙ hit (number x) x xs refl)

  first_of : (x y : X) (xs ys : List X) → AtSame (x ∷ xs) (y ∷ ys) → number x ≡ number y → x ∷ at (number x) xs ≡ y ∷ at (number x) ys
  first_of x y xs ys same e = sym (hit (number x) x xs refl) ∙ same (number x) ∙ hit (number x) y ys (sym e)

  tails : (x y : X) (xs ys : List X) → AtSame (x ∷ xs) (y ∷ ys) → number x ≡ number y → (n : ℕ) → (number x ≡ n) ⊎ ((number x < n) ⊎ (n < number x)) → at n xs ≡ at n ys
  tails x y xs ys same e n (inl is) = subst (λ k. at k xs ≡ at k ys) is (tail_is x y _ _ (first_of x y xs ys same e))
  tails x y xs ys same e n (inr (inl less)) = sym (miss n x xs (λ is. omega (arith, is, less))) ∙ same n ∙ miss n y ys (λ is. omega (arith, is, less, e))
  tails x y xs ys same e n (inr (inr more)) = sym (miss n x xs (λ is. omega (arith, is, more))) ∙ same n ∙ miss n y ys (λ is. omega (arith, is, more, e))

  joined : (x y : X) (xs ys : List X) → IsNonDecreasingBy number (x ∷ xs) → IsNonDecreasingBy number (y ∷ ys) → AtSame (x ∷ xs) (y ∷ ys) → (AtSame xs ys → xs ≡ ys)
      → (number x ≡ number y) ⊎ ((number x < number y) ⊎ (number y < number x)) → x ∷ xs ≡ y ∷ ys
  joined x y xs ys up up' same more (inr (inl less)) = absurd (not_below x y xs ys up' same less)
  joined x y xs ys up up' same more (inr (inr above)) = absurd (not_below y x ys xs up (λ n. sym (same n)) above)
  joined x y xs ys up up' same more (inl e) = ap (λ z. z ∷ xs) (head_is x y _ _ (first_of x y xs ys same e)) ∙ ap (λ zs. y ∷ zs) (more (λ n. tails x y xs ys same e n (cases_order (number x) n)))

  pub one_order : (xs ys : List X) → IsNonDecreasingBy number xs → IsNonDecreasingBy number ys → AtSame xs ys → xs ≡ ys
  one_order [] [] up up' same = refl
  one_order [] (y ∷ ys) up up' same = absurd (nothing y (at (number y) ys) (same (number y) ∙ hit (number y) y ys refl))
  one_order (x ∷ xs) [] up up' same = absurd (nothing x (at (number x) xs) (sym (same (number x)) ∙ hit (number x) x xs refl))
  one_order (x ∷ xs) (y ∷ ys) up up' same = joined x y xs ys up up' same (λ more. one_order xs ys (rest x xs up) (rest y ys up') more) (cases_order (number x) (number y))

  pub one_in_order : (all xs ys : List X) → IsInOrderOf number all xs → IsInOrderOf number all ys → xs ≡ ys
  one_in_order all xs ys first second = one_order xs ys first.rises second.rises (λ n. first.each n ∙ sym (second.each n))

-- ---- sorts

not_both : (a b : ℕ) → not (is_lt (nat_cmp a b)) && not (is_lt (nat_cmp b a)) ≡ eqb b a
not_both a b = by (cases_order a b)
  where
    by : (a ≡ b) ⊎ ((a < b) ⊎ (b < a)) → not (is_lt (nat_cmp a b)) && not (is_lt (nat_cmp b a)) ≡ eqb b a
    by (inl e) = ap₂ (λ p q. not (is_lt p) && not (is_lt q)) (sym (nat_cmp_is a b Equal e)) (sym (nat_cmp_is b a Equal (sym e))) ∙ sym (eq-eqb b a (sym e))
    by (inr (inl less)) = ap₂ (λ p q. not (is_lt p) && not (is_lt q)) (sym (nat_cmp_is a b Less less)) (sym (nat_cmp_is b a Greater less)) ∙ sym (ne_eqb b a (λ e. omega (arith, e, less)))
    by (inr (inr more)) = ap₂ (λ p q. not (is_lt p) && not (is_lt q)) (sym (nat_cmp_is a b Greater more)) (sym (nat_cmp_is b a Less more)) ∙ sym (ne_eqb b a (λ e. omega (arith, e, more)))

module _ {X : Type 0} (number : X → ℕ) where
  pub each_from_stable : (xs ys : List X) (x : X) → IsStableByKey number nat_cmp xs ys → filter (λ y. number y == number x) ys ≡ filter (λ y. number y == number x) xs
  each_from_stable xs ys x stable =
      let same = λ (zs : List X). filter_agree (ties (λ x y. is_lt (nat_cmp (number x) (number y))) x) (λ y. number y == number x) (λ y. not_both (number x) (number y)) zs in
      sym (same ys) ∙ stable x ∙ same xs

  -- a stable sort by the number, where each number is that of an element
  pub in_order : (of : ℕ → X) → ((n : ℕ) → number (of n) ≡ n) → {F : Type 0} {g : Mut F (Bor X × Unit {0}) ℕ} {f : F} (xs ys : List X) → IsSortedByKeyClosure g nat_cmp f ys
      → IsStableByKeyClosure g nat_cmp f xs ys
      → ((a : Bor X × Unit {0}) (r : ℕ) (f' : F) → Called g f a r f' → (r ≡ number a.0.now) × (f' ≡ f)) → IsInOrderOf number xs ys
  in_order of is {g = g} {f = f} xs ys sorted stable calls = record {
    rises = IsNonDecreasingBy-from_sort_by_key number ys sorted calls;
    each = λ n. subst (λ k. filter (λ y. number y == k) ys ≡ filter (λ y. number y == k) xs) (is n)
        (each_from_stable xs ys (of n) (stable number (always_returns_same g (λ a r. r ≡ number a.0.now) f calls)));
  }

-- ---- images

swap_if : {X Y : Type 0} (f : X → Y) (x : X) (rest : List X) (images : List Y) (b : Bool) → images ≡ map f rest → cond b (f x ∷ images) images ≡ map f (cond b (x ∷ rest) rest)
swap_if f x rest images true e = ap (λ zs. f x ∷ zs) e
swap_if f x rest images false e = e

pub filter_image : {X Y : Type 0} (f : X → Y) (p : Y → Bool) (xs : List X) → filter p (map f xs) ≡ map f (filter (λ x. p (f x)) xs)
filter_image f p [] = refl
filter_image f p (x ∷ xs) = swap_if f x (filter (λ y. p (f y)) xs) (filter p (map f xs)) (p (f x)) (filter_image f p xs)

-- where an image preserves the number, that of a list in order is in order
pub image_in_order : {X Y : Type 0} (f : X → Y) (number : X → ℕ) (of : Y → ℕ) → ((x : X) → of (f x) ≡ number x) → X → (all xs : List X) → IsInOrderOf number all xs
    → IsInOrderOf of (map f all) (map f xs)
image_in_order {X} {Y} f number of same some all xs order = record {
  rises = λ i j d le within. omega (
    arith,
    place j d (omega (arith, within, length-map xs f)),
    place i d (omega (arith, le, within, length-map xs f)),
    order.rises i j some le (omega (arith, within, length-map xs f)),
  );
  each = λ n. filter_image f (λ y. of y == n) xs ∙ ap (map f) (agree n xs ∙ order.each n ∙ sym (agree n all)) ∙ sym (filter_image f (λ y. of y == n) all);
}
  where
    place : (i : ℕ) (d : Y) → i < length xs → of (get_or (map f xs) i d) ≡ number (get_or xs i some)
    place i d within = ap of (get_or-map f xs i some d within) ∙ same (get_or xs i some)

    agree : (n : ℕ) (zs : List X) → filter (λ x. of (f x) == n) zs ≡ filter (λ x. number x == n) zs
    agree n zs = filter_agree (λ x. of (f x) == n) (λ x. number x == n) (λ x. ap (λ k. k == n) (same x)) zs
