-- The element of a list at an index, if there is one.
use Rattle.std.proofs.Common.{◌≡◌, ℕ, zero, suc, ◌+◌, ◌-◌, ◌<◌, ◌≤◌, List, [], ◌∷◌, ◌++◌, length, take, drop, get_or, map, Option, None, inl, inr, refl, ap, sym, ◌∙◌, arith}
use Rattle.std.specs.Prelude.{slice_get, ◌⊎◌}
use Rattle.std.proofs.Math.ListN.{get_or-map}
use Rattle.std.proofs.lemmas.Bool.{cases_lt}

pub slice_get-drop : {X : Type 0} (n i : ℕ) (xs : List X) → slice_get (drop n xs) i ≡ slice_get xs (n + i)
slice_get-drop zero i xs = let same : i ≡ 0 + i = omega arith in ap (λ k. slice_get xs k) same
slice_get-drop (suc n) i [] = refl
slice_get-drop (suc n) i (x ∷ xs) = let same : suc (n + i) ≡ suc n + i = omega arith in slice_get-drop n i xs ∙ ap (λ k. slice_get (x ∷ xs) k) same

pub slice_get-take : {X : Type 0} (n i : ℕ) (xs : List X) → i < n → slice_get (take n xs) i ≡ slice_get xs i
slice_get-take zero i xs few = absurd (omega (arith, few))
slice_get-take (suc n) i [] few = refl
slice_get-take (suc n) zero (x ∷ xs) few = refl
slice_get-take (suc n) (suc i) (x ∷ xs) few = slice_get-take n i xs (omega (arith, few))

pub slice_get-append_left : {X : Type 0} (xs ys : List X) (i : ℕ) → i < length xs → slice_get (xs ++ ys) i ≡ slice_get xs i
slice_get-append_left [] ys i few = absurd (omega (arith, few))
slice_get-append_left (x ∷ xs) ys zero few = refl
slice_get-append_left (x ∷ xs) ys (suc i) few = slice_get-append_left xs ys i (omega (arith, few))

pub slice_get-append_right : {X : Type 0} (xs ys : List X) (i j : ℕ) → i ≡ length xs + j → slice_get (xs ++ ys) i ≡ slice_get ys j
slice_get-append_right [] ys i j same = ap (λ k. slice_get ys k) (omega (arith, same))
slice_get-append_right (x ∷ xs) ys zero j same = absurd (omega (arith, same))
slice_get-append_right (x ∷ xs) ys (suc i) j same = slice_get-append_right xs ys i j (omega (arith, same))

pub slice_get_none : {X : Type 0} (xs : List X) (i : ℕ) → slice_get xs i ≡ None → length xs ≤ i
slice_get_none [] i none = omega arith
slice_get_none (x ∷ xs) zero none = cc
slice_get_none (x ∷ xs) (suc i) none = omega (arith, slice_get_none xs i none)

pub get_or-map_read : {X Y : Type 0} (f : X → Y) (xs : List X) (i : ℕ) (x : X) → x ≡ get_or xs i x → f x ≡ get_or (map f xs) i (f x)
get_or-map_read f xs i x read = ap f read ∙ sym (get_or-map f xs i x)

-- what a list says of its elements, and another one of those behind them
pub slice_get_joined : {X : Type 0} (at : ℕ → Option X) (xs ys : List X) (n : ℕ) → n ≡ length xs → ((i : ℕ) → i < n → at i ≡ slice_get xs i)
    → ((j : ℕ) → j < length ys → at (n + j) ≡ slice_get ys j) → (i : ℕ) → i < n + length ys → at i ≡ slice_get (xs ++ ys) i
slice_get_joined at xs ys n same before behind i few = cases (cases_lt i n)
  where
    cases : (i < n) ⊎ (n ≤ i) → at i ≡ slice_get (xs ++ ys) i
    cases (inl less) = before i less ∙ sym (slice_get-append_left xs ys i (omega (arith, same, less)))
    cases (inr more) =
        let parts : i ≡ n + (i - n) = omega (arith, more) in
        ap at parts ∙ behind (i - n) (omega (arith, few, more)) ∙ sym (slice_get-append_right xs ys i (i - n) (omega (arith, same, more)))
