-- Tests and searches of lists that are mapped.
use Rattle.std.proofs.Common.{◌≡◌, ℕ, zero, suc, ◌+◌, ◌<◌, Bool, true, false, cond, List, [], ◌∷◌, ◌++◌, length, take, find, map, Option, Some, None, Result, Ok, Err, refl, sym, ap, ◌∙◌, arith}
use Rattle.std.specs.Prelude.{◌||◌, slice_index_or, IfOk, IfSome, OnOk}
use Rattle.std.specs.List.{list_any}
use Rattle.std.specs.Option.{option_or}
use Rattle.std.proofs.lemmas.List.Folds.{find-append}
use Rattle.std.proofs.lemmas.Option.{none-some}

pub any_mapped : {X Y : Type 0} (f : X → Y) (test : Y → Bool) (xs : List X) → list_any (λ x. test (f x)) xs ≡ list_any test (map f xs)
any_mapped f test [] = refl
any_mapped f test (x ∷ xs) = ap (λ b. test (f x) || b) (any_mapped f test xs)

-- ---- the first that passes

-- none among the first ones, and the next one passes
pub find_here : {X Y : Type 0} (f : X → Y) (p : Y → Bool) (xs : List X) (i : ℕ) (d : X) → i < length xs → find p (map f (take i xs)) ≡ None → p (f (slice_index_or xs i d)) ≡ true
    → Some (f (slice_index_or xs i d)) ≡ find p (map f xs)
find_here f p [] i d within none passes = absurd (omega (arith, within))
find_here f p (x ∷ xs) zero d within none passes = sym (ap (λ b. cond b (Some (f x)) (find p (map f xs))) passes)
find_here {X} {Y} f p (x ∷ xs) (suc i) d within none passes = by (p (f x)) none (find_here f p xs i d (omega (arith, within)))
  where
    by : (b : Bool) → cond b (Some (f x)) (find p (map f (take i xs))) ≡ None
        → (find p (map f (take i xs)) ≡ None → p (f (slice_index_or xs i d)) ≡ true → Some (f (slice_index_or xs i d)) ≡ find p (map f xs))
        → Some (f (slice_index_or xs i d)) ≡ cond b (Some (f x)) (find p (map f xs))
    by true n ih = absurd (none-some (f x) (sym n))
    by false n ih = ih n passes

-- and it doesn't pass
pub find_more : {X Y : Type 0} (f : X → Y) (p : Y → Bool) (xs : List X) (i : ℕ) (d : X) → i < length xs → find p (map f (take i xs)) ≡ None → p (f (slice_index_or xs i d)) ≡ false
    → find p (map f (take (i + 1) xs)) ≡ None
find_more f p xs i d within none fails = ap (λ n. find p (map f (take n xs))) (let e : i + 1 ≡ suc i = omega arith in e) ∙ by f p xs i d within none fails
  where
    by : {X Y : Type 0} (f : X → Y) (p : Y → Bool) (xs : List X) (i : ℕ) (d : X) → i < length xs → find p (map f (take i xs)) ≡ None → p (f (slice_index_or xs i d)) ≡ false
        → find p (map f (take (suc i) xs)) ≡ None
    by f p [] i d within none fails = absurd (omega (arith, within))
    by f p (x ∷ xs) zero d within none fails = ap (λ b. cond b (Some (f x)) None) fails
    by {X} {Y} f p (x ∷ xs) (suc i) d within none fails = one (p (f x)) none (by f p xs i d (omega (arith, within)))
      where
        one : (b : Bool) → cond b (Some (f x)) (find p (map f (take i xs))) ≡ None
            → (find p (map f (take i xs)) ≡ None → p (f (slice_index_or xs i d)) ≡ false → find p (map f (take (suc i) xs)) ≡ None)
            → cond b (Some (f x)) (find p (map f (take (suc i) xs))) ≡ None
        one true n ih = absurd (none-some (f x) (sym n))
        one false n ih = ih n fails

-- in one list, and else in another
pub find_first : {X : Type 0} (p : X → Bool) (xs ys : List X) (o : Option X) → find p xs ≡ o → find p (xs ++ ys) ≡ option_or o (find p ys)
find_first p xs ys o is = find-append p xs ys ∙ ap (λ o. option_or o (find p ys)) is

-- ---- results and options

pub on_ok_map : {T E : Type 0} (P Q : Type 0) (r : Result T E) → (P → Q) → OnOk r P → OnOk r Q
on_ok_map P Q (Ok x) f h = f h
on_ok_map P Q (Err e) f h = tt

pub when_three : {T E : Type 0} (P Q R S : T → Type 0) (r : Result T E) → ((x : T) → P x → Q x → R x → S x) → IfOk r P → IfOk r Q → IfOk r R → IfOk r S
when_three P Q R S (Ok x) f p q s = f x p q s
when_three P Q R S (Err e) f p q s = tt

-- a rest that becomes shorter in each turn
pub shorter : {X : Type 0} (size : X → ℕ) (rest following : Option X) (n total : ℕ) → IfSome following (λ f. IfSome rest (λ r. size f < size r)) → (rest ≡ None → following ≡ None)
    → IfSome rest (λ r. size r + n < total + 1) → IfSome following (λ f. size f + (n + 1) < total + 1)
shorter size rest None n total less ended before = tt
shorter size None (Some f) n total less ended before = absurd (none-some f (sym (ended refl)))
shorter size (Some r) (Some f) n total less ended before = omega (arith, less, before)

-- and is empty in the end
pub used_up : {X : Type 0} (value : X → List ℕ) (rest : Option X) (n total : ℕ) → total < n + 1 → IfSome rest (λ r. length (value r) + n < total + 1) → IfSome rest (λ r. value r ≡ [])
used_up value None n total end before = tt
used_up value (Some r) n total end before = nil (value r) (omega (arith, end, before))
  where
    nil : (xs : List ℕ) → length xs < 1 → xs ≡ []
    nil [] h = refl
    nil (x ∷ xs) h = absurd (omega (arith, h))
