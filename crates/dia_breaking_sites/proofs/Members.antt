-- Members of lists.
use Rattle.std.proofs.Common.{◌≡◌, ℕ, zero, suc, List, [], ◌∷◌, ◌++◌, Some, sym, ap, subst, arith, inl, inr}
use Rattle.std.specs.Prelude.{◌⊎◌, All, Contains, slice_get}
use Rattle.std.proofs.lemmas.Option.{none-some, same_Some}
use Rattle.dia_book.proofs.Members.{IsAt, at_Contains}
use Rattle.std.specs.List.{AllByRecursion}

abbrev pub IsIn : {X : Type 0} → X → List X → Type 0
IsIn x [] = ⊥
IsIn x (y ∷ ys) = (x ≡ y) ⊎ IsIn x ys

pub contains_in : {X : Type 0} (xs : List X) (x : X) → IsIn x xs → Contains xs x
contains_in [] x h = absurd h
contains_in (y ∷ xs) x (inl e) = (0, omega arith, sym e)
contains_in (y ∷ xs) x (inr h) = let r = contains_in xs x h in (suc r.0, omega (arith, r.1), r.2)

pub in_at : {X : Type 0} (xs : List X) (i : ℕ) (x : X) → slice_get xs i ≡ Some x → IsIn x xs
in_at [] i x at = absurd (none-some x at)
in_at (y ∷ xs) zero x at = inl (sym (same_Some y x at))
in_at (y ∷ xs) (suc i) x at = inr (in_at xs i x at)

pub at_in : {X : Type 0} (xs : List X) (x : X) → IsIn x xs → IsAt xs x
at_in [] x h = absurd h
at_in (y ∷ xs) x (inl e) = record { place = 0; at = ap (λ z. Some z) (sym e) }
at_in (y ∷ xs) x (inr h) = let r = at_in xs x h in record { place = suc r.place; at = r.at }

pub in_contains : {X : Type 0} (xs : List X) (x : X) → Contains xs x → IsIn x xs
in_contains xs x h = let r = at_Contains xs x h in in_at xs r.place x r.at

pub all_of : {X : Type 0} (P : X → Type 0) (xs : List X) (x : X) → All P xs → IsIn x xs → P x
all_of P [] x all h = absurd h
all_of P (y ∷ xs) x all (inl e) = subst P (sym e) (all 0 y (omega arith))
all_of P (y ∷ xs) x all (inr h) = all_of P xs x (λ k d lt. all (suc k) d (omega (arith, lt))) h

pub in_all : {X : Type 0} (P : X → Type 0) (xs : List X) (x : X) → AllByRecursion P xs → IsIn x xs → P x
in_all P [] x all h = absurd h
in_all P (y ∷ xs) x all (inl e) = subst P (sym e) all.0
in_all P (y ∷ xs) x all (inr h) = in_all P xs x all.1 h

pub all_map : {X : Type 0} (P Q : X → Type 0) (xs : List X) → ((x : X) → P x → Q x) → AllByRecursion P xs → AllByRecursion Q xs
all_map P Q [] f h = tt
all_map P Q (x ∷ xs) f h = (f x h.0, all_map P Q xs f h.1)

pub all_parts : {X : Type 0} (P : X → Type 0) (xs ys : List X) → AllByRecursion P (xs ++ ys) → AllByRecursion P xs × AllByRecursion P ys
all_parts P [] ys h = (tt, h)
all_parts P (x ∷ xs) ys h = let r = all_parts P xs ys h.1 in ((h.0, r.0), r.1)
