-- A search by name, one place after the other.
use Rattle.std.proofs.Common.{◌≡◌, ℕ, zero, suc, add-one, ◌+◌, Bool, true, false, List, [], ◌∷◌, drop, Some, refl, sym, ap, ◌∙◌}
use Rattle.std.specs.Prelude.{slice_get}
use Rattle.std.specs.List.{find}
use Rattle.std.proofs.lemmas.Option.{none-some, same_Some}

drop_get : {X : Type 0} (xs : List X) (i : ℕ) (x : X) → slice_get xs i ≡ Some x → drop i xs ≡ x ∷ drop (suc i) xs
drop_get [] zero x h = absurd (none-some x h)
drop_get [] (suc i) x h = absurd (none-some x h)
drop_get (y ∷ xs) zero x h = ap (λ z. z ∷ xs) (same_Some y x h)
drop_get (y ∷ xs) (suc i) x h = drop_get xs i x h

pub find_here : {X : Type 0} (p : X → Bool) (xs : List X) (i : ℕ) (x : X) → slice_get xs i ≡ Some x → p x ≡ true → find p (drop i xs) ≡ Some x
find_here p xs i x h passes = ap (find p) (drop_get xs i x h) ∙ rw passes refl

pub find_next : {X : Type 0} (p : X → Bool) (xs : List X) (i : ℕ) (x : X) → slice_get xs i ≡ Some x → p x ≡ false → find p (drop i xs) ≡ find p (drop (i + 1) xs)
find_next p xs i x h fails = ap (find p) (drop_get xs i x h) ∙ rw fails (ap (λ (n : ℕ). find p (drop n xs)) (sym (add-one i)))
