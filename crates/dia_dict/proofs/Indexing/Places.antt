-- Places in lists.
use Rattle.std.proofs.Common.{◌≡◌, ℕ, suc, ◌+◌, Bool, true, false, cond, List, [], ◌∷◌, ◌++◌, length, map, position, Option, Some, None, refl, sym, ap, ◌∙◌, arith}
use Rattle.std.specs.Prelude.{slice_get}
use Rattle.std.specs.List.{position_from}
use Rattle.std.specs.Option.{option_map, option_or}
use Rattle.std.proofs.lemmas.Iterator.Adapters.{position_from-zero}
use Rattle.std.proofs.lemmas.Option.{slice_get-map, none-some, same_Some}

-- ---- the first place, with one more member

position_from-push : {X : Type 0} (p : X → Bool) (start : ℕ) (xs : List X) (x : X)
    → position_from p start (xs ++ x ∷ []) ≡ option_or (position_from p start xs) (cond (p x) (Some (start + length xs)) None)
position_from-push p start [] x = ap (λ k. cond (p x) (Some k) None) (let e : start ≡ start + 0 = omega arith in e)
position_from-push {X} p start (y ∷ ys) x = by (p y) (position_from-push p (start + 1) ys x)
  where
    by : (b : Bool) → position_from p (start + 1) (ys ++ x ∷ []) ≡ option_or (position_from p (start + 1) ys) (cond (p x) (Some ((start + 1) + length ys)) None)
        → cond b (Some start) (position_from p (start + 1) (ys ++ x ∷ [])) ≡ option_or (cond b (Some start) (position_from p (start + 1) ys)) (cond (p x) (Some (start + suc (length ys))) None)
    by true e = refl
    by false e = e ∙ ap (λ k. option_or (position_from p (start + 1) ys) (cond (p x) (Some k) None)) (let e : (start + 1) + length ys ≡ start + suc (length ys) = omega arith in e)

pub position-push : {X : Type 0} (p : X → Bool) (xs : List X) (x : X) → position p (xs ++ x ∷ []) ≡ option_or (position p xs) (cond (p x) (Some (length xs)) None)
position-push p xs x =
    position_from-zero p (xs ++ x ∷ []) ∙ position_from-push p 0 xs x
    ∙ ap (λ o. option_or o (cond (p x) (Some (0 + length xs)) None)) (sym (position_from-zero p xs))
    ∙ ap (λ k. option_or (position p xs) (cond (p x) (Some k) None)) (let e : 0 + length xs ≡ length xs = omega arith in e)

-- ---- members

pub image_at : {X Y : Type 0} (f : X → Y) (o : Option X) (y : Y) → option_map f o ≡ Some y → (x : X) × (o ≡ Some x) × (f x ≡ y)
image_at f None y e = absurd (none-some y e)
image_at f (Some x) y e = (x, refl, same_Some (f x) y e)

-- what a member's image at a place is the image of
pub place_of_image : {X Y : Type 0} (f : X → Y) (xs : List X) (i : ℕ) (y : Y) → slice_get (map f xs) i ≡ Some y → (x : X) × (slice_get xs i ≡ Some x) × (f x ≡ y)
place_of_image f xs i y at = image_at f (slice_get xs i) y (sym (slice_get-map f xs i) ∙ at)
