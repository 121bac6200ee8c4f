-- Lists: places, filters and first members.
use Rattle.std.proofs.Common.{◌≡◌, ℕ, zero, suc, ◌<◌, ◌≤◌, Bool, true, false, List, [], ◌∷◌, length, map, Option, Some, None, refl, sym, ap, ◌∙◌, arith}
use Rattle.std.specs.Prelude.{slice_get, position, not, ◌||◌, ◌&&◌}
use Rattle.std.specs.List.{filter_map, cons_option, list_any, prefix_len, list_all}
use Rattle.std.specs.Option.{option_or}
use Rattle.std.proofs.lemmas.List.{length-map}
use Rattle.std.proofs.lemmas.List.Quantifiers.{position-Some}
use Rattle.std.proofs.lemmas.Option.{none-some}
use Rattle.std.proofs.lemmas.Bool.{and_parts}

prefix_len-map : {X Y : Type 0} (f : X → Y) (p : Y → Bool) (xs : List X) → prefix_len p (map f xs) ≡ prefix_len (λ x. p (f x)) xs
prefix_len-map f p [] = refl
prefix_len-map f p (x ∷ xs) = rw (prefix_len-map f p xs) refl

pub position-map : {X Y : Type 0} (f : X → Y) (p : Y → Bool) (xs : List X) → position p (map f xs) ≡ position (λ x. p (f x)) xs
position-map f p xs = rw (prefix_len-map f (λ y. not (p y)) xs, length-map) refl

pub list_any-map : {X Y : Type 0} (f : X → Y) (p : Y → Bool) (xs : List X) → list_any p (map f xs) ≡ list_any (λ x. p (f x)) xs
list_any-map f p [] = refl
list_any-map f p (x ∷ xs) = rw (list_any-map f p xs) refl

pub filter_map-map : {X Y Z : Type 0} (f : X → Y) (h : Y → Option Z) (xs : List X) → filter_map h (map f xs) ≡ filter_map (λ x. h (f x)) xs
filter_map-map f h [] = refl
filter_map-map f h (x ∷ xs) = ap (cons_option (h (f x))) (filter_map-map f h xs)

length-cons_option : {Y : Type 0} (o : Option Y) (ys : List Y) → length (cons_option o ys) ≤ suc (length ys)
length-cons_option None ys = omega arith
length-cons_option (Some y) ys = omega arith

pub length-filter_map : {X Y : Type 0} (h : X → Option Y) (xs : List X) → length (filter_map h xs) ≤ length xs
length-filter_map h [] = omega arith
length-filter_map h (x ∷ xs) = omega (arith, length-cons_option (h x) (filter_map h xs), length-filter_map h xs)

pub position-within : {X : Type 0} (p : X → Bool) (xs : List X) (i : ℕ) → position p xs ≡ Some i → i < length xs
position-within p [] i e = absurd (none-some i e)
position-within p (x ∷ xs) i e = (position-Some p (x ∷ xs) i x e).0

-- the place that one of two searches found
pub position-either : {X : Type 0} (p q : X → Bool) (xs : List X) (i : ℕ) → Some i ≡ option_or (position p xs) (position q xs) → i < length xs
position-either p q xs i e = by (position p xs) (position q xs) (position-within p xs) (position-within q xs) e
  where
    by : (a b : Option ℕ) → ((j : ℕ) → a ≡ Some j → j < length xs) → ((j : ℕ) → b ≡ Some j → j < length xs) → Some i ≡ option_or a b → i < length xs
    by None b f g h = g i (sym h)
    by (Some a) b f g h = f i (sym h)

-- two functions that are equal at each member
pub map-agree : {X Y : Type 0} (f g : X → Y) (xs : List X) → ((i : ℕ) (x : X) → slice_get xs i ≡ Some x → f x ≡ g x) → map f xs ≡ map g xs
map-agree f g [] h = refl
map-agree {X} {Y} f g (x ∷ xs) h =
    let first : f x ≡ g x = h zero x refl in
    ap (λ y. y ∷ map f xs) first ∙ ap (λ ys. g x ∷ ys) (map-agree f g xs (λ i y e. h (suc i) y e))

-- two tests that are equal at all members
pub list_any-agree : {X : Type 0} (p q r : X → Bool) → ((x : X) → p x ≡ true → q x ≡ r x) → (xs : List X) → list_all p xs ≡ true → list_any q xs ≡ list_any r xs
list_any-agree p q r agree [] all = refl
list_any-agree p q r agree (x ∷ xs) all =
    let parts = and_parts (p x) (list_all p xs) all in
    ap (λ b. b || list_any q xs) (agree x parts.0) ∙ ap (λ b. r x || b) (list_any-agree p q r agree xs parts.1)

pub and_true : (x z : Bool) → ((x && true) && z) ≡ (x && (true && z))
and_true true z = refl
and_true false z = refl

pub and_false : (x z : Bool) → ((x && false) && z) ≡ (x && (false && z))
and_false true z = refl
and_false false z = refl
