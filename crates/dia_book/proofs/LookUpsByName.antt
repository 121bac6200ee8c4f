-- Look-ups by name: two texts are one where their bytes are.
use Rattle.std.proofs.Common.{◌≡◌, ℕ, Bool, true, false, cond, List, [], ◌∷◌, length, map, Some, None, refl, sym, ap, ◌∙◌, arith, Bor, Decides, nat_lt}
use Rattle.std.specs.Prelude.{slice_get, position, find, option_and_then}
use Rattle.std.specs.List.{position_or_len}
use Rattle.std.specs.Option.{option_map}
use Rattle.std.specs.Str.{bytes_eq}
use Rattle.std.proofs.lemmas.Bool.{ltb-false}
use Rattle.std.proofs.lemmas.List.{length-map}
use Rattle.std.proofs.lemmas.List.Folds.{find_at}
use Rattle.std.proofs.lemmas.Option.{slice_get_past}
use Rattle.std.proofs.lemmas.Slice.Eq.{bytes_eq-Decides}
use Rattle.dia_terms.specs.Names.{same_bytes}
use Rattle.dia_book.proofs.Lists.{position-map}

pub same_bytes-Decides : (a b : List ℕ) → Decides (same_bytes a b) (a ≡ b)
same_bytes-Decides = bytes_eq-Decides

pub same_bytes-true : (a b : List ℕ) → same_bytes a b ≡ true → a ≡ b
same_bytes-true a b = (same_bytes-Decides a b).0

pub same_bytes-refl : (a : List ℕ) → same_bytes a a ≡ true
same_bytes-refl a = (same_bytes-Decides a a).1 refl

pub find-place : {X : Type 0} (p : X → Bool) (xs : List X) → find p xs ≡ option_and_then (slice_get xs) (position p xs)
find-place {X} p xs = find_at p xs ∙ by (nat_lt (position_or_len p xs) (length xs)) refl
  where
    by : (b : Bool) → nat_lt (position_or_len p xs) (length xs) ≡ b → slice_get xs (position_or_len p xs) ≡ option_and_then (slice_get xs) (cond b (Some (position_or_len p xs)) None)
    by true e = refl
    by false e = slice_get_past xs (position_or_len p xs) (ltb-false (position_or_len p xs) (length xs) e)

pub find-map : {X Y : Type 0} (f : X → Y) (p : Y → Bool) (xs : List X) → find p (map f xs) ≡ option_map f (find (λ x. p (f x)) xs)
find-map f p [] = refl
find-map {X} {Y} f p (x ∷ xs) = by (p (f x)) (find-map f p xs)
  where
    by : (b : Bool) → find p (map f xs) ≡ option_map f (find (λ y. p (f y)) xs) → cond b (Some (f x)) (find p (map f xs)) ≡ option_map f (cond b (Some x) (find (λ y. p (f y)) xs))
    by true e = refl
    by false e = e

-- the place of a name among names that were put into a set, in order
pub place_of_name : {X : Type 0} (name : X → List ℕ) (xs : List X) (keys : List (Bor (List ℕ))) → map (λ (k : Bor (List ℕ)). k.now) keys ≡ map name xs
    → (text : List ℕ) → position (λ (k : Bor (List ℕ)). bytes_eq text k.now) keys ≡ position (λ x. same_bytes text (name x)) xs
place_of_name name xs keys all text =
    sym (position-map (λ (k : Bor (List ℕ)). k.now) (bytes_eq text) keys) ∙ ap (position (bytes_eq text)) all ∙ position-map name (bytes_eq text) xs

pub length_by_name : {X : Type 0} (name : X → List ℕ) (xs : List X) (keys : List (Bor (List ℕ))) → map (λ (k : Bor (List ℕ)). k.now) keys ≡ map name xs → length keys ≡ length xs
length_by_name name xs keys all = omega (arith, ap length all, length-map keys (λ (k : Bor (List ℕ)). k.now), length-map xs name)
