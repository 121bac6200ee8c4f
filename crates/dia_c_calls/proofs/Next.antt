-- What is left of a list from a place on, as it is read.
use Rattle.std.proofs.Common.{◌≡◌, ℕ, ◌+◌, ◌<◌, List, [], ◌∷◌, length, drop, map, Some, ap, ◌∙◌, arith}
use Rattle.std.specs.Prelude.{slice_get}
use Rattle.std.proofs.lemmas.List.{drop_more, length-drop, length-map}
use Rattle.std.proofs.lemmas.Option.{slice_get_within, get_or_from_slice_get}

module _ {A B : Type 0} (v : A → B) where
  pub next_of : (xs : List A) (n : ℕ) (x : A) → slice_get xs n ≡ Some x → map v (drop n xs) ≡ v x ∷ map v (drop (n + 1) xs)
  next_of xs n x is = ap (map v) (drop_more xs n x (slice_get_within xs n x is) ∙ ap (λ (y : A). y ∷ drop (n + 1) xs) (get_or_from_slice_get xs n x x is))

  pub some_left : (xs : List A) (n : ℕ) → n < length xs → map v (drop n xs) ≡ [] → ⊥
  some_left xs n within empty = omega (arith, within, ap length empty, length-map (drop n xs) v, length-drop n xs)
