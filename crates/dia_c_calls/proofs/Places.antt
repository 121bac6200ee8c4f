-- The entry at an index of a list.
use Rattle.std.proofs.Common.{◌≡◌, ℕ, List, map, Some, ap, ◌∙◌}
use Rattle.std.specs.Prelude.{slice_get}
use Rattle.std.specs.Option.{option_map}
use Rattle.std.proofs.lemmas.Option.{slice_get-map}

pub mapped_at : {A B : Type 0} (v : A → B) (xs : List A) (i : ℕ) (x : A) → slice_get xs i ≡ Some x → slice_get (map v xs) i ≡ Some (v x)
mapped_at v xs i x is = slice_get-map v xs i ∙ ap (option_map v) is
