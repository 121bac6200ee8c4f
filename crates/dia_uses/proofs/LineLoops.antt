-- One more of what loops write.
use Rattle.std.proofs.Common.{◌≡◌, ℕ, ◌+◌, ◌<◌, Bor, List, ◌++◌, length, get_or, map, take, Some, refl, sym, ap, ◌∙◌}
use Rattle.std.specs.Prelude.{flat_map, slice_get}
use Rattle.std.proofs.lemmas.List.{append_assoc, take-map}
use Rattle.std.proofs.lemmas.Option.{slice_get_read}
use Rattle.dia_book.proofs.Members.{into_map}
use Rattle.dia_places.specs.declared.graph.Reached.{Reached}
use Rattle.dia_places.specs.Paths.{Path}
use Rattle.dia_places.specs.Records.{path_of, paths_of}
use Rattle.dia_uses.proofs.FoundPlaces.{flat_map_taken}

pub more_lines : {X : Type 0} (f : X → List ℕ) (xs : List X) (i : ℕ) (x : X) (start old next : List ℕ) → slice_get xs i ≡ Some x → old ≡ start ++ flat_map f (take i xs) → next ≡ old ++ f x
    → next ≡ start ++ flat_map f (take (i + 1) xs)
more_lines f xs i x start old next at is step =
    step ∙ ap (λ (o : List ℕ). o ++ f x) is ∙ append_assoc start (flat_map f (take i xs)) (f x) ∙ ap (λ (ys : List ℕ). start ++ ys) (sym (flat_map_taken f xs i x at))

-- the line of one more definition
pub more_places : (f : Path → List ℕ) (rs : List Reached) (i : ℕ) (r : Reached) (start old next : List ℕ) → i < length rs → r ≡ get_or rs i r → old ≡ start ++ flat_map f (take i (paths_of rs))
    → next ≡ old ++ f (path_of rs r) → next ≡ start ++ flat_map f (take (i + 1) (paths_of rs))
more_places f rs i r start old next lt read is step =
    more_lines f (paths_of rs) i (path_of rs r) start old next (into_map (path_of rs) rs i r (slice_get_read rs (length rs) i r refl lt read)) is step

-- one more name
pub more_named : (f : List ℕ → List ℕ) (names : List (Bor (List ℕ))) (i : ℕ) (name : Bor (List ℕ)) (start old next : List ℕ) → slice_get names i ≡ Some name
    → old ≡ start ++ flat_map f (map (λ (x : Bor (List ℕ)). x.now) (take i names)) → next ≡ old ++ f name.now → next ≡ start ++ flat_map f (map (λ (x : Bor (List ℕ)). x.now) (take (i + 1) names))
more_named f names i name start old next at is step =
    let now = λ (x : Bor (List ℕ)). x.now in
    more_lines f (map now names) i name.now start old next (into_map now names i name at) (is ∙ ap (λ (xs : List (List ℕ)). start ++ flat_map f xs) (sym (take-map now i names))) step
    ∙ ap (λ (xs : List (List ℕ)). start ++ flat_map f xs) (take-map now (i + 1) names)
