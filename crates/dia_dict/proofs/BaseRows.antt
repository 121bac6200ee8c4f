-- Tables: what holds of each row, and lists that are made of the rows one by one.
use Rattle.std.proofs.Common.{◌≡◌, ℕ, ◌+◌, ◌<◌, Bool, true, List, [], ◌∷◌, ◌++◌, length, map, take, sym, ap, ◌∙◌, get_or}
use Rattle.std.specs.List.{list_all}
use Rattle.std.proofs.lemmas.List.{map_more, map-append}
use Rattle.std.proofs.lemmas.Option.{slice_get-get_or}
use Rattle.dia_book.proofs.Members.{list_all_at}

-- a test that all rows pass is passed by each
pub row_passes : {X : Type 0} (p : X → Bool) (rows : List X) (i : ℕ) (d : X) → list_all p rows ≡ true → i < length rows → p (get_or rows i d) ≡ true
row_passes p rows i d all within = list_all_at p rows all i (get_or rows i d) (slice_get-get_or rows i d within)

-- one more value, for one more row
pub map-row : {X Y Z : Type 0} (f : X → Z) (g : Y → Z) (made : List X) (rows : List Y) (i : ℕ) (x : X) (d : Y)
    → map f made ≡ map g (take i rows) → i < length rows → f x ≡ g (get_or rows i d) → map f (made ++ x ∷ []) ≡ map g (take (i + 1) rows)
map-row f g made rows i x d so_far within same =
    map-append f made (x ∷ []) ∙ ap (λ zs. zs ++ f x ∷ []) so_far ∙ ap (λ z. map g (take i rows) ++ z ∷ []) same ∙ sym (map_more g rows i d within)
