-- The names on paths.
use Rattle.std.specs.Prelude.{ℕ, List, [], ◌∷◌, map, reverse, slice_get}
use Rattle.std.specs.Option.{option_map_or}
use Rattle.dia_book.specs.Dictionary.{Dictionary, PlainDefinition, definitions}
use Rattle.dia_places.specs.Paths.{Path}

-- the name of the definition with a number
abbrev pub name_at : Dictionary → ℕ → List ℕ
name_at d n = option_map_or (λ (def : PlainDefinition). def.name) (slice_get (definitions d) n) []

-- the command's name first
abbrev pub names_of : Dictionary → Path → List (List ℕ)
names_of d path = reverse (map (name_at d) (path.def ∷ path.around))
