-- The paths that are recorded by the definition before each.
use Rattle.std.specs.Prelude.{ℕ, zero, suc, List, [], ◌∷◌, length, map, Option, None, slice_get}
use Rattle.std.specs.Option.{option_map_or}
use Rattle.dia_breaking_ways.specs.declared.graph.Step.{Step}
use Rattle.dia_places.specs.declared.graph.Reached.{Reached}
use Rattle.dia_places.specs.Paths.{Path}

abbrev pub reached_by : Step → Reached
reached_by step = record { def = step.place; outer = step.outer }

-- the definition with a number among those that are reached, from 1
abbrev pub reached_at : List Reached → ℕ → Option Reached
reached_at reached zero = None
reached_at reached (suc i) = slice_get reached i

-- from the definition with a number on, at most so many
abbrev pub around_from : List Reached → ℕ → ℕ → List ℕ
around_from reached zero number = []
around_from reached (suc most) number = option_map_or (λ (r : Reached). r.def ∷ around_from reached most r.outer) (reached_at reached number) []

abbrev pub path_of : List Reached → Reached → Path
path_of reached r = record { def = r.def; around = around_from reached (length reached) r.outer }

abbrev pub paths_of : List Reached → List Path
paths_of reached = map (path_of reached) reached
