-- Segments that wait, seen from the next byte.
use Rattle.std.specs.Prelude.{◌≡◌, ℕ, ◌-◌, ◌^◌, true, min, List, [], ◌∷◌, ◌++◌, Option, length, map, sum_by}
use Rattle.std.specs.List.{list_all}
use Rattle.dia_directions.specs.declared.waiting.Waiting.{Waiting}
use Rattle.dia_directions.specs.Bytes.{piece_bytes}
use Rattle.dia_directions.specs.Order.{Placed, ahead, is_left}

abbrev pub placed_of : ℕ → Waiting → Placed
placed_of next w = record { place = ahead next w.number; bytes = piece_bytes w.piece }

abbrev pub all_placed : ℕ → List Waiting → List Placed
all_placed next ws = map (placed_of next) ws

-- all, and bytes that arrived, and are next
abbrev pub all_then : ℕ → List Waiting → List (Option ℕ) → List Placed
all_then next ws bytes = all_placed next ws ++ record { place = 0; bytes = bytes } ∷ []

-- each has bytes, and is ahead of the next byte
abbrev pub AreAhead : ℕ → List Waiting → Type 0
AreAhead next ws = list_all (is_left 0) (all_placed next ws) ≡ true

-- how many bytes they have, as far as 64 bits say it
abbrev pub counted : List Waiting → ℕ
counted ws = min (sum_by (λ w. length (piece_bytes w.piece)) ws) (2 ^ 64 - 1)
