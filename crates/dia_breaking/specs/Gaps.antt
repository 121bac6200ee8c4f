-- The rest of ranges that are in order and apart where others are taken out.
use Rattle.std.specs.Prelude.{ℕ, suc, ◌-◌, nat_lt, nat_le, if◌then◌else◌, List, [], ◌∷◌, ◌++◌, Option, Some, None}
use Rattle.std.specs.List.{flat_map}

-- the numbers from `low` on that precede `from`
abbrev pub front : ℕ → ℕ → List (ℕ × ℕ)
front low from = if nat_lt low from then (low, from - 1) ∷ [] else []

-- of one range
abbrev pub gaps : ℕ → ℕ → List (ℕ × ℕ) → List (ℕ × ℕ)
gaps low high [] = (low, high) ∷ []
gaps low high (r ∷ rest) =
    if nat_lt r.1 low then gaps low high rest
    else (if nat_lt high r.0 then (low, high) ∷ []
    else front low r.0 ++ (if nat_le high r.1 then [] else gaps (suc r.1) high rest))

-- of what begins here, if anything is left
abbrev pub gaps_from : Option ℕ → ℕ → List (ℕ × ℕ) → List (ℕ × ℕ)
gaps_from None high rest = []
gaps_from (Some low) high rest = gaps low high rest

-- of each
abbrev pub all_gaps : List (ℕ × ℕ) → List (ℕ × ℕ) → List (ℕ × ℕ)
all_gaps ranges others = flat_map (λ r. gaps r.0 r.1 others) ranges
