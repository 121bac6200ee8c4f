-- Sets of numbers, as ranges.
use Rattle.std.specs.Prelude.{◌≡◌, ℕ, ◌+◌, ◌<◌, ◌≤◌, nat_le, Bool, ◌&&◌, List, Option, Some, None, All}
use Rattle.std.specs.List.{list_any, AllPairs}

-- whether the number lies in the range, both ends in
abbrev pub covers : ℕ → ℕ × ℕ → Bool
covers n range = nat_le range.0 n && nat_le n range.1

-- the ranges hold the same numbers
abbrev pub HoldSame : List (ℕ × ℕ) → List (ℕ × ℕ) → Type 0
HoldSame v w = (n : ℕ) → list_any (covers n) v ≡ list_any (covers n) w

-- ranges that hold something, in order, with a number between each two that neither holds
abbrev pub AreApart : List (ℕ × ℕ) → Type 0
AreApart ranges = All (λ r. r.0 ≤ r.1) ranges × AllPairs (λ a b. a.1 + 1 < b.0) ranges

-- the first ranges are the set of the numbers of a list
abbrev pub IsSetOf : List (ℕ × ℕ) → Option (List (ℕ × ℕ)) → Type 0
IsSetOf set None = ⊥
IsSetOf set (Some list) = AreApart set × HoldSame set list
