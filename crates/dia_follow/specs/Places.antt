-- The first of a list that passes a test.
use Rattle.std.specs.Prelude.{ℕ, Bool, List, position, slice_get, Option, Some, None}
use Rattle.std.specs.List.{remove}

abbrev pub at_place : {X : Type 0} → List X → Option ℕ → Option X
at_place xs None = None
at_place xs (Some place) = slice_get xs place

abbrev pub without_place : {X : Type 0} → List X → Option ℕ → List X
without_place xs None = xs
without_place xs (Some place) = remove xs place

-- the first that passes
abbrev pub first : {X : Type 0} → (X → Bool) → List X → Option X
first test xs = at_place xs (position test xs)

-- the others
abbrev pub without_first : {X : Type 0} → (X → Bool) → List X → List X
without_first test xs = without_place xs (position test xs)
