-- The numbers of lists as canonical ranges: in order, and none touch.
use Rattle.std.specs.Prelude.{ℕ, zero, suc, max, ◌==◌, Bool, not, ◌&&◌, if◌then◌else◌, List, [], ◌∷◌, Option, Some, None}
use Rattle.std.specs.List.{list_any}
use Rattle.dia_data.specs.Plain.{PlainFormat, Enumerated}
use Rattle.dia_data.specs.Ranges.{covers}

-- a number before runs: it begins the first of them, if that one begins right after it
abbrev pub put_before : ℕ → List (ℕ × ℕ) → List (ℕ × ℕ)
put_before n [] = (n, n) ∷ []
put_before n (run ∷ runs) = if run.0 == suc n then (n, run.1) ∷ runs else (n, n) ∷ run ∷ runs

-- those of `count` numbers from n on that pass the test, as runs
abbrev pub runs_of : (ℕ → Bool) → ℕ → ℕ → List (ℕ × ℕ)
runs_of test n zero = []
runs_of test n (suc count) = if test n then put_before n (runs_of test (suc n) count) else runs_of test (suc n) count

-- whether one of the ranges holds the number
abbrev pub holds : List (ℕ × ℕ) → ℕ → Bool
holds ranges n = list_any (covers n) ranges

-- a number above all of the ranges
abbrev pub end_of : List (ℕ × ℕ) → ℕ
end_of [] = 0
end_of (range ∷ ranges) = max (suc range.1) (end_of ranges)

-- the numbers of the ranges
abbrev pub canonical : List (ℕ × ℕ) → List (ℕ × ℕ)
canonical ranges = runs_of (holds ranges) 0 (end_of ranges)

-- the numbers of the first ranges that the second lack
abbrev pub lacking : List (ℕ × ℕ) → List (ℕ × ℕ) → List (ℕ × ℕ)
lacking ranges others = runs_of (λ n. holds ranges n && not (holds others n)) 0 (end_of ranges)

-- ---- of formats

-- the list of an Enumerated format, as it was written
abbrev pub ranges_in : PlainFormat → Option (List (ℕ × ℕ))
ranges_in (Enumerated ranges) = ranges
ranges_in format = None

-- where both have a list, the numbers of the first that the second lacks
abbrev pub lacking_of : Option (List (ℕ × ℕ)) → Option (List (ℕ × ℕ)) → Option (List (ℕ × ℕ))
lacking_of (Some ranges) (Some others) = Some (lacking ranges others)
lacking_of (Some ranges) None = None
lacking_of None others = None
