-- Numbers of a list of ranges that a range before theirs has too, and ranges that lie apart from each other.
use Rattle.std.specs.Prelude.{◌≡◌, ℕ, ◌<◌, ◌≤◌, ◌⊎◌, ◌↔◌, List, length, Option, Some, None, slice_get, IsSome, MatchOption}
use Rattle.std.specs.BTreeMap.{BTreeMap, get}
use Rattle.std.specs.Ordering.{nat_cmp}
use Rattle.dia_data.specs.Leaf.{IsWithin}

-- a range before this place of the list has the number
abbrev pub IsBefore : List (ℕ × ℕ) → ℕ → ℕ → Type 0
IsBefore list place n = (i : ℕ) × (range : ℕ × ℕ) × (i < place) × (slice_get list i ≡ Some range) × IsWithin n range

-- the range at this place has the number, and so has a range before it
abbrev pub IsTwice : List (ℕ × ℕ) → ℕ → ℕ → Type 0
IsTwice list place n = (range : ℕ × ℕ) × (slice_get list place ≡ Some range) × IsWithin n range × IsBefore list place n

-- the least number of which P holds, if there is one
abbrev pub IsLeastOf : (ℕ → Type 0) → Option ℕ → Type 0
IsLeastOf P least = MatchOption least ((n : ℕ) → ¬ P n) (λ n. P n × ((m : ℕ) → P m → n ≤ m))

-- for each of the first ranges, the least number of it that a range before it has
pub record AreTwice (list : List (ℕ × ℕ)) (count : ℕ) (numbers : List (Option ℕ)) : Type 0 where
  pub length : length numbers ≡ count
  pub each : (place : ℕ) (least : Option ℕ) → slice_get numbers place ≡ Some least → IsLeastOf (IsTwice list place) least

-- ---- ranges by their highest numbers, with their lowest ones

-- one of the ranges has the number
abbrev pub Has : BTreeMap ℕ ℕ → ℕ → Type 0
Has ranges n = (high low : ℕ) × (get nat_cmp ranges high ≡ Some low) × (low ≤ n) × (n ≤ high)

-- each has a number, and none has a number of another
pub record AreApart (ranges : BTreeMap ℕ ℕ) : Type 0 where
  pub filled : (high low : ℕ) → get nat_cmp ranges high ≡ Some low → low ≤ high
  pub apart : (a b low : ℕ) → IsSome (get nat_cmp ranges a) → get nat_cmp ranges b ≡ Some low → a < b → a < low

-- the first range that ends at the number or above, lowest number first
abbrev pub IsFirstFrom : BTreeMap ℕ ℕ → ℕ → Option (ℕ × ℕ) → Type 0
IsFirstFrom ranges number first = MatchOption first ((high : ℕ) → number ≤ high → get nat_cmp ranges high ≡ None)
    (λ range. (get nat_cmp ranges range.1 ≡ Some range.0) × (number ≤ range.1) × ((high : ℕ) → number ≤ high → IsSome (get nat_cmp ranges high) → range.1 ≤ high))

-- no range has a number of this one
abbrev pub IsClear : BTreeMap ℕ ℕ → ℕ × ℕ → Type 0
IsClear ranges range = (high low : ℕ) → get nat_cmp ranges high ≡ Some low → (high < range.0) ⊎ (range.1 < low)

-- one of the ranges, which has a number of this one
abbrev pub IsOverlapping : BTreeMap ℕ ℕ → ℕ × ℕ → ℕ × ℕ → Type 0
IsOverlapping ranges range other = (get nat_cmp ranges other.1 ≡ Some other.0) × (range.0 ≤ other.1) × (other.0 ≤ range.1)

-- some of the ranges were taken out and joined to this one
pub record AreJoined (old : BTreeMap ℕ ℕ) (range : ℕ × ℕ) (new : BTreeMap ℕ ℕ) (joined : ℕ × ℕ) : Type 0 where
  pub apart : AreApart new
  pub filled : joined.0 ≤ joined.1
  pub numbers : (n : ℕ) → (Has new n ⊎ IsWithin n joined) ↔ (Has old n ⊎ IsWithin n range)

-- the new ranges have the numbers of the old ones and those of the range
abbrev pub Gains : BTreeMap ℕ ℕ → ℕ × ℕ → BTreeMap ℕ ℕ → Type 0
Gains old range new = (n : ℕ) → Has new n ↔ (Has old n ⊎ IsWithin n range)
