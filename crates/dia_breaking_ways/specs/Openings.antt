-- The levels that let AVPs in through their wildcards.
use Rattle.std.specs.Prelude.{◌⊎◌, ◌≡◌, ℕ, ◌+◌, ◌<◌, ◌≤◌, List, Option, Some, None, slice_get, Contains}
use Rattle.std.specs.List.Sorted.{IsNonDecreasing}
use Rattle.dia_breaking_ways.specs.declared.stages.Stage.{Stage as OwnStage}
use Rattle.dia_breaking_ways.specs.declared.openings.Opening.{Opening}

-- ---- lists in order

abbrev pub IsLess : ℕ × ℕ → ℕ × ℕ → Type 0
IsLess a b = (a.0 < b.0) ⊎ ((a.0 ≡ b.0) × (a.1 < b.1))

-- the keys of the first n rise
abbrev pub IsOrdered : {X : Type 0} → (X → ℕ × ℕ) → List X → ℕ → Type 0
IsOrdered {X} key xs n = (i j : ℕ) (s t : X) → i < j → j < n → slice_get xs i ≡ Some s → slice_get xs j ≡ Some t → IsLess (key s) (key t)

abbrev pub opening_key : Opening → ℕ × ℕ
opening_key opening = (opening.length, opening.level)

-- ---- openings

abbrev pub AreRising : List OwnStage → Type 0
AreRising stages = (level : ℕ) (own : OwnStage) → slice_get stages level ≡ Some own → IsNonDecreasing own.places.items

abbrev pub opening_of : ℕ → OwnStage → Opening
opening_of level own = record { length = own.way + own.exits.now.beside; level = level }

-- the openings of the first n levels
pub record AreOpenings (room : ℕ) (stages : List OwnStage) (n : ℕ) (openings : List Opening) : Type 0 where
  pub all : (level : ℕ) (own : OwnStage) → level < n → slice_get stages level ≡ Some own → own.way + own.exits.now.beside ≤ room → Contains openings (opening_of level own)
  pub each : (opening : Opening) → Contains openings opening → (own : OwnStage) × (slice_get stages opening.level ≡ Some own) × (opening ≡ opening_of opening.level own)

-- they are in the order of their levels, which are among the first n
pub record AreNumbered (n : ℕ) (openings : List Opening) : Type 0 where
  pub rising : (i j : ℕ) (x y : Opening) → i < j → slice_get openings i ≡ Some x → slice_get openings j ≡ Some y → x.level < y.level
  pub below : (i : ℕ) (x : Opening) → slice_get openings i ≡ Some x → x.level < n

-- no rule of the level lists the place
pub record IsOpenTo (stages : List OwnStage) (place level : ℕ) : Type 0 where
  pub own : OwnStage
  pub is_own : slice_get stages level ≡ Some own
  pub free : ¬ Contains own.places.items place

-- a rule of it does
abbrev pub IsShutTo : List OwnStage → ℕ → ℕ → Type 0
IsShutTo stages place level = (own : OwnStage) → slice_get stages level ≡ Some own → Contains own.places.items place

-- the first n levels are shut to the place
abbrev pub AreShutTo : List OwnStage → List Opening → ℕ → ℕ → Type 0
AreShutTo stages openings place n = (k : ℕ) (opening : Opening) → k < n → slice_get openings k ≡ Some opening → IsShutTo stages place opening.level

-- of the first n levels the first one that is open to the place
abbrev pub IsFirstOpen : List OwnStage → List Opening → ℕ → ℕ → Option Opening → Type 0
IsFirstOpen stages openings place n None = AreShutTo stages openings place n
IsFirstOpen stages openings place n (Some opening) = (k : ℕ) × (slice_get openings k ≡ Some opening) × IsOpenTo stages place opening.level × AreShutTo stages openings place k
