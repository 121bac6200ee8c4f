-- The shortest ways that are known so far.
use Rattle.std.specs.Prelude.{◌⊎◌, ◌≡◌, ℕ, ◌+◌, ◌<◌, ◌≤◌, Bool, List, length, Option, Some, None, slice_get}
use Rattle.std.specs.Bool.{⊤}
use Rattle.dia_breaking_ways.specs.declared.graph.Reach.{Reach}
use Rattle.dia_breaking_ways.specs.Walks.{IsNoLater, IsPlainer}

-- the one way is shorter; as long, and by rules alone where the other isn't; or else in an earlier level
abbrev pub IsSooner : Reach → Reach → Type 0
IsSooner x y = (x.length < y.length) ⊎ ((x.length ≡ y.length) × (IsPlainer x.wild y.wild ⊎ ((x.wild ≡ y.wild) × (x.level < y.level))))

abbrev pub IsEarlier : Option Reach → Reach → Type 0
IsEarlier None reach = ⊤
IsEarlier (Some other) reach = IsSooner reach other

-- a way to the place is known, and is no later than this
pub record HasOne (best : List (Option Reach)) (place level total : ℕ) (wild : Bool) : Type 0 where
  pub reach : Reach
  pub known : slice_get best place ≡ Some (Some reach)
  pub no_later : IsNoLater reach level total wild

-- of two ways to a place the one that is no later is retained
pub record IsOffered (best after : List (Option Reach)) (place : ℕ) (reach : Reach) : Type 0 where
  pub each : length after ≡ length best
  pub from : (p : ℕ) (r : Reach) → slice_get after p ≡ Some (Some r) → (slice_get best p ≡ Some (Some r)) ⊎ ((p ≡ place) × (r ≡ reach))
  pub keeps : (p level total : ℕ) (wild : Bool) → HasOne best p level total wild → HasOne after p level total wild
  pub takes : place < length best → HasOne after place reach.level reach.length reach.wild

-- the way goes by one of the first n places of a list
pub record IsByRule (room level way : ℕ) (wild : Bool) (listed : List (ℕ × ℕ)) (n place : ℕ) (reach : Reach) : Type 0 where
  pub at : ℕ
  pub inner : ℕ
  pub below : at < n
  pub lists : slice_get listed at ≡ Some (place, inner)
  pub is_level : reach.level ≡ level
  pub is_length : reach.length ≡ way + inner
  pub is_wild : reach.wild ≡ wild
  pub has_room : reach.length ≤ room

-- the ways by the first n places of a list are offered
pub record AreOffered (best after : List (Option Reach)) (room level way : ℕ) (wild : Bool) (listed : List (ℕ × ℕ)) (n : ℕ) : Type 0 where
  pub each : length after ≡ length best
  pub from : (p : ℕ) (r : Reach) → slice_get after p ≡ Some (Some r) → (slice_get best p ≡ Some (Some r)) ⊎ IsByRule room level way wild listed n p r
  pub keeps : (p l total : ℕ) (w : Bool) → HasOne best p l total w → HasOne after p l total w
  pub takes : (k p inner : ℕ) → k < n → slice_get listed k ≡ Some (p, inner) → p < length best → way + inner ≤ room → HasOne after p level (way + inner) wild
