-- The shortest ways to AVPs through levels that are known.
use Rattle.std.specs.Prelude.{◌⊎◌, ◌≡◌, ℕ, ◌+◌, ◌<◌, ◌≤◌, Bool, true, List, length, Option, Some, None, slice_get, Contains}
use Rattle.std.specs.Bool.{⊤}
use Rattle.dia_breaking_ways.specs.declared.graph.Node.{Node}
use Rattle.dia_breaking_ways.specs.declared.graph.Reach.{Reach}
use Rattle.dia_breaking_ways.specs.declared.graph.Step.{Step}
use Rattle.dia_breaking_ways.specs.declared.stages.Stage.{Stage as OwnStage}
use Rattle.dia_breaking_ways.specs.declared.openings.Opening.{Opening}
use Rattle.dia_breaking_ways.specs.Walks.{Graph, IsShortest}
use Rattle.dia_breaking_ways.specs.Offers.{HasOne}
use Rattle.dia_breaking_ways.specs.Openings.{IsFirstOpen}

-- no way to any of n places
pub record AreNone (n : ℕ) (best : List (Option Reach)) : Type 0 where
  pub each : length best ≡ n
  pub none : (place : ℕ) (reach : Reach) → ¬ (slice_get best place ≡ Some (Some reach))

-- the way comes by a rule of its level
pub record IsRuled (room : ℕ) (stages : List OwnStage) (place : ℕ) (reach : Reach) : Type 0 where
  pub own : OwnStage
  pub inner : ℕ
  pub is_own : slice_get stages reach.level ≡ Some own
  pub lists : Contains own.exits.now.listed.items (place, inner)
  pub is_length : reach.length ≡ own.way + inner
  pub is_wild : reach.wild ≡ own.wild
  pub has_room : reach.length ≤ room

-- the ways by the rules of the first n levels are offered
pub record AreListed (room : ℕ) (stages : List OwnStage) (n : ℕ) (first best : List (Option Reach)) : Type 0 where
  pub each : length best ≡ length first
  pub from : (p : ℕ) (r : Reach) → slice_get best p ≡ Some (Some r) → (slice_get first p ≡ Some (Some r)) ⊎ IsRuled room stages p r
  pub takes : (level : ℕ) (own : OwnStage) (k p inner : ℕ) → level < n → slice_get stages level ≡ Some own → slice_get own.exits.now.listed.items k ≡ Some (p, inner)
      → p < length first → own.way + inner ≤ room → HasOne best p level (own.way + inner) own.wild

-- the way comes through the first level that is open to the place
pub record IsOther (room : ℕ) (nodes : List Node) (stages : List OwnStage) (openings : List Opening) (place : ℕ) (reach : Reach) : Type 0 where
  pub opening : Opening
  pub node : Node
  pub is_first : IsFirstOpen stages openings place (length openings) (Some opening)
  pub is_node : slice_get nodes place ≡ Some node
  pub is_level : reach.level ≡ opening.level
  pub is_length : reach.length ≡ opening.length + node.other
  pub is_wild : reach.wild ≡ true
  pub has_room : reach.length ≤ room

-- the way through that level, if a message has room for it
abbrev pub IsTaken : ℕ → Node → List (Option Reach) → ℕ → Option Opening → Type 0
IsTaken room node best place None = ⊤
IsTaken room node best place (Some opening) = opening.length + node.other ≤ room → HasOne best place opening.level (opening.length + node.other) true

-- the ways to the first n places through wildcards are offered
pub record AreOthers (room : ℕ) (nodes : List Node) (stages : List OwnStage) (openings : List Opening) (n : ℕ) (first best : List (Option Reach)) : Type 0 where
  pub each : length best ≡ length first
  pub from : (p : ℕ) (r : Reach) → slice_get best p ≡ Some (Some r) → (slice_get first p ≡ Some (Some r)) ⊎ IsOther room nodes stages openings p r
  pub keeps : (p l total : ℕ) (w : Bool) → HasOne first p l total w → HasOne best p l total w
  pub takes : (p : ℕ) (node : Node) → p < n → p < length first → slice_get nodes p ≡ Some node
      → (found : Option Opening) × IsFirstOpen stages openings p (length openings) found × IsTaken room node best p found

-- the shortest way to each place
pub record AreShortest (graph : Graph) (steps : List Step) (best : List (Option Reach)) : Type 0 where
  pub each : length best ≡ length graph.nodes
  pub shortest : (place : ℕ) (way : Option Reach) → slice_get best place ≡ Some way → IsShortest graph steps place way
