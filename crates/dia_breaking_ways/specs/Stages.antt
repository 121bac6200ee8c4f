-- The levels of a message, by their numbers.
use Rattle.std.specs.Prelude.{◌≡◌, ◌↔◌, ℕ, suc, List, length, Option, Some, IsSome, slice_get, Contains}
use Rattle.std.specs.List.Sorted.{IsNonDecreasing}
use Rattle.dia_breaking_ways.specs.declared.graph.Step.{Step}
use Rattle.dia_breaking_ways.specs.declared.graph.Ways.{Ways}
use Rattle.dia_breaking_ways.specs.declared.stages.Stage.{Stage as OwnStage}
use Rattle.dia_breaking_ways.specs.Walks.{Graph, Stage, graph_of, level_of, plain_exits, stage_at}

abbrev pub graph_in : Ways → Graph
graph_in ways = graph_of ways.nodes.now ways.start.now ways.room

-- a rule lists the place
abbrev pub IsListed : List (ℕ × ℕ) → ℕ → Type 0
IsListed listed place = (length : ℕ) × Contains listed (place, length)

-- the places that rules list, in order
pub record HasPlaces (listed : List (ℕ × ℕ)) (places : List ℕ) : Type 0 where
  pub rising : IsNonDecreasing places
  pub has : (place : ℕ) → Contains places place ↔ IsListed listed place

-- the level, with the places that its rules list
pub record IsStage (stage : Option Stage) (own : OwnStage) : Type 0 where
  pub is_stage : stage ≡ Some (record { way = own.way; wild = own.wild; exits = plain_exits own.exits.now })
  pub places : HasPlaces own.exits.now.listed.items own.places.items

-- each of the steps leads to a level
abbrev pub HaveLevels : Graph → List Step → Type 0
HaveLevels graph steps = (i : ℕ) (step : Step) → slice_get steps i ≡ Some step → IsSome (level_of graph step.place)

-- the levels of a message by their numbers, up to that of the n-th step
pub record AreStages (graph : Graph) (steps : List Step) (n : ℕ) (stages : List OwnStage) : Type 0 where
  pub all : length stages ≡ suc n
  pub each : (number : ℕ) (own : OwnStage) → slice_get stages number ≡ Some own → IsStage (stage_at graph steps number) own
