-- Rounds of a search: the steps by the shortest ways through steps.
use Rattle.std.specs.Prelude.{◌≡◌, ℕ, ◌<◌, ◌≤◌, List, Option, Some, slice_get, Contains}
use Rattle.dia_breaking_ways.specs.declared.graph.Reach.{Reach}
use Rattle.dia_breaking_ways.specs.declared.graph.Step.{Step}
use Rattle.dia_breaking_ways.specs.Reached.{AreShortest}
use Rattle.dia_breaking_ways.specs.Walks.{Graph, PlainLevel, IsBefore, IsStep, level_of, step_to}

-- the steps to all levels that are reached, in order
pub record AreStepsBy (graph : Graph) (reached : List (Option Reach)) (steps : List Step) : Type 0 where
  pub each : (i : ℕ) (step : Step) → slice_get steps i ≡ Some step → IsStep graph reached step
  pub all : (place : ℕ) (level : PlainLevel) (reach : Reach) → level_of graph place ≡ Some level → slice_get reached place ≡ Some (Some reach) → Contains steps (step_to place level reach)
  pub ordered : (i j : ℕ) (s t : Step) → i < j → slice_get steps i ≡ Some s → slice_get steps j ≡ Some t → IsBefore s t

-- the shortest ways through steps, and the next steps, which are by these ways
pub record IsRound (graph : Graph) (steps : List Step) (reached : List (Option Reach)) (next : List Step) : Type 0 where
  pub shortest : AreShortest graph steps reached
  pub steps_by : AreStepsBy graph reached next

-- the ways have a length, and none is longer than the room
abbrev pub AreWithin : Graph → List Step → Type 0
AreWithin graph steps = (i : ℕ) (step : Step) → slice_get steps i ≡ Some step → (0 < step.way) × (step.way ≤ graph.room)
