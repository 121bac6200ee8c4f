-- The steps of a walk, by the shortest ways to their AVPs.
use Rattle.std.specs.Prelude.{◌≡◌, ℕ, ◌<◌, ◌≤◌, List, Option, Some, None, slice_get, Contains}
use Rattle.dia_breaking_ways.specs.declared.graph.Reach.{Reach}
use Rattle.dia_breaking_ways.specs.declared.graph.Step.{Step}
use Rattle.dia_breaking_ways.specs.Walks.{Graph, PlainLevel, IsStep, level_of, step_to}

-- the shortest way to a place
abbrev pub IsWayAt : List (Option Reach) → ℕ → Option Reach → Type 0
IsWayAt reached place None = (reach : Reach) → ¬ (slice_get reached place ≡ Some (Some reach))
IsWayAt reached place (Some reach) = slice_get reached place ≡ Some (Some reach)

-- the place has no level, or nothing reaches it
abbrev pub HasNoStep : Graph → List (Option Reach) → ℕ → Type 0
HasNoStep graph reached place = (level : PlainLevel) (reach : Reach) → level_of graph place ≡ Some level → ¬ (slice_get reached place ≡ Some (Some reach))

abbrev pub IsStepAt : Graph → List (Option Reach) → ℕ → Option Step → Type 0
IsStepAt graph reached place None = HasNoStep graph reached place
IsStepAt graph reached place (Some step) = (step.place ≡ place) × IsStep graph reached step

-- the steps to the first n places that have one, in the order of their places
pub record AreStepsTo (graph : Graph) (reached : List (Option Reach)) (n : ℕ) (steps : List Step) : Type 0 where
  pub rising : (i j : ℕ) (s t : Step) → i < j → slice_get steps i ≡ Some s → slice_get steps j ≡ Some t → s.place < t.place
  pub below : (i : ℕ) (step : Step) → slice_get steps i ≡ Some step → step.place < n
  pub each : (i : ℕ) (step : Step) → slice_get steps i ≡ Some step → IsStep graph reached step
  pub all : (place : ℕ) (level : PlainLevel) (reach : Reach) → place < n → level_of graph place ≡ Some level → slice_get reached place ≡ Some (Some reach)
      → Contains steps (step_to place level reach)

abbrev pub step_key : Step → ℕ × ℕ
step_key step = (step.way, step.place)

-- the levels round those of the first n steps are the start, or those of earlier steps
abbrev pub AreOuterFirst : List Step → ℕ → Type 0
AreOuterFirst steps n = (i : ℕ) (step : Step) → i < n → slice_get steps i ≡ Some step → step.outer ≤ i
