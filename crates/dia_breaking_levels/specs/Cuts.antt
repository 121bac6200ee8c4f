-- Where AVPs end that are taken by steps, the shortest first.
use Rattle.std.specs.Prelude.{◌≡◌, ◌⊎◌, ℕ, ◌-◌, ◌<◌, ◌≤◌, nat_lt, ◌&&◌, ◌==◌, if◌then◌else◌, List, sum_by}
use Rattle.dia_breaking_levels.specs.declared.cut.Cut.{Cut}
use Rattle.dia_breaking_levels.specs.declared.steps.Step.{Step}

-- how many AVPs the steps have that are shorter than t, and how many steps are as long
abbrev pub shorter : ℕ → List Step → ℕ
shorter t steps = sum_by (λ step. if nat_lt step.length t then step.count else 0) steps

abbrev pub steps_at : ℕ → List Step → ℕ
steps_at t steps = sum_by (λ step. if step.length == t then 1 else 0) steps

-- the cut is at the greatest length of a step to which the shorter ones are too few, or at 0; there as many are left as these lack
pub record IsCut (wanted : ℕ) (steps : List Step) (cut : Cut) : Type 0 where
  pub greatest : (t : ℕ) → 0 < steps_at t steps → shorter t steps < wanted → t ≤ cut.length
  pub reached : (cut.length ≡ 0) ⊎ ((0 < steps_at cut.length steps) × (shorter cut.length steps < wanted))
  pub left : cut.left ≡ wanted - shorter cut.length steps

-- ---- step by step

-- the cut so far, and how many are still wanted
abbrev pub cut_step : Cut × ℕ → Step → Cut × ℕ
cut_step so_far step =
    (if nat_lt 0 so_far.1 && nat_lt so_far.0.length step.length then record { length = step.length; left = so_far.1 } else so_far.0, so_far.1 - step.count)
