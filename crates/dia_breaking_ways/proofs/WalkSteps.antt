-- The steps of a walk.
use Rattle.std.proofs.Common.{◌≡◌, ℕ, ◌+◌, ◌<◌, ◌≤◌, List, [], ◌∷◌, ◌++◌, length, Option, Some, sym, ap, subst, ◌∙◌, arith, inl, inr}
use Rattle.std.specs.Prelude.{◌⊎◌, IsSome, slice_get, Contains}
use Rattle.std.specs.List.Sorted.{IsPermutation}
use Rattle.std.proofs.lemmas.List.Sorted.{Contains-permutation, IsPermutation-sym}
use Rattle.std.proofs.lemmas.List.Elements.{Contains-append_left, Contains-push}
use Rattle.std.proofs.lemmas.Bool.{cases_lt}
use Rattle.std.proofs.lemmas.Option.{slice_get_within}
use Rattle.dia_breaking_ways.specs.declared.graph.Reach.{Reach}
use Rattle.dia_breaking_ways.specs.declared.graph.Step.{Step}
use Rattle.dia_breaking_ways.specs.Walks.{Graph, PlainLevel, IsStep, step_to, level_of}
use Rattle.dia_breaking_ways.specs.Openings.{IsOrdered}
use Rattle.dia_breaking_ways.specs.Rounds.{AreStepsBy, AreWithin}
use Rattle.dia_breaking_ways.specs.Stages.{HaveLevels}
use Rattle.dia_breaking_ways.specs.Steps.{AreStepsTo, HasNoStep, step_key}
use Rattle.dia_breaking_ways.proofs.OneWalk.{at_contains, same_way, same_level, same_steps}
use Rattle.dia_breaking_ways.proofs.ListedPlaces.{contains_at, get_push_cases}

-- ---- steps by their places

-- the next place has no step
pub steps_past : (g : Graph) (reached : List (Option Reach)) (n : ℕ) (steps : List Step) → AreStepsTo g reached n steps → HasNoStep g reached n → AreStepsTo g reached (n + 1) steps
steps_past g reached n steps are none = record {
  rising = are.rising;
  below = λ i s at. let b = are.below i s at in omega (arith, b);
  each = are.each;
  all = λ place level reach below is at. by place level reach below is at (cases_lt place n);
}
  where
    by : (place : ℕ) (level : PlainLevel) (reach : Reach) → place < n + 1 → level_of g place ≡ Some level → slice_get reached place ≡ Some (Some reach) → (place < n) ⊎ (n ≤ place)
        → Contains steps (step_to place level reach)
    by place level reach below is at (inl less) = are.all place level reach less is at
    by place level reach below is at (inr more) =
        let here : place ≡ n = omega (arith, below, more) in
        absurd (none level reach (sym (ap (level_of g) here) ∙ is) (sym (ap (slice_get reached) here) ∙ at))

-- it has one
pub steps_more : (g : Graph) (reached : List (Option Reach)) (n : ℕ) (steps : List Step) (step : Step) → AreStepsTo g reached n steps → step.place ≡ n → IsStep g reached step
    → AreStepsTo g reached (n + 1) (steps ++ step ∷ [])
steps_more g reached n steps step are here own = record {
  rising = λ i j s t less at_i at_j. rise i j s t less (get_push_cases steps step i s at_i) (get_push_cases steps step j t at_j);
  below = λ i s at. under i s (get_push_cases steps step i s at);
  each = λ i s at. each i s (get_push_cases steps step i s at);
  all = λ place level reach below is at. by place level reach below is at (cases_lt place n);
}
  where
    rise : (i j : ℕ) (s t : Step) → i < j → (slice_get steps i ≡ Some s) ⊎ ((i ≡ length steps) × (step ≡ s)) → (slice_get steps j ≡ Some t) ⊎ ((j ≡ length steps) × (step ≡ t)) → s.place < t.place
    rise i j s t less (inl a) (inl b) = are.rising i j s t less a b
    rise i j s t less (inl a) (inr b) = let low = are.below i s a in let same = ap (λ (x : Step). x.place) b.1 in omega (arith, low, same, here)
    rise i j s t less (inr a) (inl b) = absurd (let inside = slice_get_within steps j t b in omega (arith, inside, a.0, less))
    rise i j s t less (inr a) (inr b) = absurd (omega (arith, a.0, b.0, less))

    under : (i : ℕ) (s : Step) → (slice_get steps i ≡ Some s) ⊎ ((i ≡ length steps) × (step ≡ s)) → s.place < n + 1
    under i s (inl a) = let b = are.below i s a in omega (arith, b)
    under i s (inr a) = let same = ap (λ (x : Step). x.place) a.1 in omega (arith, same, here)

    each : (i : ℕ) (s : Step) → (slice_get steps i ≡ Some s) ⊎ ((i ≡ length steps) × (step ≡ s)) → IsStep g reached s
    each i s (inl a) = are.each i s a
    each i s (inr a) = subst (IsStep g reached) a.1 own

    by : (place : ℕ) (level : PlainLevel) (reach : Reach) → place < n + 1 → level_of g place ≡ Some level → slice_get reached place ≡ Some (Some reach) → (place < n) ⊎ (n ≤ place)
        → Contains (steps ++ step ∷ []) (step_to place level reach)
    by place level reach below is at (inl less) = Contains-append_left steps (step ∷ []) (step_to place level reach) (are.all place level reach less is at)
    by place level reach below is at (inr more) =
        let same_place : step.place ≡ place = omega (arith, here, below, more) in
        let same : step ≡ step_to place level reach = own.is_step ∙ same_steps step.place place own.level level own.reach reach same_place
        (same_level g step.place place own.level level same_place own.is_level is) (same_way reached step.place place own.reach reach same_place own.is_reach at) in
        subst (Contains (steps ++ step ∷ [])) same (Contains-push steps step)

-- the same steps in another order
pub steps_moved : (g : Graph) (reached : List (Option Reach)) (xs ys : List Step) → AreStepsTo g reached (length reached) xs → IsPermutation xs ys → IsOrdered step_key ys (length ys)
    → AreStepsBy g reached ys
steps_moved g reached xs ys are moved up = record {
  each = λ i step at.
      let p = at_contains xs step (Contains-permutation ys xs step (IsPermutation-sym xs ys moved) (contains_at ys i step at)) in
      are.each p.0 step p.1;
  all = λ place level reach is at. Contains-permutation xs ys (step_to place level reach) moved (are.all place level reach (slice_get_within reached place (Some reach) at) is at);
  ordered = λ i j s t less at_i at_j. up i j s t less (slice_get_within ys j t at_j) at_i at_j;
}

-- ---- steps within the room

pub levels_more : (g : Graph) (steps : List Step) (step : Step) → HaveLevels g steps → IsSome (level_of g step.place) → HaveLevels g (steps ++ step ∷ [])
levels_more g steps step are here = λ i s at. elim (get_push_cases steps step i s at) [
  | inl old ↦ are i s old
  | inr new ↦ subst (λ (t : Step). IsSome (level_of g t.place)) new.1 here
]

pub within_more : (g : Graph) (steps : List Step) (step : Step) → AreWithin g steps → 0 < step.way → step.way ≤ g.room → AreWithin g (steps ++ step ∷ [])
within_more g steps step are some fits = λ i s at. elim (get_push_cases steps step i s at) [
  | inl old ↦ are i s old
  | inr new ↦ subst (λ (t : Step). (0 < t.way) × (t.way ≤ g.room)) new.1 (some, fits)
]
