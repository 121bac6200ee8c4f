-- Steps that are taken in any order are no shorter than a price for each AVP says.
use Rattle.std.proofs.Common.{◌≡◌, ℕ, ◌+◌, ◌-◌, ◌*◌, ◌<◌, ◌≤◌, Bool, true, false, List, [], ◌∷◌, refl, ap, ◌∙◌, arith, inl, inr}
use Rattle.std.specs.Prelude.{◌⊎◌, min, nat_le, ◌==◌, fold, if◌then◌else◌}
use Rattle.std.proofs.Math.Nat.{mul-le-mul_left, mul_comm, mul-add, zero-mul}
use Rattle.std.proofs.lemmas.Bool.{leb-true, leb-false, eqb-true}
use Rattle.std.proofs.lemmas.List.Sorted.{sum_by-IsPermutation}
use Rattle.std.proofs.lemmas.List.Sums.{sum_by-cons}
use Rattle.dia_breaking_levels.specs.declared.steps.Step.{Step}
use Rattle.dia_breaking_levels.specs.LevelTests.{too_long, capped, many}
use Rattle.dia_breaking_levels.specs.Steps.{take_step, length_taken, saved, IsLeastTaken, IsTakenInOrder}

abbrev pub next_sum : ℕ → ℕ → Step → ℕ
next_sum left sum s = capped (sum + many (min left s.count) s.length)

-- what is taken grows, up to what is too long
pub taken_grows : (left sum : ℕ) (steps : List Step) → sum ≤ too_long → (sum ≤ length_taken (fold take_step (left, sum) steps)) × (length_taken (fold take_step (left, sum) steps) ≤ too_long)
taken_grows left sum [] within = by (left == 0)
  where
    by : (t : Bool) → (sum ≤ (if t then sum else too_long)) × ((if t then sum else too_long) ≤ too_long)
    by true = (omega arith, within)
    by false = (within, omega arith)
taken_grows left sum (s ∷ steps) within =
    let ih = taken_grows (left - s.count) (next_sum left sum s) steps (omega arith) in
    let low : next_sum left sum s ≤ length_taken (fold take_step (left, sum) (s ∷ steps)) = ih.0 in
    (omega (arith, low, within), ih.1)

-- a step that is taken saves what its price does not cover
step_covers : (t each m count : ℕ) → m ≤ count → t * m ≤ m * each + (t - each) * count
step_covers t each m count le =
    let over : t * m ≤ (each + (t - each)) * m = let more : m * t ≤ m * (each + (t - each)) = mul-le-mul_left m (omega arith) in omega (arith, more, mul_comm m t, mul_comm m (each + (t - each))) in
    let parts : m * (each + (t - each)) ≡ m * each + m * (t - each) = mul-add m each (t - each) in
    let saves : (t - each) * m ≤ (t - each) * count = mul-le-mul_left (t - each) le in
    omega (arith, over, parts, saves, mul_comm m (each + (t - each)), mul_comm m (t - each))

-- as much as a price for each that is wanted, with what the steps save, or too long
abbrev IsCoveredBy : ℕ → ℕ → ℕ → List Step → Type 0
IsCoveredBy t left sum steps = (too_long ≤ length_taken (fold take_step (left, sum) steps)) ⊎ (sum + t * left ≤ length_taken (fold take_step (left, sum) steps) + saved t steps)

one_step : (t left sum each count rest rest_saved : ℕ) → sum + capped (min left count * each) < too_long → capped (sum + capped (min left count * each)) + t * (left - count) ≤ rest + rest_saved
    → sum + t * left ≤ rest + ((t - each) * count + rest_saved)
one_step t left sum each count rest rest_saved short ih =
    let covers = step_covers t each (min left count) count (omega arith) in
    let split : t * left ≡ t * (min left count + (left - count)) = ap (λ (n : ℕ). t * n) (omega arith) in
    let parts = mul-add t (min left count) (left - count) in
    omega (arith, short, ih, covers, split, parts)

covered : (t left sum : ℕ) (steps : List Step) → sum ≤ too_long → IsCoveredBy t left sum steps
covered t left sum [] within = by (left == 0) refl
  where
    by : (b : Bool) → (left == 0) ≡ b → (too_long ≤ (if b then sum else too_long)) ⊎ (sum + t * left ≤ (if b then sum else too_long) + saved t [])
    by true e =
        let none : t * left ≡ 0 = ap (λ (n : ℕ). t * n) (eqb-true left 0 e) ∙ mul_comm t 0 ∙ zero-mul t in
        inr (omega (arith, none))
    by false e = inl (omega arith)
covered t left sum (s ∷ steps) within = by (nat_le too_long (sum + many (min left s.count) s.length)) refl (covered t (left - s.count) (next_sum left sum s) steps (omega arith))
  where
    saves : saved t (s ∷ steps) ≡ (t - s.length) * s.count + saved t steps
    saves = sum_by-cons (λ (step : Step). (t - step.length) * step.count) s steps

    by : (b : Bool) → nat_le too_long (sum + many (min left s.count) s.length) ≡ b → IsCoveredBy t (left - s.count) (next_sum left sum s) steps → IsCoveredBy t left sum (s ∷ steps)
    by true e ih =
        let long = leb-true too_long (sum + many (min left s.count) s.length) e in
        let grows : next_sum left sum s ≤ length_taken (fold take_step (left, sum) (s ∷ steps)) = (taken_grows (left - s.count) (next_sum left sum s) steps (omega arith)).0 in
        inl (omega (arith, long, grows))
    by false e (inl long) = inl long
    by false e (inr ih) =
        let short = leb-false too_long (sum + many (min left s.count) s.length) e in
        let all = one_step t left sum s.length s.count (length_taken (fold take_step (left - s.count, next_sum left sum s) steps)) (saved t steps) (omega (arith, short)) ih in
        let same : sum + t * left ≤ length_taken (fold take_step (left, sum) (s ∷ steps)) + ((t - s.length) * s.count + saved t steps) = all in
        inr (omega (arith, same, saves))

-- the least that is taken is no more than what is taken in any order
pub least_within : (wanted n m : ℕ) (steps : List Step) → n ≤ too_long → IsLeastTaken wanted steps n → IsTakenInOrder wanted steps m → n ≤ m
least_within wanted n m steps within least some = by (covered least.0 wanted 0 some.0 (omega arith))
  where
    by : IsCoveredBy least.0 wanted 0 some.0 → n ≤ m
    by (inl long) = let is = some.2 in omega (arith, long, is, within)
    by (inr all) =
        let same : saved least.0 some.0 ≡ saved least.0 steps = sum_by-IsPermutation (λ (step : Step). (least.0 - step.length) * step.count) steps some.0 some.1 in
        let low = least.1 in
        let is = some.2 in
        omega (arith, all, same, low, is)

pub taken_short : (wanted n : ℕ) (steps : List Step) → IsTakenInOrder wanted steps n → n ≤ too_long
taken_short wanted n steps some = let le = (taken_grows wanted 0 some.0 (omega arith)).1 in let is = some.2 in omega (arith, le, is)

-- what is least and taken is one number
pub taken_one : (wanted n m : ℕ) (steps : List Step) → IsLeastTaken wanted steps n → IsTakenInOrder wanted steps n → IsLeastTaken wanted steps m → IsTakenInOrder wanted steps m → n ≡ m
taken_one wanted n m steps least some least_too some_too =
    let first = least_within wanted n m steps (taken_short wanted n steps some) least some_too in
    let second = least_within wanted m n steps (taken_short wanted m steps some_too) least_too some in
    omega (arith, first, second)
