-- Where AVPs end that are taken by steps in the order of their lengths.
use Rattle.std.proofs.Common.{◌≡◌, ℕ, zero, suc, ◌+◌, ◌-◌, ◌<◌, ◌≤◌, Bool, true, false, List, [], ◌∷◌, ◌++◌, sym, refl, ap, subst, ◌∙◌, arith, inl, inr, append_assoc}
use Rattle.std.specs.Prelude.{◌⊎◌, nat_lt, ◌&&◌, ◌==◌, if◌then◌else◌, fold, sum_by, IsPermutation}
use Rattle.std.specs.List.Sorted.{IsNonDecreasingBy}
use Rattle.std.proofs.lemmas.Bool.{ltb-true, ltb-false, eqb-true, eq-eqb}
use Rattle.std.proofs.lemmas.List.{append-nil}
use Rattle.std.proofs.lemmas.List.Sorted.{sum_by-IsPermutation}
use Rattle.std.proofs.lemmas.List.Sums.{sum_by-append, sum_by-cons}
use Rattle.dia_breaking_levels.specs.declared.cut.Cut.{Cut}
use Rattle.dia_breaking_levels.specs.declared.steps.Step.{Step}
use Rattle.dia_breaking_levels.specs.Cuts.{IsCut, cut_step, shorter, steps_at}
use Rattle.dia_breaking_levels.proofs.StepBounds.{Rises, rises_from}

-- ---- one step

-- what a step has that is shorter than t, and whether it is as long
abbrev counted : ℕ → Step → ℕ
counted t step = if nat_lt step.length t then step.count else 0

abbrev one_if : Bool → ℕ
one_if b = if b then 1 else 0

abbrev here : ℕ → Step → ℕ
here t step = one_if (step.length == t)

counted_less : (t : ℕ) (step : Step) → step.length < t → counted t step ≡ step.count
counted_less t step less = by (nat_lt step.length t) refl
  where
    by : (b : Bool) → nat_lt step.length t ≡ b → (if b then step.count else 0) ≡ step.count
    by true e = refl
    by false e = let le = ltb-false step.length t e in absurd (omega (arith, le, less))

counted_none : (t : ℕ) (step : Step) → t ≤ step.length → counted t step ≡ 0
counted_none t step le = by (nat_lt step.length t) refl
  where
    by : (b : Bool) → nat_lt step.length t ≡ b → (if b then step.count else 0) ≡ 0
    by true e = let less = ltb-true step.length t e in absurd (omega (arith, le, less))
    by false e = refl

counted_most : (t : ℕ) (step : Step) → counted t step ≤ step.count
counted_most t step = by (nat_lt step.length t)
  where
    by : (b : Bool) → (if b then step.count else 0) ≤ step.count
    by true = omega arith
    by false = omega arith

here_one : (t : ℕ) (step : Step) → step.length ≡ t → here t step ≡ 1
here_one t step same = ap one_if (eq-eqb step.length t same)

here_none : (t : ℕ) (step : Step) → (step.length ≡ t → ⊥) → here t step ≡ 0
here_none t step other = by (step.length == t) refl
  where
    by : (b : Bool) → (step.length == t) ≡ b → one_if b ≡ 0
    by true e = absurd (other (eqb-true step.length t e))
    by false e = refl

-- ---- steps so far, none of which is longer than c

abbrev total_count : List Step → ℕ
total_count steps = sum_by (λ step. step.count) steps

record SoFar (wanted : ℕ) (steps : List Step) (c : ℕ) (cut : Cut) (left : ℕ) : Type 0 where
  cutting : IsCut wanted steps cut
  left_is : left ≡ wanted - total_count steps
  most : (t : ℕ) → shorter t steps ≤ total_count steps
  above : (t : ℕ) → c < t → shorter t steps ≡ total_count steps
  none_above : (t : ℕ) → c < t → steps_at t steps ≡ 0
  own : steps_at c steps ≡ 0 → shorter c steps ≡ total_count steps

-- with one step more
shorter_more : (t : ℕ) (steps : List Step) (x : Step) → shorter t (steps ++ x ∷ []) ≡ shorter t steps + counted t x
shorter_more t steps x =
    let one : shorter t (x ∷ []) ≡ counted t x + 0 = sum_by-cons (counted t) x [] in
    omega (arith, one, sum_by-append (counted t) steps (x ∷ []))

here_more : (t : ℕ) (steps : List Step) (x : Step) → steps_at t (steps ++ x ∷ []) ≡ steps_at t steps + here t x
here_more t steps x =
    let one : steps_at t (x ∷ []) ≡ here t x + 0 = sum_by-cons (here t) x [] in
    omega (arith, one, sum_by-append (here t) steps (x ∷ []))

total_more : (steps : List Step) (x : Step) → total_count (steps ++ x ∷ []) ≡ total_count steps + x.count
total_more steps x =
    let one : total_count (x ∷ []) ≡ x.count + 0 = sum_by-cons (λ (s : Step). s.count) x [] in
    omega (arith, one, sum_by-append (λ (s : Step). s.count) steps (x ∷ []))

module _ (wanted : ℕ) (steps : List Step) (c : ℕ) (cut : Cut) (left : ℕ) (x : Step) (now : SoFar wanted steps c cut left) (rises : c ≤ x.length) where
  abbrev more : List Step
  more = steps ++ x ∷ []

  -- where none so far is as long as x, all are shorter
  all_shorter : steps_at x.length steps ≡ 0 → shorter x.length steps ≡ total_count steps
  all_shorter none = by (nat_lt c x.length) refl
    where
      by : (b : Bool) → nat_lt c x.length ≡ b → shorter x.length steps ≡ total_count steps
      by true e = now.above x.length (ltb-true c x.length e)
      by false e =
          let le = ltb-false c x.length e in
          let same : c ≡ x.length = omega (arith, le, rises) in
          subst (λ (t : ℕ). shorter t steps ≡ total_count steps) same (now.own (subst (λ (t : ℕ). steps_at t steps ≡ 0) (sym same) none))

  -- the step itself is not shorter than its length
  own_none : counted x.length x ≡ 0
  own_none = counted_none x.length x (omega arith)

  own_one : here x.length x ≡ 1
  own_one = here_one x.length x refl

  -- the cut moves there
  moved : 0 < left → cut.length < x.length → IsCut wanted more (record { length = x.length; left = left })
  moved some longer =
      let t = x.length in
      let left_is = now.left_is in
      let most = now.most t in
      let none : steps_at t steps ≡ 0 = none_there (steps_at t steps) refl in
      let all = all_shorter none in
      let sum = shorter_more t steps x in
      let count = here_more t steps x in
      record {
        greatest = λ u at few. later u (nat_lt t u) refl at;
        reached = inr (omega (arith, count, own_one), omega (arith, sum, own_none, all, left_is, some));
        left = omega (arith, sum, own_none, all, left_is);
      }
    where
      none_there : (n : ℕ) → steps_at x.length steps ≡ n → steps_at x.length steps ≡ 0
      none_there zero e = e
      none_there (suc n) e =
          let most = now.most x.length in
          let left_is = now.left_is in
          let le = now.cutting.greatest x.length (omega (arith, e)) (omega (arith, most, left_is, some)) in
          absurd (omega (arith, le, longer))

      later : (u : ℕ) (b : Bool) → nat_lt x.length u ≡ b → 0 < steps_at u more → u ≤ x.length
      later u true e at =
          let less = ltb-true x.length u e in
          let none = now.none_above u (omega (arith, less, rises)) in
          let other = here_none u x (λ same. omega (arith, same, less)) in
          absurd (omega (arith, at, here_more u steps x, none, other))
      later u false e at = ltb-false x.length u e

  -- or it stays
  stayed : (left ≡ 0) ⊎ (x.length ≤ cut.length) → IsCut wanted more cut
  stayed why = record {
    greatest = λ t at few. by t (x.length == t) refl at few;
    reached = still now.cutting.reached;
    left = let old = now.cutting.left in let none = not_before now.cutting.reached in omega (arith, old, none, shorter_more cut.length steps x);
  }
    where
      not_before : (cut.length ≡ 0) ⊎ ((0 < steps_at cut.length steps) × (shorter cut.length steps < wanted)) → counted cut.length x ≡ 0
      not_before (inl zero_length) = counted_none cut.length x (omega (arith, zero_length))
      not_before (inr (some, few)) = by (nat_lt c cut.length) refl
        where
          by : (b : Bool) → nat_lt c cut.length ≡ b → counted cut.length x ≡ 0
          by true e = let none = now.none_above cut.length (ltb-true c cut.length e) in absurd (omega (arith, none, some))
          by false e = let le = ltb-false c cut.length e in counted_none cut.length x (omega (arith, le, rises))

      still : (cut.length ≡ 0) ⊎ ((0 < steps_at cut.length steps) × (shorter cut.length steps < wanted))
          → (cut.length ≡ 0) ⊎ ((0 < steps_at cut.length more) × (shorter cut.length more < wanted))
      still (inl zero_length) = inl zero_length
      still (inr (some, few)) =
          let none = not_before (inr (some, few)) in
          inr (omega (arith, some, here_more cut.length steps x), omega (arith, few, none, shorter_more cut.length steps x))

      here_again : (left ≡ 0) ⊎ (x.length ≤ cut.length) → shorter x.length steps < wanted → x.length ≤ cut.length
      here_again (inr le) few = le
      here_again (inl none) few = there (steps_at x.length steps) refl
        where
          there : (n : ℕ) → steps_at x.length steps ≡ n → x.length ≤ cut.length
          there zero e = let all = all_shorter e in let left_is = now.left_is in absurd (omega (arith, all, left_is, none, few))
          there (suc n) e = now.cutting.greatest x.length (omega (arith, e)) few

      by : (t : ℕ) (b : Bool) → (x.length == t) ≡ b → 0 < steps_at t more → shorter t more < wanted → t ≤ cut.length
      by t true e at few =
          let same : x.length ≡ t = eqb-true x.length t e in
          let le = here_again why (subst (λ (u : ℕ). shorter u steps < wanted) (sym same) (omega (arith, few, shorter_more t steps x))) in
          omega (arith, same, le)
      by t false e at few =
          let none = here_none t x (λ same. absurd (let bad : true ≡ false = sym (eq-eqb x.length t same) ∙ e in cc)) in
          now.cutting.greatest t (omega (arith, at, none, here_more t steps x)) (omega (arith, few, shorter_more t steps x))

  cut_more : IsCut wanted more (cut_step (cut, left) x).0
  cut_more = by (nat_lt 0 left) (nat_lt cut.length x.length) refl refl
    where
      by : (a b : Bool) → nat_lt 0 left ≡ a → nat_lt cut.length x.length ≡ b → IsCut wanted more (if a && b then record { length = x.length; left = left } else cut)
      by true true e f = moved (ltb-true 0 left e) (ltb-true cut.length x.length f)
      by true false e f = stayed (inr (ltb-false cut.length x.length f))
      by false b e f = stayed (inl (let none = ltb-false 0 left e in omega (arith, none)))

  so_more : SoFar wanted more x.length (cut_step (cut, left) x).0 (cut_step (cut, left) x).1
  so_more = record {
    cutting = cut_more;
    left_is = let left_is = now.left_is in omega (arith, left_is, total_more steps x);
    most = λ t. let most = now.most t in omega (arith, most, shorter_more t steps x, total_more steps x, counted_most t x);
    above = λ t less.
        let old = now.above t (omega (arith, less, rises)) in
        omega (arith, old, shorter_more t steps x, total_more steps x, counted_less t x less);
    none_above = λ t less.
        let old = now.none_above t (omega (arith, less, rises)) in
        omega (arith, old, here_more t steps x, here_none t x (λ same. omega (arith, same, less)));
    own = λ none. absurd (omega (arith, none, here_more x.length steps x, own_one));
  }

-- so it continues
cut_all : (wanted : ℕ) (steps rest : List Step) (c : ℕ) (cut : Cut) (left : ℕ) → SoFar wanted steps c cut left → Rises c rest → IsCut wanted (steps ++ rest) (fold cut_step (cut, left) rest).0
cut_all wanted steps [] c cut left now rises = subst (λ (all : List Step). IsCut wanted all cut) (sym (append-nil steps)) now.cutting
cut_all wanted steps (x ∷ rest) c cut left now rises =
    subst (λ (all : List Step). IsCut wanted all (fold cut_step (cut, left) (x ∷ rest)).0) (append_assoc steps (x ∷ []) rest)
    (cut_all wanted (steps ++ x ∷ []) rest x.length (cut_step (cut, left) x).0 (cut_step (cut, left) x).1 (so_more wanted steps c cut left x now rises.0) rises.1)

begun : (wanted : ℕ) → SoFar wanted [] 0 (record { length = 0; left = wanted }) wanted
begun wanted = record {
  cutting = record { greatest = λ t at few. absurd (omega (arith, at)); reached = inl refl; left = omega arith };
  left_is = omega arith;
  most = λ t. omega arith;
  above = λ t less. refl;
  none_above = λ t less. refl;
  own = λ none. refl;
}

-- in any order
pub cut_of_sorted : (wanted : ℕ) (steps sorted : List Step) → IsPermutation steps sorted → IsNonDecreasingBy (λ (s : Step). s.length) sorted
    → IsCut wanted steps (fold cut_step (record { length = 0; left = wanted }, wanted) sorted).0
cut_of_sorted wanted steps sorted same up =
    let all = cut_all wanted [] sorted 0 (record { length = 0; left = wanted }) wanted (begun wanted) (rises_from 0 sorted (λ i d within. omega arith) up) in
    let cut = (fold cut_step (record { length = 0; left = wanted }, wanted) sorted).0 in
    let count : (t : ℕ) → shorter t sorted ≡ shorter t steps = λ t. sum_by-IsPermutation (counted t) steps sorted same in
    let at : (t : ℕ) → steps_at t sorted ≡ steps_at t steps = λ t. sum_by-IsPermutation (here t) steps sorted same in
    record {
      greatest = λ t some few. all.greatest t (subst (λ (n : ℕ). 0 < n) (sym (at t)) some) (subst (λ (n : ℕ). n < wanted) (sym (count t)) few);
      reached = subst (λ (n : ℕ). (cut.length ≡ 0) ⊎ ((0 < n) × (shorter cut.length steps < wanted))) (at cut.length)
          (subst (λ (n : ℕ). (cut.length ≡ 0) ⊎ ((0 < steps_at cut.length sorted) × (n < wanted))) (count cut.length) all.reached);
      left = all.left ∙ ap (λ (n : ℕ). wanted - n) (count cut.length);
    }

-- ---- there is one

one_length : (wanted : ℕ) (steps : List Step) (a b : Cut) → IsCut wanted steps a → IsCut wanted steps b → a.length ≤ b.length
one_length wanted steps a b is_a is_b = by is_a.reached
  where
    by : (a.length ≡ 0) ⊎ ((0 < steps_at a.length steps) × (shorter a.length steps < wanted)) → a.length ≤ b.length
    by (inl zero_length) = omega (arith, zero_length)
    by (inr (some, few)) = is_b.greatest a.length some few

pub one_cut : (wanted : ℕ) (steps : List Step) (a b : Cut) → IsCut wanted steps a → IsCut wanted steps b → a ≡ b
one_cut wanted steps a b is_a is_b =
    let le = one_length wanted steps a b is_a is_b in
    let ge = one_length wanted steps b a is_b is_a in
    let same : a.length ≡ b.length = omega (arith, le, ge) in
    let left : a.left ≡ b.left = is_a.left ∙ ap (λ (t : ℕ). wanted - shorter t steps) same ∙ sym is_b.left in
    ap (λ (t : ℕ). let cut : Cut = record { length = t; left = a.left } in cut) same ∙ ap (λ (n : ℕ). let cut : Cut = record { length = b.length; left = n } in cut) left
