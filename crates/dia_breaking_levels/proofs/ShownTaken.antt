-- Where steps are taken up to their cut, so many AVPs are taken as are wanted.
use Rattle.std.proofs.Common.{◌≡◌, ℕ, zero, suc, ◌+◌, ◌-◌, ◌*◌, ◌<◌, ◌≤◌, Bool, true, false, List, [], ◌∷◌, ◌++◌, refl, sym, ap, ◌∙◌, arith, inl, inr}
use Rattle.std.specs.Prelude.{◌⊎◌, min, max, nat_lt, ◌==◌, fold, sum_by, if◌then◌else◌}
use Rattle.std.proofs.Math.Nat.{mul-le-mul_left, mul_comm, zero-mul}
use Rattle.std.proofs.lemmas.Bool.{eqb-true, eq-eqb, ltb-true, ltb-false}
use Rattle.std.proofs.lemmas.List.Sorted.{sum_by-IsPermutation}
use Rattle.std.proofs.lemmas.List.Sums.{sum_by-cons}
use Rattle.dia_valid.proofs.Members.{IsIn}
use Rattle.dia_breaking_levels.specs.declared.cut.Cut.{Cut}
use Rattle.dia_breaking_levels.specs.declared.steps.Step.{Step}
use Rattle.dia_breaking_levels.specs.Chosen.{cut_following, taken_of}
use Rattle.dia_breaking_levels.specs.Cuts.{IsCut, shorter, steps_at}
use Rattle.dia_breaking_levels.specs.LevelTests.{too_long}
use Rattle.dia_breaking_levels.specs.Steps.{IsTakenInOrder, length_taken, take_step}
use Rattle.dia_breaking_levels.proofs.TakenBounds.{next_sum, taken_grows}

-- how many AVPs the steps have, and how many of one length
abbrev pub of_all : List Step → ℕ
of_all steps = sum_by (λ step. step.count) steps

abbrev pub of_length : ℕ → List Step → ℕ
of_length t steps = sum_by (λ step. if step.length == t then step.count else 0) steps

shorter-cons : (t : ℕ) (x : Step) (steps : List Step) → shorter t (x ∷ steps) ≡ (if nat_lt x.length t then x.count else 0) + shorter t steps
shorter-cons t x steps = sum_by-cons (λ (step : Step). if nat_lt step.length t then step.count else 0) x steps

of_length-cons : (t : ℕ) (x : Step) (steps : List Step) → of_length t (x ∷ steps) ≡ (if x.length == t then x.count else 0) + of_length t steps
of_length-cons t x steps = sum_by-cons (λ (step : Step). if step.length == t then step.count else 0) x steps

of_all-cons : (x : Step) (steps : List Step) → of_all (x ∷ steps) ≡ x.count + of_all steps
of_all-cons x steps = sum_by-cons (λ (step : Step). step.count) x steps

steps_at-cons : (t : ℕ) (x : Step) (steps : List Step) → steps_at t (x ∷ steps) ≡ (if x.length == t then 1 else 0) + steps_at t steps
steps_at-cons t x steps = sum_by-cons (λ (step : Step). if step.length == t then 1 else 0) x steps

-- a length is less, the same or greater
pub record IsLess (n t : ℕ) (below here : Bool) : Type 0 where
  pub below_is : nat_lt n t ≡ below
  pub here_is : (n == t) ≡ here

abbrev pub Order : ℕ → ℕ → Type 0
Order n t = (IsLess n t true false × (n < t)) ⊎ (IsLess n t false true × (n ≡ t)) ⊎ (IsLess n t false false × (t < n))

pub ordered : (n t : ℕ) → Order n t
ordered n t = by (nat_lt n t) (n == t) refl refl
  where
    by : (x y : Bool) → nat_lt n t ≡ x → (n == t) ≡ y → Order n t
    by true true e g = let less = ltb-true n t e in let same = eqb-true n t g in absurd (omega (arith, less, same))
    by true false e g = inl (record { below_is = e; here_is = g }, ltb-true n t e)
    by false true e g = inr (inl (record { below_is = e; here_is = g }, eqb-true n t g))
    by false false e g =
        let le = ltb-false n t e in
        inr (inr (record { below_is = e; here_is = g }, beyond le))
      where
        beyond : t ≤ n → t < n
        beyond le = test (nat_lt t n) refl
          where
            test : (z : Bool) → nat_lt t n ≡ z → t < n
            test true h = ltb-true t n h
            test false h =
                let ge = ltb-false t n h in
                let same : n ≡ t = omega (arith, le, ge) in
                absurd (let bad : true ≡ false = sym (eq-eqb n t same) ∙ g in cc)

-- ---- what is taken in an order

-- so many are there as are taken, and all but those that take nothing take something
pub taken_there : (left sum : ℕ) (steps : List Step) → length_taken (fold take_step (left, sum) steps) < too_long → left ≤ of_all steps
taken_there left sum [] short = by (left == 0) refl short
  where
    by : (t : Bool) → (left == 0) ≡ t → (if t then sum else too_long) < too_long → left ≤ 0
    by true e less = let none = eqb-true left 0 e in omega (arith, none)
    by false e less = absurd (omega (arith, less))
taken_there left sum (x ∷ steps) short =
    let ih = taken_there (left - x.count) (next_sum left sum x) steps short in
    omega (arith, ih, of_all-cons x steps)

pub taken_few : (left sum : ℕ) (steps : List Step) → sum ≤ too_long → length_taken (fold take_step (left, sum) steps) < too_long
    → left + sum ≤ of_length 0 steps + length_taken (fold take_step (left, sum) steps)
taken_few left sum [] within short = by (left == 0) refl short
  where
    by : (t : Bool) → (left == 0) ≡ t → (if t then sum else too_long) < too_long → left + sum ≤ 0 + (if t then sum else too_long)
    by true e less = let none = eqb-true left 0 e in omega (arith, none)
    by false e less = absurd (omega (arith, less))
taken_few left sum (x ∷ steps) within short =
    let ih = taken_few (left - x.count) (next_sum left sum x) steps (omega arith) short in
    let grows = (taken_grows (left - x.count) (next_sum left sum x) steps (omega arith)).0 in
    let all = of_length-cons 0 x steps in
    let more = by (x.length == 0) refl (length_taken (fold take_step (left - x.count, next_sum left sum x) steps)) (of_length 0 steps) ih grows short in
    omega (arith, all, more)
  where
    above_zero : (n : ℕ) → (n == 0) ≡ false → 1 ≤ n
    above_zero zero h = absurd (let bad : true ≡ false = h in cc)
    above_zero (suc n) h = omega arith

    by : (t : Bool) → (x.length == 0) ≡ t → (last rest : ℕ) → left - x.count + next_sum left sum x ≤ rest + last → next_sum left sum x ≤ last → last < too_long
        → left + sum ≤ (if x.length == 0 then x.count else 0) + rest + last
    by true g last rest ih grows is =
        let own : (if x.length == 0 then x.count else 0) ≡ x.count = ap (λ (z : Bool). if z then x.count else 0) g in
        let none = eqb-true x.length 0 g in
        let product : min left x.count * x.length ≡ 0 = ap (λ (n : ℕ). min left x.count * n) none ∙ mul_comm (min left x.count) 0 ∙ zero-mul (min left x.count) in
        omega (arith, ih, grows, is, own, product, within)
    by false g last rest ih grows is =
        let own : (if x.length == 0 then x.count else 0) ≡ 0 = ap (λ (z : Bool). if z then x.count else 0) g in
        let some : 1 ≤ x.length = above_zero x.length g in
        let product = mul-le-mul_left (min left x.count) some in
        omega (arith, ih, grows, is, own, product)

-- where the shorter steps are too few, what is taken has an AVP of this length
pub taken_long : (left sum t : ℕ) (steps : List Step) → sum ≤ too_long → length_taken (fold take_step (left, sum) steps) < too_long → shorter t steps < left
    → sum + t ≤ length_taken (fold take_step (left, sum) steps)
taken_long left sum t [] within short few = by (left == 0) refl short
  where
    by : (z : Bool) → (left == 0) ≡ z → (if z then sum else too_long) < too_long → sum + t ≤ (if z then sum else too_long)
    by true e less = let none = eqb-true left 0 e in let some : 0 < left = few in absurd (omega (arith, none, some))
    by false e less = absurd (omega (arith, less))
taken_long left sum t (x ∷ steps) within short few =
    by (nat_lt x.length t) refl (λ less. taken_long (left - x.count) (next_sum left sum x) t steps (omega arith) short less)
  where
    last : ℕ
    last = length_taken (fold take_step (left - x.count, next_sum left sum x) steps)

    is : last < too_long
    is = short

    grows : next_sum left sum x ≤ last
    grows = (taken_grows (left - x.count) (next_sum left sum x) steps (omega arith)).0

    all : shorter t (x ∷ steps) ≡ (if nat_lt x.length t then x.count else 0) + shorter t steps
    all = shorter-cons t x steps

    above_zero : (n : ℕ) → (n == 0) ≡ false → 1 ≤ n
    above_zero zero h = absurd (let bad : true ≡ false = h in cc)
    above_zero (suc n) h = omega arith

    longer : (z : Bool) → (x.count == 0) ≡ z → nat_lt x.length t ≡ false → (shorter t steps < left - x.count → next_sum left sum x + t ≤ last) → sum + t ≤ last
    longer true g e go =
        let own : (if nat_lt x.length t then x.count else 0) ≡ 0 = ap (λ (z : Bool). if z then x.count else 0) e in
        let none = eqb-true x.count 0 g in
        let ih = go (omega (arith, few, all, own, none)) in
        omega (arith, ih, is, within)
    longer false g e go =
        let some = above_zero x.count g in
        let le = ltb-false x.length t e in
        let one : 1 ≤ min left x.count = omega (arith, few, some) in
        let flipped = mul-le-mul_left x.length one in
        let product : x.length ≤ min left x.count * x.length = omega (arith, flipped, mul_comm x.length (min left x.count)) in
        omega (arith, le, product, grows, is, within)

    by : (z : Bool) → nat_lt x.length t ≡ z → (shorter t steps < left - x.count → next_sum left sum x + t ≤ last) → sum + t ≤ last
    by true e go =
        let own : (if nat_lt x.length t then x.count else 0) ≡ x.count = ap (λ (z : Bool). if z then x.count else 0) e in
        let ih = go (omega (arith, few, all, own)) in
        omega (arith, ih, is, within)
    by false e go = longer (x.count == 0) refl e go

-- ---- up to the cut

-- what of the steps is taken, one by one, and the cut after them
abbrev pub takes : Cut → List Step → ℕ
takes cut [] = 0
takes cut (x ∷ steps) = taken_of cut x.length x.count + takes (cut_following cut x.length x.count) steps

abbrev pub following : Cut → List Step → Cut
following cut [] = cut
following cut (x ∷ steps) = following (cut_following cut x.length x.count) steps

pub takes-append : (cut : Cut) (xs ys : List Step) → takes cut (xs ++ ys) ≡ takes cut xs + takes (following cut xs) ys
takes-append cut [] ys = omega arith
takes-append cut (x ∷ xs) ys = let ih = takes-append (cut_following cut x.length x.count) xs ys in omega (arith, ih)

pub same_length : (cut : Cut) (size n : ℕ) → (cut_following cut size n).length ≡ cut.length
same_length cut size n = by (size == cut.length)
  where
    by : (t : Bool) → (let next : Cut = if t then record { length = cut.length; left = cut.left - min n cut.left } else cut in next).length ≡ cut.length
    by true = refl
    by false = refl

left_following : (cut : Cut) (size n : ℕ) → (cut_following cut size n).left ≡ (if size == cut.length then cut.left - min n cut.left else cut.left)
left_following cut size n = by (size == cut.length)
  where
    by : (t : Bool) → (let next : Cut = if t then record { length = cut.length; left = cut.left - min n cut.left } else cut in next).left ≡ (if t then cut.left - min n cut.left else cut.left)
    by true = refl
    by false = refl

-- the shorter ones whole, and of those of the cut's length the rest
takes_all : (cut : Cut) (t : ℕ) (steps : List Step) → cut.length ≡ t → shorter t steps + min cut.left (of_length t steps) ≤ takes cut steps
takes_all cut t [] e = omega arith
takes_all cut t (x ∷ steps) e =
    let next = cut_following cut x.length x.count in
    let ih = takes_all next t steps (same_length cut x.length x.count ∙ e) in
    let left = left_following cut x.length x.count in
    let short = shorter-cons t x steps in
    let here = of_length-cons t x steps in
    let all : shorter t steps + min next.left (of_length t steps) ≤ takes next steps = ih in
    by (ordered x.length t) left short here all
  where
    by : Order x.length t → (cut_following cut x.length x.count).left ≡ (if x.length == cut.length then cut.left - min x.count cut.left else cut.left)
        → shorter t (x ∷ steps) ≡ (if nat_lt x.length t then x.count else 0) + shorter t steps → of_length t (x ∷ steps) ≡ (if x.length == t then x.count else 0) + of_length t steps
        → shorter t steps + min (cut_following cut x.length x.count).left (of_length t steps) ≤ takes (cut_following cut x.length x.count) steps
        → shorter t (x ∷ steps) + min cut.left (of_length t (x ∷ steps)) ≤ takes cut (x ∷ steps)
    by order left short here ih = step order
      where
        parts : (p q : Bool) → IsLess x.length t p q → (shorter t (x ∷ steps) ≡ (if p then x.count else 0) + shorter t steps)
            × (of_length t (x ∷ steps) ≡ (if q then x.count else 0) + of_length t steps)
            × ((cut_following cut x.length x.count).left ≡ (if q then cut.left - min x.count cut.left else cut.left))
            × (taken_of cut x.length x.count ≡ (if p then x.count else if q then min x.count cut.left else 0))
        parts p q is = (
          short ∙ ap (λ (z : Bool). (if z then x.count else 0) + shorter t steps) is.below_is,
          here ∙ ap (λ (z : Bool). (if z then x.count else 0) + of_length t steps) is.here_is,
          left ∙ ap (λ (n : ℕ). if x.length == n then cut.left - min x.count cut.left else cut.left) e ∙ ap (λ (z : Bool). if z then cut.left - min x.count cut.left else cut.left) is.here_is,
          ap (λ (n : ℕ). if nat_lt x.length n then x.count else if x.length == n then min x.count cut.left else 0) e
              ∙ ap (λ (z : Bool). if z then x.count else if x.length == t then min x.count cut.left else 0) is.below_is
              ∙ ap (λ (z : Bool). if p then x.count else if z then min x.count cut.left else 0) is.here_is,
        )

        step : Order x.length t → shorter t (x ∷ steps) + min cut.left (of_length t (x ∷ steps)) ≤ takes cut (x ∷ steps)
        step (inl less) = let ps = parts true false less.0 in omega (arith, ih, ps.0, ps.1, ps.2, ps.3)
        step (inr (inl same)) = let ps = parts false true same.0 in omega (arith, ih, ps.0, ps.1, ps.2, ps.3)
        step (inr (inr more)) = let ps = parts false false more.0 in omega (arith, ih, ps.0, ps.1, ps.2, ps.3)

-- ---- the cut comes after as many as are wanted

one_more : (t : ℕ) (steps : List Step) → shorter (t + 1) steps ≡ shorter t steps + of_length t steps
one_more t [] = refl
one_more t (x ∷ steps) =
    let ih = one_more t steps in
    let low = shorter-cons t x steps in
    let high = shorter-cons (t + 1) x steps in
    let here = of_length-cons t x steps in
    by (ordered x.length t) (ordered x.length (t + 1)) ih low high here
  where
    by : Order x.length t → Order x.length (t + 1) → shorter (t + 1) steps ≡ shorter t steps + of_length t steps
        → shorter t (x ∷ steps) ≡ (if nat_lt x.length t then x.count else 0) + shorter t steps
        → shorter (t + 1) (x ∷ steps) ≡ (if nat_lt x.length (t + 1) then x.count else 0) + shorter (t + 1) steps
        → of_length t (x ∷ steps) ≡ (if x.length == t then x.count else 0) + of_length t steps
        → shorter (t + 1) (x ∷ steps) ≡ shorter t (x ∷ steps) + of_length t (x ∷ steps)
    by at next ih low high here = step at next
      where
        parts : (p q s u : Bool) → IsLess x.length t p q → IsLess x.length (t + 1) s u → (shorter t (x ∷ steps) ≡ (if p then x.count else 0) + shorter t steps)
            × (of_length t (x ∷ steps) ≡ (if q then x.count else 0) + of_length t steps) × (shorter (t + 1) (x ∷ steps) ≡ (if s then x.count else 0) + shorter (t + 1) steps)
        parts p q s u is later = (
          low ∙ ap (λ (z : Bool). (if z then x.count else 0) + shorter t steps) is.below_is,
          here ∙ ap (λ (z : Bool). (if z then x.count else 0) + of_length t steps) is.here_is,
          high ∙ ap (λ (z : Bool). (if z then x.count else 0) + shorter (t + 1) steps) later.below_is,
        )

        step : Order x.length t → Order x.length (t + 1) → shorter (t + 1) (x ∷ steps) ≡ shorter t (x ∷ steps) + of_length t (x ∷ steps)
        step (inl p) (inl q) = let ps = parts true false true false p.0 q.0 in omega (arith, ih, ps.0, ps.1, ps.2)
        step (inl p) (inr (inl q)) = let l = p.1 in let m = q.1 in absurd (omega (arith, l, m))
        step (inl p) (inr (inr q)) = let l = p.1 in let m = q.1 in absurd (omega (arith, l, m))
        step (inr (inl p)) (inl q) = let ps = parts false true true false p.0 q.0 in omega (arith, ih, ps.0, ps.1, ps.2)
        step (inr (inl p)) (inr (inl q)) = let l = p.1 in let m = q.1 in absurd (omega (arith, l, m))
        step (inr (inl p)) (inr (inr q)) = let l = p.1 in let m = q.1 in absurd (omega (arith, l, m))
        step (inr (inr p)) (inl q) = let l = p.1 in let m = q.1 in absurd (omega (arith, l, m))
        step (inr (inr p)) (inr (inl q)) = let ps = parts false false false true p.0 q.0 in omega (arith, ih, ps.0, ps.1, ps.2)
        step (inr (inr p)) (inr (inr q)) = let ps = parts false false false false p.0 q.0 in omega (arith, ih, ps.0, ps.1, ps.2)

none_there : (t : ℕ) (steps : List Step) → steps_at t steps ≡ 0 → of_length t steps ≡ 0
none_there t [] e = refl
none_there t (x ∷ steps) e = by (x.length == t) refl (none_there t steps)
  where
    all : steps_at t (x ∷ steps) ≡ (if x.length == t then 1 else 0) + steps_at t steps
    all = steps_at-cons t x steps

    some : (z : Bool) (n : ℕ) → z ≡ true → (if z then 1 else 0) + n ≡ 0 → ⊥
    some true n g h = omega (arith, h)
    some false n g h = absurd (let bad : false ≡ true = g in cc)

    none : (z : Bool) (n : ℕ) → z ≡ false → (if z then 1 else 0) + n ≡ 0 → n ≡ 0
    none true n g h = absurd (let bad : true ≡ false = g in cc)
    none false n g h = omega (arith, h)

    by : (z : Bool) → (x.length == t) ≡ z → (steps_at t steps ≡ 0 → of_length t steps ≡ 0) → of_length t (x ∷ steps) ≡ 0
    by true g rest = absurd (some (x.length == t) (steps_at t steps) g (sym all ∙ e))
    by false g rest =
        let ih = rest (none (x.length == t) (steps_at t steps) g (sym all ∙ e)) in
        let own : (if x.length == t then x.count else 0) ≡ 0 = ap (λ (z : Bool). if z then x.count else 0) g in
        omega (arith, of_length-cons t x steps, ih, own)

-- beyond the longest step all are shorter
longest : (steps : List Step) → (t : ℕ) × ((x : Step) → IsIn x steps → x.length < t)
longest [] = (0, λ x i. absurd i)
longest (y ∷ steps) = let ih = longest steps in (max (y.length + 1) ih.0, λ x i. by ih.0 ih.1 x i)
  where
    by : (t : ℕ) → ((x : Step) → IsIn x steps → x.length < t) → (x : Step) → IsIn x (y ∷ steps) → x.length < max (y.length + 1) t
    by t each x (inl same) = let own : x.length ≡ y.length = ap (λ (s : Step). s.length) same in omega (arith, own)
    by t each x (inr i) = let less = each x i in omega (arith, less)

all_shorter : (t : ℕ) (steps : List Step) → ((x : Step) → IsIn x steps → x.length < t) → shorter t steps ≡ of_all steps
all_shorter t [] each = refl
all_shorter t (x ∷ steps) each = by (nat_lt x.length t) refl (all_shorter t steps (λ y i. each y (inr i)))
  where
    less : x.length < t
    less = each x (inl refl)

    by : (z : Bool) → nat_lt x.length t ≡ z → shorter t steps ≡ of_all steps → shorter t (x ∷ steps) ≡ of_all (x ∷ steps)
    by true e ih =
        let own : (if nat_lt x.length t then x.count else 0) ≡ x.count = ap (λ (z : Bool). if z then x.count else 0) e in
        omega (arith, ih, own, shorter-cons t x steps, of_all-cons x steps)
    by false e ih = let le = ltb-false x.length t e in absurd (omega (arith, less, le))

module _ (wanted : ℕ) (steps : List Step) (cut : Cut) (is : IsCut wanted steps cut) where
  climb : (n : ℕ) → shorter (cut.length + 1) steps < wanted → shorter (cut.length + 1 + n) steps < wanted
  climb zero few = let same : shorter (cut.length + 1 + 0) steps ≡ shorter (cut.length + 1) steps = ap (λ (t : ℕ). shorter t steps) (omega arith) in omega (arith, few, same)
  climb (suc n) few = by (steps_at (cut.length + 1 + n) steps) refl (climb n few)
    where
      next : shorter (cut.length + 1 + suc n) steps ≡ shorter (cut.length + 1 + n) steps + of_length (cut.length + 1 + n) steps
      next = ap (λ (t : ℕ). shorter t steps) (omega arith) ∙ one_more (cut.length + 1 + n) steps

      by : (m : ℕ) → steps_at (cut.length + 1 + n) steps ≡ m → shorter (cut.length + 1 + n) steps < wanted → shorter (cut.length + 1 + suc n) steps < wanted
      by zero e ih = let none = none_there (cut.length + 1 + n) steps e in omega (arith, ih, next, none)
      by (suc m) e ih = let le = is.greatest (cut.length + 1 + n) (omega (arith, e)) ih in absurd (omega (arith, le))

  reaches : wanted ≤ of_all steps → wanted ≤ shorter (cut.length + 1) steps
  reaches there = by (nat_lt (shorter (cut.length + 1) steps) wanted) refl
    where
      by : (z : Bool) → nat_lt (shorter (cut.length + 1) steps) wanted ≡ z → wanted ≤ shorter (cut.length + 1) steps
      by false e = ltb-false (shorter (cut.length + 1) steps) wanted e
      by true e =
          let far = longest steps in
          let few = climb far.0 (ltb-true (shorter (cut.length + 1) steps) wanted e) in
          let all = all_shorter (cut.length + 1 + far.0) steps (λ x i. let less = far.1 x i in omega (arith, less)) in
          absurd (omega (arith, few, all, there))

  pub takes_wanted : wanted ≤ of_all steps → wanted ≤ takes cut steps
  takes_wanted there =
      let all = takes_all cut cut.length steps refl in
      let le = reaches there in
      let split = one_more cut.length steps in
      let left = is.left in
      omega (arith, all, le, split, left)

  -- and none that is longer than what is taken
  pub cut_within : (n : ℕ) → IsTakenInOrder wanted steps n → n < too_long → cut.length ≤ n
  cut_within n some short = by is.reached
    where
      order : List Step
      order = some.0

      by : (cut.length ≡ 0) ⊎ ((0 < steps_at cut.length steps) × (shorter cut.length steps < wanted)) → cut.length ≤ n
      by (inl none) = omega (arith, none)
      by (inr few) =
          let same : shorter cut.length order ≡ shorter cut.length steps = sum_by-IsPermutation (λ (step : Step). if nat_lt step.length cut.length then step.count else 0) steps order some.1 in
          let own = some.2 in
          let le = taken_long wanted 0 cut.length order (omega arith) (omega (arith, own, short)) (let less = few.1 in omega (arith, same, less)) in
          omega (arith, le, own)

-- so many are there, and hardly more than what they take
pub wanted_there : (wanted n : ℕ) (steps : List Step) → IsTakenInOrder wanted steps n → n < too_long → wanted ≤ of_all steps
wanted_there wanted n steps some short =
    let own = some.2 in
    let there = taken_there wanted 0 some.0 (omega (arith, own, short)) in
    let same : of_all some.0 ≡ of_all steps = sum_by-IsPermutation (λ (step : Step). step.count) steps some.0 some.1 in
    omega (arith, there, same)

pub wanted_few : (wanted n : ℕ) (steps : List Step) → IsTakenInOrder wanted steps n → n < too_long → wanted ≤ of_length 0 steps + n
wanted_few wanted n steps some short =
    let own = some.2 in
    let few = taken_few wanted 0 some.0 (omega arith) (omega (arith, own, short)) in
    let same : of_length 0 some.0 ≡ of_length 0 steps = sum_by-IsPermutation (λ (step : Step). if step.length == 0 then step.count else 0) steps some.0 some.1 in
    omega (arith, few, same, own)
