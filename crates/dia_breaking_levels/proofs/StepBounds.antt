-- The steps that are taken first are the cheapest.
use Rattle.std.proofs.Common.{◌≡◌, ℕ, zero, suc, ◌+◌, ◌-◌, ◌*◌, ◌<◌, ◌≤◌, Bool, true, false, List, [], ◌∷◌, length, sym, refl, ap, subst, ◌∙◌, arith}
use Rattle.std.specs.Prelude.{min, max, nat_le, ◌==◌, fold, slice_index_or, IsPermutation, if◌then◌else◌, ⊤}
use Rattle.std.specs.List.Sorted.{IsNonDecreasingBy}
use Rattle.std.proofs.Math.Nat.{mul-le-mul_left, mul_comm, add-mul, mul-add, zero-mul, one-mul}
use Rattle.std.proofs.lemmas.Bool.{leb-true, leb-false, eqb-true}
use Rattle.std.proofs.lemmas.List.Sorted.{sum_by-IsPermutation}
use Rattle.std.proofs.lemmas.List.Sums.{sum_by-cons}
use Rattle.dia_breaking_levels.specs.declared.steps.Step.{Step}
use Rattle.dia_breaking_levels.specs.LevelTests.{too_long, capped, many}
use Rattle.dia_breaking_levels.specs.Steps.{take_step, length_taken, taken, saved, IsLeastTaken}

-- each step is as long as the one before it, and the first as long as c
abbrev pub Rises : ℕ → List Step → Type 0
Rises c [] = ⊤
Rises c (s ∷ steps) = (c ≤ s.length) × Rises s.length steps

pub saved-cons : (t : ℕ) (s : Step) (steps : List Step) → saved t (s ∷ steps) ≡ (t - s.length) * s.count + saved t steps
saved-cons t s steps = sum_by-cons (λ (step : Step). (t - step.length) * step.count) s steps

no_product : (m n : ℕ) → m ≡ 0 → m * n ≡ 0
no_product m n e = ap (λ (k : ℕ). k * n) e ∙ zero-mul n

-- nothing is wanted any more
none_wanted : (left sum : ℕ) (steps : List Step) → left ≡ 0 → length_taken (fold take_step (left, sum) steps) ≤ sum
none_wanted left sum [] e = subst (λ (n : ℕ). length_taken (n, sum) ≤ sum) (sym e) (omega arith)
none_wanted left sum (s ∷ steps) e =
    let none = no_product (min left s.count) s.length (omega (arith, e)) in
    let ih = none_wanted (left - s.count) (capped (sum + many (min left s.count) s.length)) steps (omega (arith, e)) in
    let le : capped (sum + many (min left s.count) s.length) ≤ sum = omega (arith, none) in
    let all : length_taken (fold take_step (left, sum) (s ∷ steps)) ≤ capped (sum + many (min left s.count) s.length) = ih in
    omega (arith, all, le)

none_saved : (t c : ℕ) (steps : List Step) → t ≤ c → Rises c steps → saved t steps ≡ 0
none_saved t c [] le rises = refl
none_saved t c (s ∷ steps) le rises =
    let first = rises.0 in
    let ih = none_saved t s.length steps (omega (arith, le, first)) rises.1 in
    let none = no_product (t - s.length) s.count (omega (arith, le, first)) in
    omega (arith, ih, none, saved-cons t s steps)

-- what is taken from rising steps is the least: a cut at some length t shows it
pub record Cut (c wanted sum : ℕ) (steps : List Step) : Type 0 where
  pub t : ℕ
  pub above : c ≤ t
  pub least : length_taken (fold take_step (wanted, sum) steps) + saved t steps ≤ sum + t * wanted

enough_numbers : (wanted count sum each rest : ℕ) → wanted ≤ count → rest ≤ capped (sum + capped (min wanted count * each)) → rest ≤ sum + each * wanted
enough_numbers wanted count sum each rest le h =
    let same : min wanted count * each ≡ wanted * each = ap (λ (n : ℕ). n * each) (omega (arith, le)) in
    omega (arith, h, same, mul_comm wanted each)

more_numbers : (wanted count sum each t rest saved_rest : ℕ) → count ≤ wanted → each ≤ t → rest + saved_rest ≤ capped (sum + capped (min wanted count * each)) + t * (wanted - count)
    → rest + ((t - each) * count + saved_rest) ≤ sum + t * wanted
more_numbers wanted count sum each t rest saved_rest le low h =
    let same : min wanted count * each ≡ count * each = ap (λ (n : ℕ). n * each) (omega (arith, le)) in
    let parts : t * wanted ≡ t * (count + (wanted - count)) = ap (λ (n : ℕ). t * n) (omega (arith, le)) in
    let split = mul-add t count (wanted - count) in
    let price : t * count ≡ ((t - each) + each) * count = mul_comm t count ∙ mul_comm count t ∙ ap (λ (n : ℕ). n * count) (omega (arith, low)) in
    let both = add-mul (t - each) each count in
    omega (arith, h, same, parts, split, price, both, mul_comm count each)

-- the rest after a step
abbrev left_over : ℕ → Step → ℕ
left_over wanted s = wanted - s.count

abbrev sum_after : ℕ → ℕ → Step → ℕ
sum_after wanted sum s = capped (sum + many (min wanted s.count) s.length)

cut_here : (c wanted sum : ℕ) (s : Step) (steps : List Step) → Rises c (s ∷ steps) → wanted ≤ s.count → Cut c wanted sum (s ∷ steps)
cut_here c wanted sum s steps rises le = record {
  t = s.length;
  above = rises.0;
  least =
      let none = none_saved s.length s.length steps (omega arith) rises.1 in
      let own = no_product (s.length - s.length) s.count (omega arith) in
      let rest = none_wanted (left_over wanted s) (sum_after wanted sum s) steps (omega (arith, le)) in
      let all = enough_numbers wanted s.count sum s.length (length_taken (fold take_step (left_over wanted s, sum_after wanted sum s) steps)) le rest in
      let same : length_taken (fold take_step (wanted, sum) (s ∷ steps)) ≤ sum + s.length * wanted = all in
      omega (arith, none, own, same, saved-cons s.length s steps);
}

cut_later : (c wanted sum : ℕ) (s : Step) (steps : List Step) → Rises c (s ∷ steps) → s.count ≤ wanted → Cut s.length (left_over wanted s) (sum_after wanted sum s) steps → Cut c wanted sum (s ∷ steps)
cut_later c wanted sum s steps rises le ih = record {
  t = ih.t;
  above = let first = rises.0 in let second = ih.above in omega (arith, first, second);
  least =
      let all = more_numbers wanted s.count sum s.length ih.t (length_taken (fold take_step (left_over wanted s, sum_after wanted sum s) steps)) (saved ih.t steps) le ih.above ih.least in
      let same : length_taken (fold take_step (wanted, sum) (s ∷ steps)) + ((ih.t - s.length) * s.count + saved ih.t steps) ≤ sum + ih.t * wanted = all in
      omega (arith, same, saved-cons ih.t s steps);
}

too_few : (n sum : ℕ) → 0 < n → length_taken (n, sum) ≤ too_long
too_few n sum some = by (n == 0) refl
  where
    by : (b : Bool) → (n == 0) ≡ b → (if b then sum else too_long) ≤ too_long
    by true e = let none : n ≡ 0 = eqb-true n 0 e in absurd (omega (arith, none, some))
    by false e = omega arith

none_left : (c n sum : ℕ) → Cut c (suc n) sum []
none_left c n sum = record {
  t = max c too_long;
  above = omega arith;
  least =
      let one : 1 ≤ suc n = omega arith in
      let some = mul-le-mul_left (max c too_long) one in
      let all : max c too_long * 1 ≡ max c too_long = mul_comm (max c too_long) 1 ∙ one-mul (max c too_long) in
      let long = too_few (suc n) sum (omega arith) in
      let none : saved (max c too_long) [] ≡ 0 = refl in
      omega (arith, some, all, long, none);
}

pub cut : (c wanted sum : ℕ) (steps : List Step) → Rises c steps → Cut c wanted sum steps
cut c zero sum [] rises = record { t = c; above = omega arith; least = omega arith }
cut c (suc n) sum [] rises = none_left c n sum
cut c wanted sum (s ∷ steps) rises = by (nat_le wanted s.count) refl (cut s.length (left_over wanted s) (sum_after wanted sum s) steps rises.1)
  where
    by : (b : Bool) → nat_le wanted s.count ≡ b → Cut s.length (left_over wanted s) (sum_after wanted sum s) steps → Cut c wanted sum (s ∷ steps)
    by true e ih = cut_here c wanted sum s steps rises (leb-true wanted s.count e)
    by false e ih = let less = leb-false wanted s.count e in cut_later c wanted sum s steps rises (omega (arith, less)) ih

pub rises_from : (c : ℕ) (steps : List Step) → ((i : ℕ) (d : Step) → i < length steps → c ≤ (slice_index_or steps i d).length) → IsNonDecreasingBy (λ (s : Step). s.length) steps → Rises c steps
rises_from c [] low up = tt
rises_from c (s ∷ steps) low up = (
  low 0 s (omega arith),
  rises_from s.length steps (λ i d within. up 0 (suc i) d (omega arith) (omega (arith, within))) (λ i j d le within. up (suc i) (suc j) d (omega (arith, le)) (omega (arith, within))),
)

-- steps in order
pub rising_taken : (wanted : ℕ) (steps : List Step) → IsNonDecreasingBy (λ (s : Step). s.length) steps → IsLeastTaken wanted steps (taken wanted steps)
rising_taken wanted steps up = let c = cut 0 wanted 0 steps (rises_from 0 steps (λ i d within. omega arith) up) in (c.t, let least = c.least in omega (arith, least))

-- and the same steps in any order
pub sorted_taken : (wanted n : ℕ) (steps sorted : List Step) → IsPermutation steps sorted → IsNonDecreasingBy (λ (s : Step). s.length) sorted → n ≡ taken wanted sorted → IsLeastTaken wanted steps n
sorted_taken wanted n steps sorted same up is =
    let all = rising_taken wanted sorted up in
    let saves : saved all.0 sorted ≡ saved all.0 steps = sum_by-IsPermutation (λ (step : Step). (all.0 - step.length) * step.count) steps sorted same in
    let least = all.1 in
    (all.0, omega (arith, is, saves, least))
