-- Each line has a level.
use Rattle.std.proofs.Common.{◌≡◌, ℕ, ◌+◌, ◌-◌, ◌<◌, ◌≤◌, Bool, true, false, List, [], ◌∷◌, refl, sym, ap, subst, ◌∙◌, arith, inl, inr}
use Rattle.std.specs.Prelude.{◌⊎◌, nat_lt, ◌&&◌, ◌==◌, if◌then◌else◌}
use Rattle.std.proofs.lemmas.Bool.{ltb-true, ltb-false, eqb-true, eq-eqb}
use Rattle.std.proofs.lemmas.List.Sums.{sum_by-cons}
use Rattle.dia_breaking_levels.specs.declared.cut.Cut.{Cut}
use Rattle.dia_breaking_levels.specs.declared.line.Reason.{Reason}
use Rattle.dia_breaking_levels.specs.declared.line.Reason.TheVariants.{Missing, TooMany, NotAllowed, NotAllowedOther, MissingOthers, TooManyOthers, Order}
use Rattle.dia_breaking_levels.specs.declared.steps.Step.{Step}
use Rattle.dia_breaking_levels.specs.Chosen.{EachLineHasALevel, IsCutFor, Reads, level_parts, reason_demand, steps_to, wanted_others}
use Rattle.dia_breaking_levels.specs.Cuts.{IsCut, shorter, steps_at}

-- ---- a cut

abbrev one_if : Bool → ℕ
one_if b = if b then 1 else 0

abbrev here : ℕ → Step → ℕ
here t step = one_if (step.length == t)

here_one : (t : ℕ) (step : Step) → step.length ≡ t → here t step ≡ 1
here_one t step same = ap one_if (eq-eqb step.length t same)

here_none : (t : ℕ) (step : Step) → (step.length ≡ t → ⊥) → here t step ≡ 0
here_none t step other = by (step.length == t) refl
  where
    by : (b : Bool) → (step.length == t) ≡ b → one_if b ≡ 0
    by true e = absurd (other (eqb-true step.length t e))
    by false e = refl

-- the greatest length among these steps to which the shorter ones of all are too few
abbrev longest : ℕ → List Step → List Step → ℕ
longest wanted all [] = 0
longest wanted all (x ∷ xs) = if nat_lt (shorter x.length all) wanted && nat_lt (longest wanted all xs) x.length then x.length else longest wanted all xs

at_more : (t : ℕ) (x : Step) (xs : List Step) → steps_at t (x ∷ xs) ≡ here t x + steps_at t xs
at_more t x xs = sum_by-cons (here t) x xs

longest_reached : (wanted : ℕ) (all xs : List Step) → (longest wanted all xs ≡ 0) ⊎ ((0 < steps_at (longest wanted all xs) xs) × (shorter (longest wanted all xs) all < wanted))
longest_reached wanted all [] = inl refl
longest_reached wanted all (x ∷ xs) =
    by (nat_lt (shorter x.length all) wanted) (nat_lt (longest wanted all xs) x.length) refl (longest_reached wanted all xs)
  where
    IsReached : ℕ → Type 0
    IsReached t = (t ≡ 0) ⊎ ((0 < steps_at t (x ∷ xs)) × (shorter t all < wanted))

    stays : (longest wanted all xs ≡ 0) ⊎ ((0 < steps_at (longest wanted all xs) xs) × (shorter (longest wanted all xs) all < wanted)) → IsReached (longest wanted all xs)
    stays (inl none) = inl none
    stays (inr (some, few)) = inr (omega (arith, some, at_more (longest wanted all xs) x xs), few)

    by : (a b : Bool) → nat_lt (shorter x.length all) wanted ≡ a
        → (longest wanted all xs ≡ 0) ⊎ ((0 < steps_at (longest wanted all xs) xs) × (shorter (longest wanted all xs) all < wanted))
        → IsReached (if a && b then x.length else longest wanted all xs)
    by true true few old = inr (omega (arith, at_more x.length x xs, here_one x.length x refl), ltb-true (shorter x.length all) wanted few)
    by true false few old = stays old
    by false b many old = stays old

longest_greatest : (wanted : ℕ) (all xs : List Step) (t : ℕ) → 0 < steps_at t xs → shorter t all < wanted → t ≤ longest wanted all xs
longest_greatest wanted all [] t at few = absurd (omega (arith, at))
longest_greatest wanted all (x ∷ xs) t at few =
    by (nat_lt (shorter x.length all) wanted) (nat_lt (longest wanted all xs) x.length) (x.length == t) refl refl refl (λ later. longest_greatest wanted all xs t later few)
  where
    later : (x.length == t) ≡ false → 0 < steps_at t xs
    later e =
        let none = here_none t x (λ same. absurd (let bad : true ≡ false = sym (eq-eqb x.length t same) ∙ e in cc)) in
        omega (arith, at, none, at_more t x xs)

    by : (a b c : Bool) → nat_lt (shorter x.length all) wanted ≡ a → nat_lt (longest wanted all xs) x.length ≡ b → (x.length == t) ≡ c
        → (0 < steps_at t xs → t ≤ longest wanted all xs) → t ≤ (if a && b then x.length else longest wanted all xs)
    by true true true e f g more = let same : x.length ≡ t = eqb-true x.length t g in omega (arith, same)
    by true false true e f g more =
        let same : x.length ≡ t = eqb-true x.length t g in
        let le = ltb-false (longest wanted all xs) x.length f in
        omega (arith, same, le)
    by false b true e f g more =
        let same : x.length ≡ t = eqb-true x.length t g in
        let le = ltb-false (shorter x.length all) wanted e in
        let less : shorter x.length all < wanted = subst (λ (n : ℕ). shorter n all < wanted) (sym same) few in
        absurd (omega (arith, le, less))
    by true true false e f g more = let le = more (later g) in let less = ltb-true (longest wanted all xs) x.length f in omega (arith, le, less)
    by true false false e f g more = more (later g)
    by false b false e f g more = more (later g)

some_cut : (wanted : ℕ) (steps : List Step) → (cut : Cut) × IsCut wanted steps cut
some_cut wanted steps = (
  record { length = longest wanted steps steps; left = wanted - shorter (longest wanted steps steps) steps },
  record { greatest = longest_greatest wanted steps steps; reached = longest_reached wanted steps steps; left = refl },
)

-- ---- a level

cut_for : (r : Reads) (reason : Reason) → (cut : Cut) × IsCutFor r reason cut
cut_for r Missing = (record { length = 0; left = 0 }, tt)
cut_for r TooMany = (record { length = 0; left = 0 }, tt)
cut_for r NotAllowed = (record { length = 0; left = 0 }, tt)
cut_for r NotAllowedOther = (record { length = 0; left = 0 }, tt)
cut_for r MissingOthers = (record { length = 0; left = 0 }, tt)
cut_for r TooManyOthers = some_cut (wanted_others r) (steps_to r (wanted_others r))
cut_for r Order = (record { length = 0; left = 0 }, tt)

pub some_level : EachLineHasALevel
some_level r line =
    let (cut, is) = cut_for r line.reason in
    let d = reason_demand r cut line.reason line.key line.following in
    (level_parts r.sent d, (d, (cut, is, refl), refl))
