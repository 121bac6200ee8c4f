-- The first test that a pair fails.
use Rattle.std.proofs.Common.{◌≡◌, ℕ, suc, ◌<◌, Bool, true, false, cond, List, [], ◌∷◌, Option, Some, None, refl, sym, ap, ◌∙◌, arith, inl, inr, Decides}
use Rattle.std.specs.Prelude.{not, find}
use Rattle.std.proofs.lemmas.Bool.{cases_order}
use Rattle.dia_compat.specs.declared.checking.Test.{Test}
use Rattle.dia_compat.specs.declared.checking.Test.TheVariants.{N1, N2, N3, N4, N5, N6, N7, N8, N9, N10}
use Rattle.dia_compat.specs.Closed.{test_number}
use Rattle.dia_compat.specs.FirstFailures.{IsFirstFailed}
use Rattle.dia_compat.specs.PairTests.{rule_tests}
use Rattle.dia_compat.proofs.OneAnswer.{one_test}

-- the tests from a number on, in order
abbrev Follow : ℕ → List Test → Type 0
Follow n [] = n ≡ 10
Follow n (t ∷ ts) = (test_number t ≡ n) × Follow (suc n) ts

abbrev First : (Test → Bool) → Option Test → Type 0
First p None = (s : Test) → test_number s < 10 → p s ≡ true
First p (Some t) = (p t ≡ false) × ((s : Test) → test_number s < test_number t → p s ≡ true)

walk : (p : Test → Bool) (n : ℕ) (ts : List Test) → Follow n ts → ((s : Test) → test_number s < n → p s ≡ true) → First p (find (λ t. not (p t)) ts)
walk p n [] f before = λ s lt. before s (omega (arith, f, lt))
walk p n (t ∷ ts) f before = by (p t) refl (λ e. walk p (suc n) ts f.1 (further e))
  where
    further : p t ≡ true → (s : Test) → test_number s < suc n → p s ≡ true
    further e s lt =
        elim (cases_order (test_number s) n) [
          | inl same ↦ ap p (one_test s t (same ∙ sym f.0)) ∙ e
          | inr (inl less) ↦ before s less
          | inr (inr more) ↦ absurd (omega (arith, lt, more))
        ]

    by : (b : Bool) → p t ≡ b → (p t ≡ true → First p (find (λ s. not (p s)) ts)) → First p (cond (not b) (Some t) (find (λ s. not (p s)) ts))
    by true e rest = rest e
    by false e rest = (e, λ s lt. before s (omega (arith, lt, f.0)))

below_ten : (t : Test) → test_number t < 10
below_ten N1 = omega arith
below_ten N2 = omega arith
below_ten N3 = omega arith
below_ten N4 = omega arith
below_ten N5 = omega arith
below_ten N6 = omega arith
below_ten N7 = omega arith
below_ten N8 = omega arith
below_ten N9 = omega arith
below_ten N10 = omega arith

tenth : (t : Test) → test_number t < 1 → t ≡ N10
tenth t lt = one_test t N10 (omega (arith, lt))

-- where the tenth test is passed, the first of the others that isn't
pub first_failed : (p : Test → Bool) (P : Test → Type 0) → ((t : Test) → Decides (p t) (P t)) → p N10 ≡ true → IsFirstFailed P (find (λ t. not (p t)) rule_tests)
first_failed p P decides ten = by (find (λ t. not (p t)) rule_tests) (walk p 1 rule_tests (refl, (refl, (refl, (refl, (refl, (refl, (refl, (refl, (refl, refl)))))))))
    (λ s lt. ap p (tenth s lt) ∙ ten))
  where
    by : (o : Option Test) → First p o → IsFirstFailed P o
    by None h = λ t. (decides t).0 (h t (below_ten t))
    by (Some t) h = ((λ q. absurd (let f : false ≡ true = sym h.0 ∙ (decides t).1 q in cc)), λ s lt. (decides s).0 (h.1 s lt))

-- where it isn't
pub tenth_failed : (P : Test → Type 0) → ¬ P N10 → IsFirstFailed P (Some N10)
tenth_failed P fails = (fails, λ s lt. absurd (omega (arith, lt)))
