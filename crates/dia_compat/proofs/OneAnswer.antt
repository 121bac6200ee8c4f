use Rattle.std.proofs.Common.{◌≡◌, ℕ, ◌<◌, ◌≤◌, Bool, true, false, refl, sym, ap, subst, ◌∙◌, arith, inl, inr}
use Rattle.std.specs.Prelude.{◌⊎◌, nat_lt, if◌then◌else◌, ◌==◌}
use Rattle.std.proofs.lemmas.Bool.{ltb-false, ltb-true}
use Rattle.dia_book.specs.Dictionary.{Dictionary}
use Rattle.dia_terms.specs.declared.Unknown.{Unknown}
use Rattle.dia_compat.specs.declared.checking.Answer.{Answer}
use Rattle.dia_compat.specs.declared.checking.Answer.TheVariants.{Yes, No}
use Rattle.dia_compat.specs.declared.checking.PairKind.{PairKind}
use Rattle.dia_compat.specs.declared.checking.PairKind.TheVariants as kind
use Rattle.dia_compat.specs.declared.checking.Test.{Test}
use Rattle.dia_compat.specs.declared.checking.Test.TheVariants.{N1, N2, N3, N4, N5, N6, N7, N8, N9, N10}
use Rattle.dia_compat.specs.TableText.{PlainTable}
use Rattle.dia_compat.specs.Closed.{IsTableAnswer, IsFirstFailure, PairBefore, test_number}

by_second : (i j : ℕ) (b : Bool) → nat_lt j i ≡ b → j ≤ i → (i ≡ j) ⊎ (j < i)
by_second i j true e f = inr (ltb-true j i e)
by_second i j false e f = inl (omega (arith, f, ltb-false j i e))

by_first : (i j : ℕ) (b : Bool) → nat_lt i j ≡ b → (i < j) ⊎ ((i ≡ j) ⊎ (j < i))
by_first i j true e = inl (ltb-true i j e)
by_first i j false e = inr (by_second i j (nat_lt j i) refl (ltb-false i j e))

-- a number is less, the same or greater
compared : (i j : ℕ) → (i < j) ⊎ ((i ≡ j) ⊎ (j < i))
compared i j = by_first i j (nat_lt i j) refl

abbrev test_at : ℕ → Test
test_at n = if n == 0 then N10 else if n == 1 then N1 else if n == 2 then N2 else if n == 3 then N3 else if n == 4 then N4 else if n == 5 then N5
    else if n == 6 then N6 else if n == 7 then N7 else if n == 8 then N8 else N9

at_number : (t : Test) → test_at (test_number t) ≡ t
at_number N1 = refl
at_number N2 = refl
at_number N3 = refl
at_number N4 = refl
at_number N5 = refl
at_number N6 = refl
at_number N7 = refl
at_number N8 = refl
at_number N9 = refl
at_number N10 = refl

pub one_test : (t s : Test) → test_number t ≡ test_number s → t ≡ s
one_test t s e = sym (at_number t) ∙ ap test_at e ∙ at_number s

module _ (da db : Dictionary) (u : Unknown) (table : PlainTable) where
  abbrev Fails : PairKind → ℕ → Test → Type 0
  Fails k i t = IsFirstFailure da db u table k i t

  not_before : (k l : PairKind) (i j : ℕ) (t s : Test) → Fails k i t → Fails l j s → PairBefore k i l j → ⊥
  not_before k l i j t s f g before = f.fails (g.first_pair k i t before)

  same_pair : (k : PairKind) (i : ℕ) (t s : Test) → Fails k i t → Fails k i s → t ≡ s
  same_pair k i t s f g =
      elim (compared (test_number t) (test_number s)) [
        | inl less ↦ absurd (f.fails (g.first_test t less))
        | inr (inl same) ↦ one_test t s same
        | inr (inr more) ↦ absurd (g.fails (f.first_test s more))
      ]

  same_place : (k : PairKind) (i j : ℕ) (t s : Test) → i ≡ j → Fails k i t → Fails k j s → No k i t ≡ No k j s
  same_place k i j t s e f g = ap (λ (n : ℕ). No k n t) e ∙ ap (λ (r : Test). No k j r) (same_pair k j t s (subst (λ (n : ℕ). Fails k n t) e f) g)

  same_kind : (k : PairKind) (i j : ℕ) (t s : Test) → (i < j → PairBefore k i k j) → (j < i → PairBefore k j k i) → Fails k i t → Fails k j s → No k i t ≡ No k j s
  same_kind k i j t s up down f g =
      elim (compared i j) [
        | inl less ↦ absurd (not_before k k i j t s f g (up less))
        | inr (inl same) ↦ same_place k i j t s same f g
        | inr (inr more) ↦ absurd (not_before k k j i s t g f (down more))
      ]

  pub one_failure : (k l : PairKind) (i j : ℕ) (t s : Test) → Fails k i t → Fails l j s → No k i t ≡ No l j s
  one_failure kind.Command kind.Command i j t s f g = same_kind kind.Command i j t s (λ h. h) (λ h. h) f g
  one_failure kind.Avp kind.Avp i j t s f g = same_kind kind.Avp i j t s (λ h. h) (λ h. h) f g
  one_failure kind.Command kind.Avp i j t s f g = absurd (not_before kind.Command kind.Avp i j t s f g tt)
  one_failure kind.Avp kind.Command i j t s f g = absurd (not_before kind.Command kind.Avp j i s t g f tt)

  pub one_comparison : (x y : Answer) → IsTableAnswer da db u table x → IsTableAnswer da db u table y → x ≡ y
  one_comparison Yes Yes h k = refl
  one_comparison Yes (No l j s) h g = absurd (g.fails (h l j s))
  one_comparison (No k i t) Yes f h = absurd (f.fails (h k i t))
  one_comparison (No k i t) (No l j s) f g = one_failure k l i j t s f g
