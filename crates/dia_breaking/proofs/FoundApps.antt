-- The applications by which messages are looked at, as they are found.
use Rattle.std.proofs.Common.{◌≡◌, ℕ, zero, suc, ◌+◌, ◌<◌, ◌≤◌, Bool, true, false, List, [], ◌∷◌, ◌++◌, filter, take, Option, Some, None, Result, refl, sym, ap, subst, ◌∙◌, arith, inl, inr}
use Rattle.std.specs.Prelude.{◌⊎◌, ◌||◌, Contains, IfOk, MatchOption, nat_eq, slice_get}
use Rattle.std.proofs.lemmas.Bool.{both_ways, cases_order, eq-eqb, eqb-false, eqb-true, or_cases, or_parts}
use Rattle.std.proofs.lemmas.List.Elements.{filter-append}
use Rattle.std.specs.List.{list_any}
use Rattle.std.specs.Option.{option_eq}
use Rattle.dia_book.specs.Dictionary.{Dictionary, selected}
use Rattle.dia_breaking.specs.declared.heads.Head.{Head}
use Rattle.dia_breaking.specs.RecordedApps.{IsLeastUnnamed, IsNamed, selects}
use Rattle.dia_breaking.proofs.Lists.{one_more}
use Rattle.dia_breaking.proofs.LeastNumbers.{named_of, of_named}

-- one more is looked at
pub filtered : {X : Type 0} (p : X → Bool) (xs : List X) (i : ℕ) (x : X) (old new : List X) → new ≡ old ++ filter p (x ∷ []) → old ≡ filter p (take i xs) → slice_get xs i ≡ Some x
    → new ≡ filter p (take (i + 1) xs)
filtered {X} p xs i x old new is before at =
    is ∙ ap (λ (ys : List X). ys ++ filter p (x ∷ [])) before ∙ sym (ap (filter p) (one_more xs i x at) ∙ filter-append p (take i xs) (x ∷ []))

-- what follows for a command without application, and for one with its own
pub without_own : (P : Type 0) (Q : ℕ → Type 0) (o : Option ℕ) → o ≡ None → P → MatchOption o P Q
without_own P Q o none p = subst (λ (o : Option ℕ). MatchOption o P Q) (sym none) p

pub with_own : (P : Type 0) (Q : ℕ → Type 0) (o : Option ℕ) (app : ℕ) → o ≡ Some app → Q app → MatchOption o P Q
with_own P Q o app is q = subst (λ (o : Option ℕ). MatchOption o P Q) (sym is) q

-- ---- the least that neither names

module _ (first second named : List ℕ) (app : ℕ) (are : named ≡ first ++ second) (below : (n : ℕ) → n < app → Contains named n) (missing : (¬ Contains named app) ⊎ (4294967295 ≤ app)) where
  is_named : (n : ℕ) → Contains named n → IsNamed first second n
  is_named n there = named_of first second n (subst (λ (xs : List ℕ). Contains xs n) are there)

  pub all_named : IsNamed first second app → IsLeastUnnamed first second None
  all_named own = λ n within. by n within (cases_order n app)
    where
      most : 4294967295 ≤ app
      most = from missing
        where
          from : (¬ Contains named app) ⊎ (4294967295 ≤ app) → 4294967295 ≤ app
          from (inr le) = le
          from (inl never) = absurd (never (subst (λ (xs : List ℕ). Contains xs app) (sym are) (of_named first second app own)))

      by : (n : ℕ) → n < 4294967296 → (n ≡ app) ⊎ ((n < app) ⊎ (app < n)) → IsNamed first second n
      by n within (inl same) = subst (IsNamed first second) (sym same) own
      by n within (inr (inl lt)) = is_named n (below n lt)
      by n within (inr (inr gt)) = absurd (omega (arith, within, gt, most))

  pub least_unnamed : app < 4294967296 → (¬ IsNamed first second app) → IsLeastUnnamed first second (Some app)
  least_unnamed within never = (within, never, λ n lt. is_named n (below n lt))

-- ---- whether a list names an application

any_named : (xs : List ℕ) (app : ℕ) → list_any (λ n. nat_eq n app) xs ≡ true → Contains xs app
any_named [] app found = absurd (both_ways false refl found)
any_named (x ∷ xs) app found = by (any_named xs app) (or_cases (nat_eq x app) (list_any (λ n. nat_eq n app) xs) found)
  where
    by : (list_any (λ n. nat_eq n app) xs ≡ true → Contains xs app) → (nat_eq x app ≡ true) ⊎ (list_any (λ n. nat_eq n app) xs ≡ true) → Contains (x ∷ xs) app
    by rest (inl same) = (0, omega arith, eqb-true x app same)
    by rest (inr later) = let r = rest later in (suc r.0, omega (arith, r.1), r.2)

none_named : (xs : List ℕ) (app : ℕ) → list_any (λ n. nat_eq n app) xs ≡ false → Contains xs app → ⊥
none_named [] app none (i, within, at) = absurd (omega (arith, within))
none_named (x ∷ xs) app none (zero, within, at) = eqb-false x app (or_parts (nat_eq x app) (list_any (λ n. nat_eq n app) xs) none).0 at
none_named (x ∷ xs) app none (suc i, within, at) = none_named xs app (or_parts (nat_eq x app) (list_any (λ n. nat_eq n app) xs) none).1 (i, omega (arith, within), at)

module _ (first second : List ℕ) (app : ℕ) (b : Bool) (is : b ≡ (list_any (λ n. nat_eq n app) first || list_any (λ n. nat_eq n app) second)) where
  pub named_by : b ≡ true → IsNamed first second app
  named_by found = by (or_cases (list_any (λ n. nat_eq n app) first) (list_any (λ n. nat_eq n app) second) (sym is ∙ found))
    where
      by : (list_any (λ n. nat_eq n app) first ≡ true) ⊎ (list_any (λ n. nat_eq n app) second ≡ true) → IsNamed first second app
      by (inl found) = inl (any_named first app found)
      by (inr found) = inr (any_named second app found)

  pub unnamed_by : b ≡ false → IsNamed first second app → ⊥
  unnamed_by none (inl there) = none_named first app (or_parts (list_any (λ n. nat_eq n app) first) (list_any (λ n. nat_eq n app) second) (sym is ∙ none)).0 there
  unnamed_by none (inr there) = none_named second app (or_parts (list_any (λ n. nat_eq n app) first) (list_any (λ n. nat_eq n app) second) (sym is ∙ none)).1 there

-- of other names for the lists
module _ {E : Type 0} (r : Result (Option ℕ) E) where
  pub unnamed_of : (xs ys first second : List ℕ) → xs ≡ first → ys ≡ second → IfOk r (IsLeastUnnamed xs ys) → IfOk r (IsLeastUnnamed first second)
  unnamed_of xs ys first second same_first same_second is =
      subst (λ (zs : List ℕ). IfOk r (IsLeastUnnamed zs second)) same_first (subst (λ (zs : List ℕ). IfOk r (IsLeastUnnamed xs zs)) same_second is)

-- ---- a command that is selected

pub selects_it : (da : Dictionary) (c : ℕ) (head : Head) (app : ℕ) → selected da head.code head.class app ≡ Some c → selects da c head app ≡ true
selects_it da c head app is = ap (λ (o : Option ℕ). option_eq nat_eq o (Some c)) is ∙ eq-eqb c c refl
