-- The answer of a comparison is that of what it was made of, and Yes means inclusion.
use Rattle.std.proofs.Common.{◌≡◌, ℕ, List, [], Option, Some, refl, sym, subst}
use Rattle.std.specs.Prelude.{◌↔◌, Result, Ok, Err, IfOk, MatchOption}
use Rattle.dia_book.specs.Dictionary.{Dictionary, IsDictionary}
use Rattle.dia_terms.specs.declared.Unknown.{Unknown}
use Rattle.dia_compat.specs.declared.checking.Answer.{Answer}
use Rattle.dia_compat.specs.declared.checking.Answer.TheVariants.{Yes, No}
use Rattle.dia_compat.specs.declared.checking.Verdict.{Verdict}
use Rattle.dia_compat.specs.declared.reasons.Failing.{Failing}
use Rattle.dia_compat.specs.Closed.{IsIncluded, IsTableAnswer}
use Rattle.dia_compat.specs.TableText.{PlainTable}
use Rattle.dia_compat.specs.Failings.{AreFailingsIn, AreFailingsFor}
use Rattle.dia_compat.specs.Sides.{Compared, compared}
use Rattle.dia_compat.specs.declared.checking.Test.{Test}
use Rattle.dia_compat.specs.declared.checking.Test.TheVariants.{N10}
use Rattle.dia_compat.specs.PairTests.{NamePair, entry_named}
use Rattle.dia_compat.specs.FirstFailures.{IsAnswerOf, FailsEntries, FailsAvp}
use Rattle.dia_compat.proofs.IncludedMessages.{included}
use Rattle.dia_compat.proofs.FailingPairs.{none_where_passed}

pub concluded : {E : Type 0} (c : Compared) (r : Result Answer E) → IsDictionary c.sides.first → IsDictionary c.sides.second → IfOk r (IsAnswerOf c)
    → IfOk r (λ answer. answer ≡ Yes → IsIncluded c.sides.first c.sides.second c.sides.unknown c.table)
concluded c (Ok answer) sa sb h = λ e. included c.sides.first c.sides.second sa sb c.sides.unknown c.table (subst (IsAnswerOf c) e h)
concluded c (Err e) sa sb h = tt

-- what two entries fail, a pair of their names fails
pub fails_avp : (c : Compared) (p : NamePair) (i j : ℕ) (found : Option Test) → entry_named c.sides.first p.0 ≡ Some i → entry_named c.sides.second p.1 ≡ Some j → FailsEntries c i j found
    → FailsAvp c p found
fails_avp c p i j found e f h =
    subst (λ (o : Option ℕ). MatchOption o (found ≡ Some N10) (λ k. MatchOption (entry_named c.sides.second p.1) (found ≡ Some N10) (λ l. FailsEntries c k l found))) (sym e)
    (subst (λ (o : Option ℕ). MatchOption o (found ≡ Some N10) (λ l. FailsEntries c i l found)) (sym f) h)

-- ---- an answer with what fails

module _ (da db : Dictionary) (u : Unknown) (table : PlainTable) where
  abbrev all : Compared
  all = compared (record { first = da; second = db; unknown = u }) table

  for_answer : (answer : Answer) (fails : List Failing) → AreFailingsIn all answer fails → AreFailingsFor da db u table answer fails
  for_answer Yes fails h = h
  for_answer (No k i t) fails h = h

  -- nothing fails exactly where the answer is yes
  none_for : IsDictionary da → IsDictionary db → (answer : Answer) (fails : List Failing) → IsTableAnswer da db u table answer → AreFailingsIn all answer fails → (fails ≡ []) ↔ (answer ≡ Yes)
  none_for sa sb Yes fails is h = (λ _. refl, λ _. h)
  none_for sa sb (No k i t) fails is h =
      let at = none_where_passed da db u table sa sb k i t fails h in
      (λ e. absurd (is.fails (at.0 e)), λ (e : No k i t ≡ Yes). cc)

  pub recorded_included : {E : Type 0} (r : Result Verdict E) → IsDictionary da → IsDictionary db → IfOk r (λ v. IsAnswerOf all v.answer) → IfOk r (λ v. v.answer ≡ Yes → IsIncluded da db u table)
  recorded_included (Ok v) sa sb h = λ e. included da db sa sb u table (subst (IsAnswerOf all) e h)
  recorded_included (Err e) sa sb h = tt

  pub recorded_failings : {E : Type 0} (r : Result Verdict E) → IfOk r (λ v. AreFailingsIn all v.answer v.failings.items) → IfOk r (λ v. AreFailingsFor da db u table v.answer v.failings.items)
  recorded_failings (Ok v) h = for_answer v.answer v.failings.items h
  recorded_failings (Err e) h = tt

  pub recorded_none : {E : Type 0} (r : Result Verdict E) → IsDictionary da → IsDictionary db → IfOk r (λ v. IsAnswerOf all v.answer) → IfOk r (λ v. AreFailingsIn all v.answer v.failings.items)
      → IfOk r (λ v. (v.failings.items ≡ []) ↔ (v.answer ≡ Yes))
  recorded_none (Ok v) sa sb is h = none_for sa sb v.answer v.failings.items is h
  recorded_none (Err e) sa sb is h = tt
