-- What is done with a message is done with the one that a handle holds.
use Rattle.std.proofs.Common.{◌≡◌, ◌≢◌, ℕ, ◌++◌, List, [], Option, None, Some, Result, Ok, Err, length, take, drop, subst, sym, ap, ◌∙◌}
use Rattle.std.specs.Prelude.{IfOk}
use Rattle.dia_book.specs.Dictionary.{Dictionary}
use Rattle.dia_terms.specs.declared.Unknown.{Unknown}
use Rattle.dia_terms.specs.declared.Levels.{Levels}
use Rattle.dia_check.specs.declared.Progress.{Progress}
use Rattle.dia_check.specs.declared.Refusal.{Refusal}
use Rattle.dia_check.specs.declared.Refusal.TheVariants as refusal
use Rattle.dia_check.specs.declared.Selected.{Selected}
use Rattle.dia_check.specs.declared.StreamFault.{StreamFault}
use Rattle.dia_check.specs.declared.StreamFault.TheVariants as fault
use Rattle.dia_check.specs.Faults.{IsAnswer}
use Rattle.dia_check.specs.Streaming.{CountsLevels, OpensLevel, Takes, taken_of}
use Rattle.dia_c_calls.specs.declared.feeding.Feeding.{Feeding}
use Rattle.dia_c_calls.specs.declared.held.Held.{Held}
use Rattle.dia_c_calls.specs.declared.held.Held.TheVariants.{Stream}
use Rattle.dia_c_calls.specs.declared.streams.Fed.{Fed}
use Rattle.dia_c_calls.specs.declared.verdict.Verdict.{Verdict}
use Rattle.dia_c_calls.specs.Feedings.{ChecksBy, FeedsFor}
use Rattle.dia_c_calls.specs.Held.{Denotes, IsCheckedBy}
use Rattle.dia_c_calls.specs.Verdicts.{IsVerdict}
use Rattle.dia_c_calls.specs.Streams.{BeginsAgain, HasFed, HasFinished, HasLevels, IsCheckedAlike, OpensIn, DenotesNone, fed_of}

pub err_is : {A E : Type 0} (r : Result A E) (e f : E) → r ≡ Err e → e ≡ f → r ≡ Err f
err_is r e f is same = subst (λ x. r ≡ Err x) same is

-- a message of which nothing came, for what is the same
pub begins_for : (f : Feeding) (d e : Dictionary) (u v : Unknown) (most other : Levels) → FeedsFor f d u most [] → d ≡ e → u ≡ v → most ≡ other → FeedsFor f e v other []
begins_for f d e u v most other feeds p q r =
    subst (λ (x : Levels). FeedsFor f e v x []) r (subst (λ (x : Unknown). FeedsFor f e x most []) q (subst (λ (x : Dictionary). FeedsFor f x u most []) p feeds))

-- the message f of a handle
module _ (old : Option Held) (before : Held) (f : Feeding) (is_old : old ≡ Some before) (at_old : before ≡ Stream f) where
  feeds_in : (d : Dictionary) (u : Unknown) (most : Levels) (bytes : List ℕ) → Denotes old d u most bytes → FeedsFor f d u most bytes
  feeds_in d u most bytes occurs = subst (λ h. Denotes h d u most bytes) (is_old ∙ ap (λ (h : Held). Some h) at_old) occurs

  -- which is g then
  pub has_fed : (new : Option Held) (after : Held) (g : Feeding) → new ≡ Some after → after ≡ Stream g
      → (r : Result Progress StreamFault) (progress : Progress) (fed : Fed) (piece : List ℕ) → r ≡ Ok progress → fed ≡ fed_of progress
      → ((d : Dictionary) (u : Unknown) (most : Levels) (bytes : List ℕ) → FeedsFor f d u most bytes
      → IfOk r (λ p. Takes bytes piece p × FeedsFor g d u most (bytes ++ take p.taken piece)))
      → HasFed old new piece fed
  has_fed new after g is_new at_new r progress fed piece is recorded taken = (
    progress,
    recorded,
    λ d u most bytes occurs.
        let t = subst (λ (s : Result Progress StreamFault). IfOk s (λ p. Takes bytes piece p × FeedsFor g d u most (bytes ++ take p.taken piece))) is
        (taken d u most bytes (feeds_in d u most bytes occurs)) in
        (t.0, subst (λ h. Denotes h d u most (bytes ++ take progress.taken piece)) (sym (is_new ∙ ap (λ (h : Held). Some h) at_new)) t.1),
  )

  pub opens_in : (piece : List ℕ) → ((d : Dictionary) (u : Unknown) (most : Levels) (bytes : List ℕ) → FeedsFor f d u most bytes
      → OpensLevel d most bytes (drop (length bytes) (taken_of (bytes ++ piece))))
      → OpensIn old piece
  opens_in piece opens d u most bytes occurs = opens d u most bytes (feeds_in d u most bytes occurs)

  pub has_levels : (n : ℕ) → ((d : Dictionary) (u : Unknown) (most : Levels) (bytes : List ℕ) → FeedsFor f d u most bytes → CountsLevels d u most bytes n) → HasLevels old n
  has_levels n counts d u most bytes occurs = counts d u most bytes (feeds_in d u most bytes occurs)

  pub occurs_for_none : (r : Result Progress StreamFault) → r ≡ Err fault.Spent
      → ((d : Dictionary) (u : Unknown) (most : Levels) (bytes : List ℕ) → FeedsFor f d u most bytes → r ≢ Err fault.Spent) → DenotesNone old
  occurs_for_none r is never d u most bytes occurs = never d u most bytes (feeds_in d u most bytes occurs) is

  pub has_no_answer : (answer : Result Selected Refusal) → ((d : Dictionary) (u : Unknown) (most : Levels) (bytes : List ℕ) → FeedsFor f d u most bytes → IsAnswer d u most bytes answer)
      → answer ≡ Err refusal.Spent → DenotesNone old
  has_no_answer answer answers is d u most bytes occurs = subst (λ r. IsAnswer d u most bytes r) is (answers d u most bytes (feeds_in d u most bytes occurs))

  pub has_finished : (answer : Result Selected Refusal) (verdict : Verdict)
      → ((d : Dictionary) (u : Unknown) (most : Levels) (bytes : List ℕ) → FeedsFor f d u most bytes → IsAnswer d u most bytes answer) → IsVerdict answer verdict → HasFinished old verdict
  has_finished answer verdict answers is d u most bytes occurs = (answer, answers d u most bytes (feeds_in d u most bytes occurs), is)

  checked_by : (d : Dictionary) (u : Unknown) (most : Levels) → IsCheckedBy old d u most → ChecksBy f d u most
  checked_by d u most by = subst (λ h. IsCheckedBy h d u most) (is_old ∙ ap (λ (h : Held). Some h) at_old) by

  module _ (new : Option Held) (after : Held) (g : Feeding) (is_new : new ≡ Some after) (at_new : after ≡ Stream g) where
    pub alike : ((d : Dictionary) (u : Unknown) (most : Levels) → ChecksBy f d u most → ChecksBy g d u most) → IsCheckedAlike old new
    alike same d u most by = subst (λ h. IsCheckedBy h d u most) (sym (is_new ∙ ap (λ (h : Held). Some h) at_new)) (same d u most (checked_by d u most by))

    pub begins_again : ((d : Dictionary) (u : Unknown) (most : Levels) → ChecksBy f d u most → FeedsFor g d u most []) → BeginsAgain old new
    begins_again empty d u most by = subst (λ h. Denotes h d u most []) (sym (is_new ∙ ap (λ (h : Held). Some h) at_new)) (empty d u most (checked_by d u most by))

-- a closed handle has no message
pub none_alike : (old new : Option Held) → old ≡ None → IsCheckedAlike old new
none_alike old new none d u most by = absurd (subst (λ h. IsCheckedBy h d u most) none by)

pub none_begins : (old new : Option Held) → old ≡ None → BeginsAgain old new
none_begins old new none d u most by = absurd (subst (λ h. IsCheckedBy h d u most) none by)
