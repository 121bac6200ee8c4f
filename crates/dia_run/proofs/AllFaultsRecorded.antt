-- What is written of all faults of a message, from what was listed.
use Rattle.std.proofs.Common.{◌≡◌, ℕ, ◌<◌, Bool, false, List, [], ◌∷◌, ◌++◌, length, map, take, Result, Ok, Err, refl, ap, subst, ◌∙◌, arith}
use Rattle.std.specs.Prelude.{IfOk, MatchResult}
use Rattle.std.proofs.lemmas.Bool.{le-ltb}
use Rattle.std.proofs.lemmas.List.{take_all}
use Rattle.dia_dict.specs.Dictionary.{Dictionary}
use Rattle.dia_terms.specs.declared.Unknown.{Unknown}
use Rattle.dia_terms.specs.declared.Levels.{Levels}
use Rattle.dia_check.specs.declared.Fault.{Fault}
use Rattle.dia_check.specs.declared.Refusal.{Refusal}
use Rattle.dia_check.specs.declared.Refusal.TheVariants as refusal
use Rattle.dia_check.specs.declared.Selected.{Selected}
use Rattle.dia_check.specs.Faults.{IsAnswer}
use Rattle.dia_check.specs.Walks.{Found, fault_of}
use Rattle.dia_faults.specs.Collecting.{AreFirst}
use Rattle.dia_faults.specs.Messages.{AreAll}
use Rattle.dia_io.specs.declared.Exit.{Exit}
use Rattle.dia_io.specs.declared.Exit.TheVariants.{No}
use Rattle.dia_run.specs.AllFaults.{IsAllRecorded, faults, fault_lines, more_line, valid}
use Rattle.dia_run.specs.Verdict.{IsVerdict}

pub recorded_if : {A E : Type 0} (P Q : A → Type 0) (r : Result A E) → IfOk r P → ((a : A) → P a → Q a) → IfOk r Q
recorded_if P Q (Ok a) h f = f a h
recorded_if P Q (Err e) h f = h

pub recorded_if_both : {A E : Type 0} (P Q R : A → Type 0) (r : Result A E) → IfOk r P → IfOk r Q → ((a : A) → P a → Q a → R a) → IfOk r R
recorded_if_both P Q R (Ok a) h k f = f a h k
recorded_if_both P Q R (Err e) h k f = h

abbrev no_faults : List Fault
no_faults = []

none_taken : (most : ℕ) → take most no_faults ≡ []
none_taken most = take_all most no_faults (omega arith)

module _ (d : Dictionary) (u : Unknown) (levels : Levels) (most : ℕ) (bytes : List ℕ) (text : List ℕ) (exit : Exit) where
  -- of a valid message it is the line of its verdict
  pub valid_recorded : (answer : Result Selected Refusal) → IsAnswer d u levels bytes answer → (c : ℕ) → MatchResult answer (λ found. found.def ≡ c) (λ e. e ≡ refusal.NoMemory)
      → IsVerdict d answer text exit → IsAllRecorded d u levels most bytes text exit
  valid_recorded (Ok s) is c same recorded = valid s is recorded
  valid_recorded (Err e) is c same recorded = absurd (subst (λ (x : Refusal). IsVerdict d (Err x) text exit) same recorded)

  none_listed : (all : List Found) (items : List Fault) (more : Bool) → AreFirst most (map fault_of all) items more → length all ≡ 0 → (items ≡ []) × (more ≡ false)
  none_listed [] items more firsts none = (firsts.are_first ∙ none_taken most, firsts.is_more ∙ le-ltb most 0 (omega arith))
  none_listed (f ∷ all) items more firsts none = absurd (omega (arith, none))

  -- else the lines of what is listed
  pub faults_recorded : (all : List Found) (items : List Fault) (more : Bool) → AreAll d u levels bytes all → AreFirst most (map fault_of all) items more → ¬ ((items ≡ []) × (more ≡ false))
      → text ≡ fault_lines d items ++ more_line more → exit ≡ No → IsAllRecorded d u levels most bytes text exit
  faults_recorded all items more are firsts some is_text is_exit =
      faults all are (some_listed (length all) refl)
      (is_text ∙ ap (λ (fs : List Fault). fault_lines d fs ++ more_line more) firsts.are_first
      ∙ ap (λ (b : Bool). fault_lines d (take most (map fault_of all)) ++ more_line b) firsts.is_more) is_exit
    where
      some_listed : (n : ℕ) → length all ≡ n → 0 < length all
      some_listed n e = positive (length all) (λ none. some (none_listed all items more firsts none))
        where
          positive : (m : ℕ) → ¬ (m ≡ 0) → 0 < m
          positive m h = omega (arith, h)
