-- Lines that no verdict has.
use Rattle.std.proofs.Common.{◌≡◌, ℕ, ◌≤◌, ◌<◌, List, length, Some, None, inl, inr, sym, ◌∙◌, arith}
use Rattle.std.specs.Prelude.{◌⊎◌}
use Rattle.std.proofs.lemmas.Option.{slice_get_past}
use Rattle.dia_book.specs.Dictionary.{Dictionary, definitions, groups}
use Rattle.dia_check.specs.declared.fault.Fault.{Fault}
use Rattle.dia_c_calls.specs.declared.verdict.Verdict.{Verdict}
use Rattle.dia_c_calls.specs.Names.{IsCommandName}
use Rattle.dia_c_calls.specs.Verdicts.{fault_verdict, said}
use Rattle.dia_c_calls.specs.Words.{IsVerdictText}

pub no_text : (d : Dictionary) (v : Verdict) (text : List ℕ) → ((f : Fault) → ¬ (v ≡ fault_verdict f)) → ¬ (v ≡ said 2 0) → ¬ (v ≡ said 3 0)
    → ((name : List ℕ) → v ≡ said 0 v.command → length (groups d) ≤ v.command → ¬ IsCommandName d v.command name) → ¬ IsVerdictText d v text
no_text d v text no_fault no_front no_rest no_command (IsVerdictText.valid name is within named text_is) = no_command name is within named
no_text d v text no_fault no_front no_rest no_command (IsVerdictText.fault f is text_is) = no_fault f is
no_text d v text no_fault no_front no_rest no_command (IsVerdictText.truncated is text_is) = no_front is
no_text d v text no_fault no_front no_rest no_command (IsVerdictText.trailing is text_is) = no_rest is

-- a number that is no command's has no name
pub no_name : (d : Dictionary) (command : ℕ) (name : List ℕ) → (length (definitions d) ≤ command) ⊎ (command < length (groups d)) → length (groups d) ≤ command
    → ¬ IsCommandName d command name
no_name d command name (inl past) within (c, is, named) = let none : None ≡ Some c = sym (slice_get_past (definitions d) command past) ∙ is in cc
no_name d command name (inr below) within named = absurd (omega (arith, below, within))
