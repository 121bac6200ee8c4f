-- All that is wrong with the text of a dictionary.
use Rattle.std.specs.Prelude.{◌≡◌, ◌<◌, ◌≤◌, ℕ, List, [], ◌∷◌, length, map, Some, None}
use Rattle.std.specs.Str.{IsUtf8}
use Rattle.std.specs.Str.Lossy.{utf8_valid_len}
use Rattle.dia_ccf.specs.declared.source.Source.{Source}
use Rattle.dia_ccf.specs.declared.refused.Misfit.{Misfit}
use Rattle.dia_ccf.specs.Limits.{max_text}
use Rattle.dia_ccf.specs.Plain.{plain_source}
use Rattle.dia_ccf.specs.Tokens.{tokens}
use Rattle.dia_ccf.specs.Grammar.{Derives}
use Rattle.dia_ccf.specs.Places.{IsPlaced}
use Rattle.dia_ccf.specs.Refusals.{IsMisfit}
use Rattle.dia_dict.specs.Resolution.{PlainFinding, all_findings}
use Rattle.dia_explain_places.specs.Parts.{part_place}
use Rattle.dia_c_calls.specs.Openings.{number_of, problem_of}
use Rattle.dia_c_calls.specs.PlainFaults.{PlainFault, nameless}

-- no source is read of the text, for this one fault
pub data IsUnreadFor (text : List ℕ) (f : PlainFault) : Type 0 where
  not_text : ¬ IsUtf8 text → f ≡ nameless 0 0 (Some (utf8_valid_len text)) → IsUnreadFor text f
  too_long : IsUtf8 text → max_text < length text → f ≡ nameless 3 0 None → IsUnreadFor text f
  misfit : (m : Misfit) → IsUtf8 text → length text ≤ max_text → IsMisfit text m
      → f ≡ nameless (problem_of m.fault).kind (problem_of m.fault).token (Some m.at) → IsUnreadFor text f

abbrev pub fault_of : List ℕ → Source → PlainFinding → PlainFault
fault_of text source f = record { kind = number_of f.wrong.kind; token = 0; at = part_place text source f.part; name = f.wrong.name; slot = f.wrong.slot }

-- these are all faults of the text, in the order of docs/FAULTS.md: the one for which it is not read, or all of the source that it is read as
pub data AreFaultsOf (text : List ℕ) (fs : List PlainFault) : Type 0 where
  unread : (f : PlainFault) → IsUnreadFor text f → fs ≡ f ∷ [] → AreFaultsOf text fs
  read : (source : Source) → IsUtf8 text → Derives (tokens text) (plain_source source) → IsPlaced text source
      → fs ≡ map (fault_of text source) (all_findings (plain_source source)) → AreFaultsOf text fs
