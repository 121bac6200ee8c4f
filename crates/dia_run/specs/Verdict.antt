-- The line of a verdict on a message: the command of a valid one, or its first fault.
use Rattle.std.specs.Prelude.{◌≡◌, ℕ, List, ◌++◌, Option, Some, None, Result, Ok, Err, codes, slice_get}
use Rattle.std.specs.Fmt.{decimal}
use Rattle.dia_wire.specs.declared.Key.{Key}
use Rattle.dia_dict.specs.Dictionary.{Dictionary, DictEntry, PlainDefinition, definitions}
use Rattle.dia_check.specs.Reasons.{reason_word}
use Rattle.dia_check.specs.declared.Fault.{Fault}
use Rattle.dia_check.specs.declared.Subject.{Subject}
use Rattle.dia_check.specs.declared.Subject.TheVariants.{Nothing, Avp, Wildcard}
use Rattle.dia_check.specs.declared.Selected.{Selected}
use Rattle.dia_check.specs.declared.Refusal.{Refusal}
use Rattle.dia_check.specs.declared.Refusal.TheVariants as refusal
use Rattle.dia_valid.specs.Valid.{known}
use Rattle.dia_io.specs.declared.Exit.{Exit}
use Rattle.dia_io.specs.declared.Exit.TheVariants.{Yes, No}
use Rattle.dia_run.specs.Texts.{line}

-- the AVP's name, or code and vendor of one that the dictionary doesn't know
abbrev pub known_name : Key → Option DictEntry → List ℕ
known_name key None = decimal key.code ++ codes ":" ++ decimal key.vendor
known_name key (Some e) = e.name

abbrev pub subject_text : Dictionary → Subject → List ℕ
subject_text d Nothing = codes "-"
subject_text d (Avp key) = known_name key (known d key)
subject_text d Wildcard = codes "AVP"

abbrev pub fault_line : Dictionary → Fault → List ℕ
fault_line d f = line (codes "fault " ++ decimal f.code ++ codes " at " ++ decimal f.place ++ codes " " ++ reason_word f.reason
    ++ codes " " ++ subject_text d f.subject)

-- the line of an answer, and how the program ends. Where memory was refused there is none
abbrev pub IsVerdict : Dictionary → Result Selected Refusal → List ℕ → Exit → Type 0
IsVerdict d (Ok s) text exit = (c : PlainDefinition) × (slice_get (definitions d) s.def ≡ Some c)
    × (text ≡ line (codes "valid " ++ c.name)) × (exit ≡ Yes)
IsVerdict d (Err (refusal.Fault f)) text exit = (text ≡ fault_line d f) × (exit ≡ No)
IsVerdict d (Err refusal.Truncated) text exit = (text ≡ line (codes "truncated")) × (exit ≡ No)
IsVerdict d (Err refusal.Trailing) text exit = (text ≡ line (codes "trailing")) × (exit ≡ No)
IsVerdict d (Err refusal.NoMemory) text exit = ⊥
IsVerdict d (Err refusal.Spent) text exit = ⊥
