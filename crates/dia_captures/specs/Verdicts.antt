-- What `check` and `refute` find of a message, what is written of it, and how that ends.
use Rattle.std.specs.Prelude.{◌≡◌, ℕ, ◌<◌, ◌&&◌, ◌⊎◌, not, Bool, true, false, List, [], ◌++◌, length, Option, None, Some, Result, Ok, Err, IsOk}
use Rattle.std.specs.Prelude.{⊤, codes, slice_get, if◌then◌else◌}
use Rattle.std.specs.Fmt.{decimal}
use Rattle.hex.specs.Hex.{decode_of}
use Rattle.dia_dict.specs.Dictionary.{Dictionary, PlainDefinition, definitions}
use Rattle.dia_terms.specs.declared.Unknown.{Unknown}
use Rattle.dia_terms.specs.declared.Levels.{Levels}
use Rattle.dia_terms.specs.Limits.{max_message_text}
use Rattle.dia_check.specs.declared.Selected.{Selected}
use Rattle.dia_check.specs.declared.Refusal.{Refusal}
use Rattle.dia_check.specs.declared.Refusal.TheVariants as refusal
use Rattle.dia_check.specs.Faults.{IsAnswer}
use Rattle.dia_io.specs.declared.Input.{Input}
use Rattle.dia_io.specs.declared.Exit.{Exit}
use Rattle.dia_io.specs.declared.Exit.TheVariants.{Yes, No, Bad}
use Rattle.dia_io.specs.Inputs.{Holds, IsOver}
use Rattle.dia_run.specs.Texts.{IsMessageText, digits_of, line}
use Rattle.dia_check.specs.Reasons.{reason_word}
use Rattle.dia_run.specs.Verdict.{subject_text}
use Rattle.dia_captures.specs.declared.verdicts.Checked.{Checked}
use Rattle.dia_captures.specs.declared.verdicts.Checked.TheVariants.{Valid, Wrong}
use Rattle.dia_captures.specs.declared.verdicts.Flaw.{Flaw}
use Rattle.dia_captures.specs.declared.verdicts.Flaw.TheVariants as flaw
use Rattle.dia_captures.specs.declared.verdicts.Refuted.{Refuted}

-- ---- the verdicts of `check`

-- what a check of the bytes of a message answers where it finds this. A text that spells no message has no answer
abbrev pub answer_of : Checked → Option (Result Selected Refusal)
answer_of (Valid found) = Some (Ok found)
answer_of (Wrong (flaw.Fault fault)) = Some (Err (refusal.Fault fault))
answer_of (Wrong flaw.Truncated) = Some (Err refusal.Truncated)
answer_of (Wrong flaw.Trailing) = Some (Err refusal.Trailing)
answer_of (Wrong flaw.TooLong) = None
answer_of (Wrong flaw.NotHexadecimal) = None

-- the verdict on the bytes of a message
abbrev pub IsMessageChecked : Unknown → Levels → Dictionary → List ℕ → Checked → Type 0
IsMessageChecked u most d bytes verdict = (answer : Result Selected Refusal) × (answer_of verdict ≡ Some answer) × IsAnswer d u most bytes answer

-- the verdict on what a stream has: the bytes of a message, or what isn't hexadecimal
abbrev pub IsPieceChecked : Unknown → Levels → Dictionary → Option (List ℕ) → Checked → Type 0
IsPieceChecked u most d (Some bytes) verdict = IsMessageChecked u most d bytes verdict
IsPieceChecked u most d None verdict = verdict ≡ Wrong flaw.NotHexadecimal

-- the verdict on a text that spells no message
abbrev pub IsTextRefused : Input → Checked → Type 0
IsTextRefused message (Valid found) = ⊥
IsTextRefused message (Wrong (flaw.Fault fault)) = ⊥
IsTextRefused message (Wrong flaw.Truncated) = ⊥
IsTextRefused message (Wrong flaw.Trailing) = ⊥
IsTextRefused message (Wrong flaw.TooLong) = IsOver message max_message_text
IsTextRefused message (Wrong flaw.NotHexadecimal) = (text : List ℕ) × Holds message max_message_text text × (¬ IsOk (decode_of (digits_of text)))

-- the verdict on a line
abbrev pub IsLineChecked : Unknown → Levels → Dictionary → Input → Checked → Type 0
IsLineChecked u most d message verdict = ((bytes : List ℕ) × IsMessageText message bytes × IsMessageChecked u most d bytes verdict)
    ⊎ IsTextRefused message verdict

-- ---- what `check` writes of them

-- a command of the dictionary
abbrev pub IsNamed : Dictionary → Checked → Type 0
IsNamed d (Valid found) = found.def < length (definitions d)
IsNamed d (Wrong flaw) = ⊤

abbrev pub name_of : Option PlainDefinition → List ℕ
name_of None = []
name_of (Some command) = command.name

-- the line of a flaw, without the line feed
abbrev pub flaw_text : Dictionary → Flaw → List ℕ
flaw_text d (flaw.Fault fault) = codes "fault " ++ decimal fault.code ++ codes " at " ++ decimal fault.place ++ codes " " ++ reason_word fault.reason
    ++ codes " " ++ subject_text d fault.subject
flaw_text d flaw.Truncated = codes "truncated"
flaw_text d flaw.Trailing = codes "trailing"
flaw_text d flaw.TooLong = codes "message: too long"
flaw_text d flaw.NotHexadecimal = codes "message: not hexadecimal"

-- the line of a verdict
abbrev pub checked_line : Dictionary → Checked → List ℕ
checked_line d (Valid found) = line (codes "valid " ++ name_of (slice_get (definitions d) found.def))
checked_line d (Wrong flaw) = line (flaw_text d flaw)

-- that of a message in a stream, after its place
abbrev pub placed_line : Dictionary → ℕ × Checked → List ℕ
placed_line d verdict = decimal verdict.0 ++ codes " " ++ checked_line d verdict.1

abbrev pub flaw_exit : Flaw → Exit
flaw_exit (flaw.Fault fault) = No
flaw_exit flaw.Truncated = No
flaw_exit flaw.Trailing = No
flaw_exit flaw.TooLong = Bad
flaw_exit flaw.NotHexadecimal = Bad

abbrev pub checked_exit : Checked → Exit
checked_exit (Valid found) = Yes
checked_exit (Wrong flaw) = flaw_exit flaw

-- ---- the verdicts of `refute`

-- both verdicts on a line
abbrev pub IsLineRefuted : Unknown → Levels → Dictionary → Dictionary → Input → Refuted → Type 0
IsLineRefuted u most a b message verdict = IsLineChecked u most a message verdict.first × IsLineChecked u most b message verdict.second

abbrev pub is_valid : Checked → Bool
is_valid (Valid found) = true
is_valid (Wrong flaw) = false

-- valid under the first dictionary, and not under the second
abbrev pub refutes : Refuted → Bool
refutes verdict = is_valid verdict.first && not (is_valid verdict.second)

-- a text that spells no message is refused as by `check`; of another one this is written
abbrev pub unless_refused : {A : Type 0} → (too_long not_hexadecimal answer : A) → Checked → A
unless_refused too_long not_hexadecimal answer (Valid found) = answer
unless_refused too_long not_hexadecimal answer (Wrong (flaw.Fault fault)) = answer
unless_refused too_long not_hexadecimal answer (Wrong flaw.Truncated) = answer
unless_refused too_long not_hexadecimal answer (Wrong flaw.Trailing) = answer
unless_refused too_long not_hexadecimal answer (Wrong flaw.TooLong) = too_long
unless_refused too_long not_hexadecimal answer (Wrong flaw.NotHexadecimal) = not_hexadecimal

abbrev pub refuted_line : Refuted → List ℕ
refuted_line verdict = unless_refused (codes "message: too long\n") (codes "message: not hexadecimal\n")
    (if refutes verdict then codes "refutes\n" else codes "does not refute\n") verdict.first

abbrev pub refuted_exit : Refuted → Exit
refuted_exit verdict = unless_refused Bad Bad (if refutes verdict then Yes else No) verdict.first
