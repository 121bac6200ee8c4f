-- Without words and names, what is shown is what `show` shows.
use Rattle.std.proofs.Common.{◌≡◌, ℕ, false, List, [], ◌++◌, length, Option, Some, None, codes, sym, ap, subst, ◌∙◌, append_assoc, arith}
use Rattle.std.specs.Str.{IsUtf8}
use Rattle.std.proofs.lemmas.List.{append-nil}
use Rattle.std.proofs.lemmas.Str.{IsUtf8-nil}
use Rattle.std.specs.Fmt.{decimal}
use Rattle.dia_wire.specs.declared.Header.{Header}
use Rattle.dia_data.specs.Shown.{hex_byte}
use Rattle.dia_run.specs.Texts.{line}
use Rattle.dia_io.specs.declared.Exit.{Exit}
use Rattle.dia_io.specs.declared.Input.{Input}
use Rattle.dia_io.specs.declared.Input.TheVariants.{Bytes, TooLong}
use Rattle.dia_io.specs.declared.Inputs.{Inputs}
use Rattle.dia_io.specs.Inputs.{Holds}
use Rattle.dia_data.specs.Plain.{PlainFormat, AnyBytes, Grouped, OctetString}
use Rattle.dia_data.specs.Shown.{IsValueText}
use Rattle.dia_dict.specs.Dictionary.{Dictionary}
use Rattle.dia_run.specs.Listing.{IsDataText, IsFormatText, IsPlainRow, header_line}
use Rattle.dia_run.specs.Rows.{PlainKnown, Row, of_avp, of_bad_length, of_header}
use Rattle.dia_run.proofs.OutcomeParts.{written_as}
use Rattle.dia_run.specs.Outcome.{IsMessageShown, IsShowOutcome}
use Rattle.dia_run.specs.Outcome as run
use Rattle.dia_show.specs.declared.reading.BadValues.{BadValues}
use Rattle.dia_show.specs.declared.reading.BadValues.TheVariants as bads
use Rattle.dia_show.specs.Listing.{IsDataRecorded, IsDateNote, IsFormatRecorded, IsNamedRow, none, date, header_of, IsRecorded, plain_manner}
use Rattle.dia_show.specs.Outcome.{IsNamedOutcome, IsShown, shown, no_dictionary, no_values, no_message}
use Rattle.dia_show.specs.Words.{IsNoValuesText, IsValuesText, Word, max_values, values_fault, words_of}

no_date : (format : PlainFormat) (bytes note : List ℕ) → IsDateNote false format bytes note → note ≡ []
no_date format bytes note (none is_none is_note) = is_note
no_date format bytes note (date text has is_text is_note) = absurd cc

plain_recorded : (name : List ℕ) (format : PlainFormat) (bytes recorded : List ℕ) → IsRecorded plain_manner name format bytes recorded → IsValueText format bytes recorded
plain_recorded name format bytes recorded t =
    let alone : recorded ≡ t.value = t.parts ∙ ap (λ (n : List ℕ). (t.value ++ []) ++ n) (no_date format bytes t.note t.is_note) ∙ append-nil (t.value ++ []) ∙ append-nil t.value in
    subst (IsValueText format bytes) (sym alone) t.is_value

plain_format_recorded : (name : List ℕ) (format : PlainFormat) (bytes recorded : List ℕ) → IsFormatRecorded plain_manner name format bytes recorded → IsFormatText format bytes recorded
plain_format_recorded name Grouped bytes recorded is = is
plain_format_recorded name format bytes recorded is = plain_recorded name format bytes recorded is

plain_data : (known : Option PlainKnown) (bytes recorded : List ℕ) → IsDataRecorded plain_manner known bytes recorded → IsDataText known bytes recorded
plain_data None bytes recorded is = (plain_recorded (codes "?") (AnyBytes OctetString) bytes recorded is).accepted tt
plain_data (Some known) bytes recorded is = plain_format_recorded known.name known.format bytes recorded is

flat : (front one app two hop three end_id four len : List ℕ) → front ++ (one ++ app ++ two ++ hop ++ three ++ end_id ++ four ++ len) ≡ front ++ one ++ app ++ two ++ hop ++ three ++ end_id ++ four ++ len
flat front one app two hop three end_id four len = simp append_assoc

plain_header : (h : Header) (n : ℕ) (command : Option (List ℕ)) → header_of false h n command ≡ header_line h n
plain_header h n command =
    ap line (flat (codes "header flags " ++ hex_byte h.flags ++ codes " code " ++ decimal h.code) (codes " app ") (decimal h.app) (codes " hop ") (decimal h.hop) (codes " end ") (decimal h.e2e)
    (codes " length ") (decimal n))

plain_row : (row : Row) (text : List ℕ) → IsNamedRow plain_manner row text → IsPlainRow row text
plain_row (of_header h len command) text is = is ∙ plain_header h len command
plain_row (of_avp place depth v known) text (recorded, is_recorded, is) = (recorded, plain_data known v.bytes recorded is_recorded, is)
plain_row (of_bad_length place) text is = is

plain_shown : (d : Dictionary) (bytes text : List ℕ) (exit : Exit) → IsShown plain_manner d bytes text exit → IsMessageShown d bytes text exit
plain_shown d bytes text exit is = written_as (IsNamedRow plain_manner) IsPlainRow plain_row d bytes text exit is

-- ---- an empty text of words

same_text : (input : Input) (text : List ℕ) → Holds input max_values [] → Holds input max_values text → text ≡ []
same_text (Bytes v) text one two = sym two.0 ∙ one.0
same_text TooLong text one two = absurd one

no_words : (input : Input) (words : List Word) → Holds input max_values [] → IsValuesText input words → words ≡ []
no_words input words empty (text, holds, utf8, fine, is_words) = is_words ∙ ap words_of (same_text input text empty holds)

no_fault : {X : Type 0} (input : Input) (bad : BadValues) → Holds input max_values [] → IsNoValuesText input bad → X
no_fault (Bytes v) bads.TooLong empty over = absurd (omega (arith, over, ap length empty.0))
no_fault TooLong bads.TooLong empty over = absurd empty
no_fault input (bads.NotText at) empty (text, holds, bad, there) = absurd (bad (subst IsUtf8 (sym (same_text input text empty holds)) IsUtf8-nil))
no_fault input (bads.Syntax n) empty (text, holds, utf8, is) = let none = sym (ap values_fault (same_text input text empty holds)) ∙ is in absurd cc
no_fault input (bads.Duplicate n) empty (text, holds, utf8, is) = let none = sym (ap values_fault (same_text input text empty holds)) ∙ is in absurd cc
no_fault input (bads.Limit n) empty (text, holds, utf8, is) = let none = sym (ap values_fault (same_text input text empty holds)) ∙ is in absurd cc

pub law : (inputs : Inputs) (text : List ℕ) (exit : Exit) → Holds inputs.table max_values [] → IsNamedOutcome false inputs text exit → IsShowOutcome inputs text exit
law inputs text exit empty (shown d words bytes is_d are_words is_message is_shown) =
    run.ended d bytes is_d is_message
    (plain_shown d bytes text exit (subst (λ (ws : List Word). IsShown (record { words = ws; names = false }) d bytes text exit) (no_words inputs.table words empty are_words) is_shown))
law inputs text exit empty (no_dictionary why is_none recorded) = run.no_dictionary why is_none recorded
law inputs text exit empty (no_values d bad is_d is_none recorded) = no_fault inputs.table bad empty is_none
law inputs text exit empty (no_message d words recorded is_d are_words is_none refuses) = run.no_message d recorded is_d is_none refuses
