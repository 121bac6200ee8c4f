-- A row has one line in a manner.
use Rattle.std.proofs.Common.{◌≡◌, ℕ, Bool, List, ◌++◌, Option, Some, None, sym, ap, ◌∙◌, codes}
use Rattle.std.proofs.lemmas.Bool.{false≢true}
use Rattle.dia_data.specs.Number.{number}
use Rattle.dia_data.specs.Plain.{PlainFormat, AnyBytes, Grouped, OctetString}
use Rattle.dia_run.specs.Listing.{name_text}
use Rattle.dia_run.specs.Rows.{PlainKnown, of_avp, of_bad_length, of_header}
use Rattle.dia_run.proofs.OneMessage.{one_value}
use Rattle.dia_run.proofs.OneWalk.{WritesOne}
use Rattle.dia_show.specs.Listing.{IsDataRecorded, IsDateNote, IsFormatRecorded, IsNamedRow, IsRecorded, Manner, date, line_of, none, recorded_format, word_note}
use Rattle.dia_show.specs.Words.{word_of}
use Rattle.dia_show.proofs.OneDate.{one_time}

one_note : (names : Bool) (format : PlainFormat) (bytes t u : List ℕ) → IsDateNote names format bytes t → IsDateNote names format bytes u → t ≡ u
one_note names format bytes t u (none lacks is_t) (none lacks' is_u) = is_t ∙ sym is_u
one_note names format bytes t u (none lacks is_t) (date b has is_b is_u) = absurd (false≢true (sym lacks ∙ has))
one_note names format bytes t u (date a has is_a is_t) (none lacks is_u) = absurd (false≢true (sym lacks ∙ has))
one_note names format bytes t u (date a has is_a is_t) (date b has' is_b is_u) = is_t ∙ ap (λ (n : List ℕ). codes " " ++ n) (one_time (number bytes) a b is_a is_b) ∙ sym is_u

one_recorded : (m : Manner) (name : List ℕ) (format : PlainFormat) (bytes t u : List ℕ) → IsRecorded m name format bytes t → IsRecorded m name format bytes u → t ≡ u
one_recorded m name format bytes t u a b =
    a.parts ∙ ap (λ (n : List ℕ). a.value ++ word_note (word_of m.words name a.value) ++ n) (one_note m.names format bytes a.note b.note a.is_note b.is_note)
    ∙ ap (λ (v : List ℕ). v ++ word_note (word_of m.words name v) ++ b.note) (one_value (recorded_format m.names format bytes) bytes a.value b.value a.is_value b.is_value) ∙ sym b.parts

one_format_recorded : (m : Manner) (name : List ℕ) (format : PlainFormat) (bytes t u : List ℕ) → IsFormatRecorded m name format bytes t → IsFormatRecorded m name format bytes u → t ≡ u
one_format_recorded m name Grouped bytes t u a b = a ∙ sym b
one_format_recorded m name format bytes t u a b = one_recorded m name format bytes t u a b

one_data : (m : Manner) (known : Option PlainKnown) (bytes t u : List ℕ) → IsDataRecorded m known bytes t → IsDataRecorded m known bytes u → t ≡ u
one_data m None bytes t u a b = one_recorded m (codes "?") (AnyBytes OctetString) bytes t u a b
one_data m (Some known) bytes t u a b = one_format_recorded m known.name known.format bytes t u a b

pub one_row : (m : Manner) → WritesOne (IsNamedRow m)
one_row m (of_header h len command) t u a b = a ∙ sym b
one_row m (of_avp place depth v known) t u (recorded, is_recorded, is_t) (other, is_other, is_u) =
    is_t ∙ ap (line_of m.names place depth v (name_text known)) (one_data m known v.bytes recorded other is_recorded is_other) ∙ sym is_u
one_row m (of_bad_length place) t u a b = a ∙ sym b
