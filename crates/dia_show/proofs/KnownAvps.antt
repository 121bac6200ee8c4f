-- The line of an AVP, from what a book's look-ups answer.
use Rattle.std.proofs.Common.{◌≡◌, ℕ, Bool, true, false, List, [], ◌++◌, length, Option, Some, None, Result, Ok, Err, if◌then◌else◌, codes, refl, sym, ap, subst, ◌∙◌, append_assoc}
use Rattle.std.specs.Prelude.{OnOk, is_ok}
use Rattle.dia_wire.specs.Wire.{PlainAvp}
use Rattle.dia_data.specs.declared.Format.{Format}
use Rattle.dia_data.specs.declared.Format.TheVariants as format
use Rattle.std.proofs.lemmas.Bool.{eqb-true}
use Rattle.dia_data.specs.Number.{number}
use Rattle.dia_data.specs.Plain.{PlainFormat, AnyBytes, FourBytes, plain_format, OctetString, Time}
use Rattle.dia_run.specs.Texts.{line}
use Rattle.dia_valid.specs.Valid.{known}
use Rattle.dia_run.specs.Listing.{name_text}
use Rattle.dia_run.specs.Rows.{PlainKnown, of_avp}
use Rattle.dia_run.specs.Walk.{Adds}
use Rattle.dia_run.proofs.KnownAvps.{group_joined, line_joined}
use Rattle.dia_data.specs.Shown.{IsValueText}
use Rattle.dia_show.specs.Dates.{AddsTime, IsTimeText}
use Rattle.dia_show.specs.Words.{word_of}
use Rattle.dia_show.specs.Listing.{Manner, IsDataRecorded, IsDateOf, IsFormatRecorded, IsNamedRow, IsRecorded, date, dated, columns, has_date, line_of, recorded_format, word_note, AddsDateNote, AddsNameAndRecorded, AddsRecorded}

-- data that is no group's is written as its format says
leaf_recorded : (m : Manner) (name : List ℕ) (f : Format) (bytes recorded : List ℕ) → ¬ (f ≡ format.Grouped) → IsRecorded m name (plain_format f) bytes recorded → IsFormatRecorded m name (plain_format f) bytes recorded
leaf_recorded m name format.Grouped bytes recorded h is = absurd (h refl)
leaf_recorded m name f bytes recorded h is = is

module _ (m : Manner) (place depth : ℕ) (v : PlainAvp) (old front new : List ℕ) (is_front : front ≡ old ++ columns m.names place depth v) where
  -- the line with the name and the data that were added
  line_added : (known : Option PlainKnown) (recorded : List ℕ) → IsDataRecorded m known v.bytes recorded → new ≡ front ++ line (name_text known ++ codes " " ++ recorded)
      → Adds (IsNamedRow m (of_avp place depth v known)) old new
  line_added known recorded is_recorded is_new = (
    line_of m.names place depth v (name_text known) recorded,
    (recorded, is_recorded, refl),
    line_joined old (columns m.names place depth v) front (name_text known) recorded new is_front is_new,
  )

  pub unknown_added : {X E : Type 0} (r : Result X E) → OnOk r (AddsNameAndRecorded m (codes "?") (AnyBytes OctetString) v.bytes front new)
      → OnOk r (Adds (IsNamedRow m (of_avp place depth v None)) old new)
  unknown_added (Ok x) (recorded, is_recorded, is_new) = line_added None recorded is_recorded is_new
  unknown_added (Err e) added = tt

  pub leaf_added : {X E : Type 0} (r : Result X E) (name : List ℕ) (f : Format) → ¬ (f ≡ format.Grouped) → OnOk r (AddsNameAndRecorded m name (plain_format f) v.bytes front new)
      → OnOk r (Adds (IsNamedRow m (of_avp place depth v (Some (record { name = name; format = plain_format f })))) old new)
  leaf_added (Ok x) name f no_group (recorded, is_recorded, is_new) =
      line_added (Some (record { name = name; format = plain_format f })) recorded (leaf_recorded m name f v.bytes recorded no_group is_recorded) is_new
  leaf_added (Err e) name f no_group added = tt

  pub group_added : {X E : Type 0} (r : Result X E) (name named : List ℕ) (f : Format) → f ≡ format.Grouped → named ≡ front ++ name
      → new ≡ (if is_ok r then named ++ codes " group\n" else named)
      → OnOk r (Adds (IsNamedRow m (of_avp place depth v (Some (record { name = name; format = plain_format f })))) old new)
  group_added (Ok x) name named f is_group is_named is_new = (
    line_of m.names place depth v name (codes "group"),
    (codes "group", subst (λ (g : Format). IsFormatRecorded m name (plain_format g) v.bytes (codes "group")) (sym is_group) refl, refl),
    group_joined old (columns m.names place depth v) front name named new is_front is_named is_new,
  )
  group_added (Err e) name named f is_group is_named is_new = tt

recorded_joined : (old name blank recorded end : List ℕ) → (((old ++ name) ++ blank) ++ recorded) ++ end ≡ old ++ ((name ++ blank ++ recorded) ++ end)
recorded_joined old name blank recorded end = simp append_assoc

-- the name and the data, which end a line
pub recorded_after : (m : Manner) (name : List ℕ) (format : PlainFormat) (bytes old one two three new : List ℕ) → one ≡ old ++ name → two ≡ one ++ codes " " → AddsRecorded m name format bytes two three
    → new ≡ three ++ codes "\n" → AddsNameAndRecorded m name format bytes old new
recorded_after m name format bytes old one two three new is_one is_two (recorded, is_recorded, is_three) is_new = (
  recorded,
  is_recorded,
  is_new ∙ ap (λ (t : List ℕ). t ++ codes "\n") (is_three ∙ ap (λ (t : List ℕ). t ++ recorded) (is_two ∙ ap (λ (t : List ℕ). t ++ codes " ") is_one)) ∙ recorded_joined old name (codes " ") recorded (codes "\n"),
)

-- what is told of data: its value, its word and its date
pub recorded_added : (m : Manner) (name : List ℕ) (format : PlainFormat) (bytes value old one two new : List ℕ) → IsValueText (recorded_format m.names format bytes) bytes value → one ≡ old ++ value
    → two ≡ one ++ word_note (word_of m.words name value) → AddsDateNote m.names format bytes two new → AddsRecorded m name format bytes old new
recorded_added m name format bytes value old one two new is_value is_one is_two (note, is_note, is_new) =
    let word = word_note (word_of m.words name value) in (
      value ++ word ++ note,
      record { value = value; note = note; is_value = is_value; is_note = is_note; parts = refl },
      is_new ∙ ap (λ (t : List ℕ). t ++ note) (is_two ∙ ap (λ (t : List ℕ). t ++ word) is_one) ∙ append_assoc (old ++ value) word note ∙ append_assoc old value (word ++ note)
          ∙ ap (λ (t : List ℕ). old ++ t) (sym (append_assoc value word note)),
    )

-- the line of a header, part by part
pub header_joined : (old a f c t r last one two three four new : List ℕ) → one ≡ old ++ a → two ≡ one ++ f → three ≡ two ++ c → four ≡ three ++ t → new ≡ four ++ (r ++ last)
    → new ≡ old ++ ((a ++ f ++ c ++ t ++ r) ++ last)
header_joined old a f c t r last one two three four new e1 e2 e3 e4 e5 =
    e5 ∙ ap (λ (x : List ℕ). x ++ (r ++ last)) (e4 ∙ ap (λ (x : List ℕ). x ++ t) (e3 ∙ ap (λ (x : List ℕ). x ++ c) (e2 ∙ ap (λ (x : List ℕ). x ++ f) e1))) ∙ parts
  where
    parts : ((((old ++ a) ++ f) ++ c) ++ t) ++ (r ++ last) ≡ old ++ ((a ++ f ++ c ++ t ++ r) ++ last)
    parts = simp append_assoc

-- the bytes of a Time are four
pub four_bytes : (names : Bool) (format : PlainFormat) (bytes : List ℕ) → has_date names format bytes ≡ true → length bytes ≡ 4
four_bytes false format bytes h = absurd cc
four_bytes true (FourBytes Time) bytes h = eqb-true (length bytes) 4 h
four_bytes true format bytes h = absurd cc

-- a date alone
pub date_found : (names : Bool) (format : PlainFormat) (bytes one new : List ℕ) (n : ℕ) → has_date names format bytes ≡ true → one ≡ [] → n ≡ number bytes
    → AddsTime n one new → IsDateOf names format bytes (Some new)
date_found names format bytes one new n has none is_number (text, is_text, is_new) =
    dated text has (subst (λ (k : ℕ). IsTimeText k text) is_number is_text) (ap Some (is_new ∙ ap (λ (t : List ℕ). t ++ text) none))

-- a date behind a blank
pub date_noted : (names : Bool) (format : PlainFormat) (bytes old one new : List ℕ) (n : ℕ) → has_date names format bytes ≡ true → one ≡ old ++ codes " " → n ≡ number bytes
    → AddsTime n one new → AddsDateNote names format bytes old new
date_noted names format bytes old one new n has is_one is_number (text, is_text, is_new) = (
  codes " " ++ text,
  date text has (subst (λ (k : ℕ). IsTimeText k text) is_number is_text) refl,
  is_new ∙ ap (λ (t : List ℕ). t ++ text) is_one ∙ append_assoc old (codes " ") text,
)
