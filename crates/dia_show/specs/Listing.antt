-- The lines of a message with words of values, and with names of flags, commands and dates: each changes one part of the lines of `show`.
use Rattle.std.specs.Prelude.{◌≡◌, ℕ, zero, suc, ◌==◌, ◌&&◌, nat_lt, nat_le, bit_and, Bool, true, false, if◌then◌else◌, List, [], ◌++◌, length, Option, Some, None, codes}
use Rattle.std.specs.Fmt.{decimal}
use Rattle.std.specs.List.{list_all}
use Rattle.dia_wire.specs.declared.Header.{Header}
use Rattle.dia_wire.specs.Wire.{PlainAvp, avp_length}
use Rattle.dia_data.specs.Number.{number}
use Rattle.dia_data.specs.Plain.{PlainFormat, AnyBytes, FourBytes, Grouped, OctetString, Utf8String, Time}
use Rattle.dia_data.specs.Shown.{hex_byte, IsValueText}
use Rattle.dia_run.specs.Texts.{line}
use Rattle.dia_run.specs.Listing.{vendor_text, bad_length_line, name_text}
use Rattle.dia_run.specs.Rows.{PlainKnown, Row, of_avp, of_bad_length, of_header}
use Rattle.dia_show.specs.Dates.{IsTimeText}
use Rattle.dia_show.specs.Words.{Word, word_of}

-- how a message is shown: with these words of values, and with names or without
pub record Manner : Type 0 where
  pub words : List Word
  pub names : Bool

-- as `show` does without options
abbrev pub plain_manner : Manner
plain_manner = record { words = []; names = false }

-- ---- flags

-- the letter of a flag, or a dash where it is clear
abbrev pub letter : ℕ → ℕ → List ℕ → List ℕ
letter flags bit name = if bit_and flags bit == 0 then codes "-" else name

-- the bits that have no name, where one is set
abbrev pub reserved : ℕ → List ℕ
reserved bits = if bits == 0 then [] else codes "+" ++ hex_byte bits

-- RFC 6733 section 3
abbrev pub header_flags : Bool → ℕ → List ℕ
header_flags false flags = hex_byte flags
header_flags true flags =
    letter flags 128 (codes "R") ++ letter flags 64 (codes "P") ++ letter flags 32 (codes "E") ++ letter flags 16 (codes "T") ++ reserved (bit_and flags 15)

-- RFC 6733 section 4.1
abbrev pub avp_flags : Bool → ℕ → List ℕ
avp_flags false flags = hex_byte flags
avp_flags true flags = letter flags 128 (codes "V") ++ letter flags 64 (codes "M") ++ letter flags 32 (codes "P") ++ reserved (bit_and flags 31)

-- ---- the header

-- a command's name, or `?` where there is none
abbrev pub name_or_mark : Option (List ℕ) → List ℕ
name_or_mark None = codes "?"
name_or_mark (Some name) = name

abbrev pub code_text : Bool → Header → Option (List ℕ) → List ℕ
code_text false h command = decimal h.code
code_text true h command = decimal h.code ++ codes " " ++ name_or_mark command

-- what follows the Command Code
abbrev pub header_rest : Header → ℕ → List ℕ
header_rest h len = codes " app " ++ decimal h.app ++ codes " hop " ++ decimal h.hop ++ codes " end " ++ decimal h.e2e ++ codes " length " ++ decimal len

-- the line of a header with this Message Length, and with this name of its command
abbrev pub header_of : Bool → Header → ℕ → Option (List ℕ) → List ℕ
header_of names h len command = line (codes "header flags " ++ header_flags names h.flags ++ codes " code " ++ code_text names h command ++ header_rest h len)

-- ---- the line of an AVP

-- two blanks for each level
abbrev pub indent : ℕ → List ℕ
indent zero = []
indent (suc depth) = codes "  " ++ indent depth

abbrev pub margin : Bool → ℕ → List ℕ
margin false depth = []
margin true depth = indent depth

-- place, depth, code, vendor, flags and length
abbrev pub numbers : Bool → ℕ → ℕ → PlainAvp → List ℕ
numbers names place depth v = decimal place ++ codes " " ++ decimal depth ++ codes " " ++ decimal v.code ++ codes " "
    ++ vendor_text v.vendor
    ++ codes " " ++ avp_flags names v.flags ++ codes " " ++ decimal (avp_length v) ++ codes " "

-- what precedes the name of an AVP
abbrev pub columns : Bool → ℕ → ℕ → PlainAvp → List ℕ
columns names place depth v = margin names depth ++ numbers names place depth v

abbrev pub line_of : Bool → ℕ → ℕ → PlainAvp → List ℕ → List ℕ → List ℕ
line_of names place depth v name recorded = line (columns names place depth v ++ name ++ codes " " ++ recorded)

-- ---- values

-- one or more characters of printing ASCII and blanks
abbrev pub is_printing : ℕ → Bool
is_printing byte = nat_le 32 byte && nat_le byte 126

abbrev pub is_printable : List ℕ → Bool
is_printable bytes = nat_lt 0 (length bytes) && list_all is_printing bytes

-- data that is written as a text: filter rules, and octets that are printable
abbrev pub is_text : Bool → PlainFormat → List ℕ → Bool
is_text true (AnyBytes OctetString) bytes = is_printable bytes
is_text true (AnyBytes name) bytes = true
is_text names format bytes = false

abbrev pub recorded_format : Bool → PlainFormat → List ℕ → PlainFormat
recorded_format names format bytes = if is_text names format bytes then Utf8String else format

-- the word that follows a value, if it has one
abbrev pub word_note : Option (List ℕ) → List ℕ
word_note None = []
word_note (Some word) = codes " " ++ word

-- the data has a date
abbrev pub has_date : Bool → PlainFormat → List ℕ → Bool
has_date true (FourBytes Time) bytes = length bytes == 4
has_date names format bytes = false

-- the date that follows the number of a Time
pub data IsDateNote (names : Bool) (format : PlainFormat) (bytes note : List ℕ) : Type 0 where
  none : has_date names format bytes ≡ false → note ≡ [] → IsDateNote names format bytes note
  date : (text : List ℕ) → has_date names format bytes ≡ true → IsTimeText (number bytes) text → note ≡ codes " " ++ text
      → IsDateNote names format bytes note

-- the word of the data of an AVP of this name, if it has one
pub record IsWordOf (m : Manner) (name : List ℕ) (format : PlainFormat) (bytes : List ℕ) (word : Option (List ℕ)) : Type 0 where
  pub value : List ℕ
  pub is_value : IsValueText (recorded_format m.names format bytes) bytes value
  pub is_word : word ≡ word_of m.words name value

-- the date of the data, if it has one
pub data IsDateOf (names : Bool) (format : PlainFormat) (bytes : List ℕ) (date : Option (List ℕ)) : Type 0 where
  undated : has_date names format bytes ≡ false → date ≡ None → IsDateOf names format bytes date
  dated : (text : List ℕ) → has_date names format bytes ≡ true → IsTimeText (number bytes) text → date ≡ Some text
      → IsDateOf names format bytes date

-- the data of an AVP of this name: its value as `show` prints it, its word, and its date
pub record IsRecorded (m : Manner) (name : List ℕ) (format : PlainFormat) (bytes recorded : List ℕ) : Type 0 where
  pub value : List ℕ
  pub note : List ℕ
  pub is_value : IsValueText (recorded_format m.names format bytes) bytes value
  pub is_note : IsDateNote m.names format bytes note
  pub parts : recorded ≡ value ++ word_note (word_of m.words name value) ++ note

-- the data of an AVP of this name and format
abbrev pub IsFormatRecorded : Manner → List ℕ → PlainFormat → List ℕ → List ℕ → Type 0
IsFormatRecorded m name Grouped bytes recorded = recorded ≡ codes "group"
IsFormatRecorded m name format bytes recorded = IsRecorded m name format bytes recorded

-- that of an AVP, which is an OctetString named `?` where the dictionary doesn't have the AVP
abbrev pub IsDataRecorded : Manner → Option PlainKnown → List ℕ → List ℕ → Type 0
IsDataRecorded m None bytes recorded = IsRecorded m (codes "?") (AnyBytes OctetString) bytes recorded
IsDataRecorded m (Some known) bytes recorded = IsFormatRecorded m known.name known.format bytes recorded

-- ---- rows

-- the line of a row
abbrev pub IsNamedRow : Manner → Row → List ℕ → Type 0
IsNamedRow m (of_header h len command) text = text ≡ header_of m.names h len command
IsNamedRow m (of_avp place depth v known) text =
    (recorded : List ℕ) × IsDataRecorded m known v.bytes recorded × (text ≡ line_of m.names place depth v (name_text known) recorded)
IsNamedRow m (of_bad_length place) text = text ≡ bad_length_line place

-- ---- what was added

-- the data of an AVP was added
abbrev pub AddsRecorded : Manner → List ℕ → PlainFormat → List ℕ → List ℕ → List ℕ → Type 0
AddsRecorded m name format bytes old new = (recorded : List ℕ) × IsRecorded m name format bytes recorded × (new ≡ old ++ recorded)

-- the date of a Time was added, if the data is one
abbrev pub AddsDateNote : Bool → PlainFormat → List ℕ → List ℕ → List ℕ → Type 0
AddsDateNote names format bytes old new = (note : List ℕ) × IsDateNote names format bytes note × (new ≡ old ++ note)

-- the end of an AVP's line was added
abbrev pub AddsNameAndRecorded : Manner → List ℕ → PlainFormat → List ℕ → List ℕ → List ℕ → Type 0
AddsNameAndRecorded m name format bytes old new =
    (recorded : List ℕ) × IsRecorded m name format bytes recorded × (new ≡ old ++ line (name ++ codes " " ++ recorded))
