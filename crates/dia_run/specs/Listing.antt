-- The rows of `show`: a line each.
use Rattle.std.specs.Prelude.{◌≡◌, ℕ, List, ◌++◌, Option, Some, None, codes}
use Rattle.std.specs.Fmt.{decimal}
use Rattle.dia_wire.specs.declared.Header.{Header}
use Rattle.dia_wire.specs.Wire.{PlainAvp, avp_length}
use Rattle.dia_data.specs.Plain.{PlainFormat, Grouped}
use Rattle.dia_data.specs.Shown.{hex_byte, hexadecimal, IsValueText}
use Rattle.dia_run.specs.Rows.{PlainKnown, Row, of_avp, of_bad_length, of_header}
use Rattle.dia_run.specs.Texts.{line}

-- a dash where there is no Vendor-ID
abbrev pub vendor_text : Option ℕ → List ℕ
vendor_text None = codes "-"
vendor_text (Some vendor) = decimal vendor

-- the line of a header with this Message Length
abbrev pub header_line : Header → ℕ → List ℕ
header_line h len = line (codes "header flags " ++ hex_byte h.flags ++ codes " code " ++ decimal h.code ++ codes " app "
    ++ decimal h.app
    ++ codes " hop " ++ decimal h.hop ++ codes " end " ++ decimal h.e2e ++ codes " length " ++ decimal len)

-- what precedes the name of an AVP: offset, depth, code, vendor, flags and length
abbrev pub avp_columns : ℕ → ℕ → PlainAvp → List ℕ
avp_columns place depth v = decimal place ++ codes " " ++ decimal depth ++ codes " " ++ decimal v.code ++ codes " "
    ++ vendor_text v.vendor
    ++ codes " " ++ hex_byte v.flags ++ codes " " ++ decimal (avp_length v) ++ codes " "

-- the line of an AVP
abbrev pub avp_line : ℕ → ℕ → PlainAvp → List ℕ → List ℕ → List ℕ
avp_line place depth v name value = line (avp_columns place depth v ++ name ++ codes " " ++ value)

-- the line of an offset at which no AVP begins
abbrev pub bad_length_line : ℕ → List ℕ
bad_length_line place = line (codes "fault 5014 at " ++ decimal place ++ codes " avp-length -")

-- the name of an AVP, or `?` where the dictionary doesn't have it
abbrev pub name_text : Option PlainKnown → List ℕ
name_text None = codes "?"
name_text (Some known) = known.name

-- the data of an AVP of this format
abbrev pub IsFormatText : PlainFormat → List ℕ → List ℕ → Type 0
IsFormatText Grouped bytes value = value ≡ codes "group"
IsFormatText format bytes value = IsValueText format bytes value

-- that of an AVP, which is hexadecimal where the dictionary doesn't have the AVP
abbrev pub IsDataText : Option PlainKnown → List ℕ → List ℕ → Type 0
IsDataText None bytes value = value ≡ hexadecimal bytes
IsDataText (Some known) bytes value = IsFormatText known.format bytes value

-- the line of a row
abbrev pub IsPlainRow : Row → List ℕ → Type 0
IsPlainRow (of_header h len command) text = text ≡ header_line h len
IsPlainRow (of_avp place depth v known) text = (value : List ℕ) × IsDataText known v.bytes value × (text ≡ avp_line place depth v (name_text known) value)
IsPlainRow (of_bad_length place) text = text ≡ bad_length_line place

-- the name and the data of an AVP were added, which end its line
abbrev pub AddsNameAndValue : List ℕ → PlainFormat → List ℕ → List ℕ → List ℕ → Type 0
AddsNameAndValue name format bytes old new =
    (value : List ℕ) × IsValueText format bytes value × (new ≡ old ++ line (name ++ codes " " ++ value))
