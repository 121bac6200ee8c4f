-- A message as JSON values: an object for each of its rows; in a manner of `show`, which has words of values, and dates or not.
use Rattle.std.specs.Prelude.{◌≡◌, ℕ, ◌==◌, if◌then◌else◌, ℤ, pos, Bool, List, take, drop, Option, Some, None, codes}
use Rattle.std.specs.List.{flat_map}
use Rattle.std.specs.Int.{Width, w32, w64, cast_signed}
use Rattle.std.specs.Fmt.{signed_decimal}
use Rattle.serde_json.specs.Data.{Data, Members, member, no_members, null, number, object, string, unsigned}
use Rattle.serde_json.specs.Find.{of_integer}
use Rattle.dia_wire.specs.declared.Header.{Header}
use Rattle.dia_wire.specs.Wire.{PlainAvp, avp_length}
use Rattle.dia_data.specs.declared.FormatKind.{FormatKind}
use Rattle.dia_data.specs.declared.FormatKind.TheVariants as of_format
use Rattle.dia_data.specs.declared.Reading.{Reading}
use Rattle.dia_data.specs.declared.Reading.TheVariants.{Signed, Bits}
use Rattle.dia_data.specs.Plain.{PlainFormat, Grouped, FourBytes, EightBytes, Enumerated, eight_reading, four_reading, kind_of as format_kind}
use Rattle.dia_data.specs.Leaf.{IsLeaf}
use Rattle.dia_data.specs.Number as numbers
use Rattle.dia_data.specs.Shown.{address, hex_byte}
use Rattle.dia_dict.specs.Dictionary.{Dictionary}
use Rattle.dia_io.specs.declared.Exit.{Exit}
use Rattle.dia_run.specs.Outcome.{listing_exit}
use Rattle.dia_run.specs.Rows.{AreMessageRows, AreWritten, PlainKnown, Row, of_avp, of_bad_length, of_header}
use Rattle.dia_show.specs.Listing.{Manner, IsDateOf, IsWordOf}
use Rattle.dia_json.specs.declared.values.ValueKind.{ValueKind}
use Rattle.dia_json.specs.declared.values.ValueKind.TheVariants as kind
use Rattle.dia_refused_json.specs.Members.{json_line, verdict_members}

-- ---- values

-- bytes, two lower-case hexadecimal digits each
abbrev pub hex_value : List ℕ → Data
hex_value bytes = object (member (codes "hex") (string (flat_map hex_byte bytes)) no_members)

abbrev pub other_address : ℕ → List ℕ → Data
other_address family bytes = object (member (codes "family") (number (unsigned family)) (member (codes "hex") (string (flat_map hex_byte bytes)) no_members))

-- an address of IPv4 or IPv6 as `show` writes it; of another family the number of the family, and the bytes
abbrev pub address_value : List ℕ → Data
address_value bytes =
    let family = numbers.number (take 2 bytes) in
    if family == 1 then string (address bytes) else (if family == 2 then string (address bytes) else other_address family (drop 2 bytes))

abbrev pub kind_as : FormatKind → ValueKind
kind_as (of_format.FourBytes Bits) = kind.Octets
kind_as (of_format.FourBytes reading) = kind.Number
kind_as (of_format.EightBytes Bits) = kind.Octets
kind_as (of_format.EightBytes reading) = kind.LongNumber
kind_as of_format.Enumerated = kind.Number
kind_as of_format.Address = kind.Address
kind_as of_format.Utf8String = kind.Text
kind_as of_format.DiameterIdentity = kind.Text
kind_as of_format.DiameterUri = kind.Text
kind_as format = kind.Octets

abbrev pub kind_of : PlainFormat → ValueKind
kind_of format = kind_as (format_kind format)

-- the number that bytes of this width are
abbrev pub number_as : Width → Reading → List ℕ → ℤ
number_as width Signed bytes = cast_signed width (numbers.number bytes)
number_as width reading bytes = pos (numbers.number bytes)

-- the number that the bytes are, signed or not as the format is
abbrev pub integer_of : PlainFormat → List ℕ → ℤ
integer_of (FourBytes name) bytes = number_as w32 (four_reading name) bytes
integer_of (EightBytes name) bytes = number_as w64 (eight_reading name) bytes
integer_of (Enumerated ranges) bytes = cast_signed w32 (numbers.number bytes)
integer_of format bytes = pos (numbers.number bytes)

-- a number of 32 bits is a number. One of 64 bits is a string: readers may hold numbers as floats, which have 53 bits
abbrev pub value_as : ValueKind → PlainFormat → List ℕ → Data
value_as kind.Number format bytes = number (of_integer (integer_of format bytes))
value_as kind.LongNumber format bytes = string (signed_decimal (integer_of format bytes))
value_as kind.Text format bytes = string bytes
value_as kind.Address format bytes = address_value bytes
value_as kind.Octets format bytes = hex_value bytes

-- data that the format doesn't accept has its bytes
pub record IsValue (format : PlainFormat) (bytes : List ℕ) (value : Data) : Type 0 where
  pub accepted : IsLeaf format bytes → value ≡ value_as (kind_of format) format bytes
  pub refused : ¬ IsLeaf format bytes → value ≡ hex_value bytes

-- ---- AVPs

abbrev pub value_member : Data → Members
value_member value = member (codes "value") value no_members

abbrev pub name_member : List ℕ → Members → Members
name_member name rest = member (codes "name") (string name) rest

-- a text, if there is one
abbrev pub text_member : List ℕ → Option (List ℕ) → Members → Members
text_member name None rest = rest
text_member name (Some text) rest = member name (string text) rest

abbrev pub note_members : Option (List ℕ) → Option (List ℕ) → Members
note_members word date = text_member (codes "word") word (text_member (codes "time") date no_members)

-- the value of an AVP of this name, then its word and its date, if it has them
pub record IsRecorded (m : Manner) (name : List ℕ) (format : PlainFormat) (bytes : List ℕ) (recorded : Members) : Type 0 where
  pub value : Data
  pub word : Option (List ℕ)
  pub date : Option (List ℕ)
  pub is_value : IsValue format bytes value
  pub is_word : IsWordOf m name format bytes word
  pub is_date : IsDateOf m.names format bytes date
  pub parts : recorded ≡ member (codes "value") value (note_members word date)

-- the name of an AVP of this format, and its data. A group has none
abbrev pub IsFormatNamed : Manner → List ℕ → PlainFormat → List ℕ → Members → Type 0
IsFormatNamed m name Grouped bytes named = named ≡ name_member name no_members
IsFormatNamed m name format bytes named = (recorded : Members) × IsRecorded m name format bytes recorded × (named ≡ name_member name recorded)

-- those of an AVP. One that the dictionary doesn't have has no name, and its bytes
abbrev pub IsNamed : Manner → Option PlainKnown → List ℕ → Members → Type 0
IsNamed m None bytes named = named ≡ value_member (hex_value bytes)
IsNamed m (Some known) bytes named = IsFormatNamed m known.name known.format bytes named

-- a Vendor-ID, or null where the field is absent
abbrev pub vendor_value : Option ℕ → Data
vendor_value None = null
vendor_value (Some vendor) = number (unsigned vendor)

-- the members of an AVP at a place, which has these for its name and its value
abbrev pub shown_members : ℕ → ℕ → PlainAvp → Members → Members
shown_members place depth v named = member (codes "at") (number (unsigned place)) (member (codes "depth") (number (unsigned depth))
    (member (codes "code") (number (unsigned v.code)) (member (codes "vendor") (vendor_value v.vendor)
    (member (codes "flags") (number (unsigned v.flags)) (member (codes "length") (number (unsigned (avp_length v))) named)))))

-- a place at which no AVP begins: the fault of `check`
abbrev pub bad_length_members : ℕ → Members
bad_length_members place = verdict_members (codes "fault") (member (codes "code") (number (unsigned 5014))
    (member (codes "at") (number (unsigned place)) (member (codes "reason") (string (codes "avp-length")) no_members)))

-- ---- messages

-- the command, if the dictionary has one for this header
abbrev pub command_member : Option (List ℕ) → Members
command_member None = no_members
command_member (Some name) = member (codes "command") (string name) no_members

-- the members of a header with this Message Length and command
abbrev pub header_members : Header → ℕ → Option (List ℕ) → Members
header_members h len command = member (codes "version") (number (unsigned 1)) (member (codes "flags") (number (unsigned h.flags))
    (member (codes "code") (number (unsigned h.code)) (member (codes "application") (number (unsigned h.app))
    (member (codes "hop_by_hop") (number (unsigned h.hop)) (member (codes "end_to_end") (number (unsigned h.e2e))
    (member (codes "length") (number (unsigned len)) (command_member command)))))))

-- the object of a row
abbrev pub IsObject : Manner → Row → Members → Type 0
IsObject m (of_header h len command) members = members ≡ header_members h len command
IsObject m (of_avp place depth v known) members =
    (named : Members) × IsNamed m known v.bytes named × (members ≡ shown_members place depth v named)
IsObject m (of_bad_length place) members = members ≡ bad_length_members place

-- its line
abbrev pub IsObjectRow : Manner → Row → List ℕ → Type 0
IsObjectRow m row text = (members : Members) × IsObject m row members × (text ≡ json_line members)

-- the objects of a message
abbrev pub IsMessageValue : Manner → Dictionary → List ℕ → List Members → Bool → Type 0
IsMessageValue m d bytes objects bad = (rows : List Row) × AreMessageRows d bytes rows bad × AreWritten (IsObject m) rows objects

-- their text: a line for each
abbrev pub lines_of : List Members → List ℕ
lines_of objects = flat_map json_line objects

-- what is written of a message, and how that ends
abbrev pub RecordsMessage : Manner → Dictionary → List ℕ → List ℕ → Exit → Type 0
RecordsMessage m d bytes text exit =
    (objects : List Members) × (bad : Bool) × IsMessageValue m d bytes objects bad × (text ≡ lines_of objects) × (exit ≡ listing_exit bad)
