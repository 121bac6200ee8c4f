-- The AVPs of a message, as records of C.
use Rattle.std.specs.Prelude.{◌≡◌, ℕ, ◌+◌, ◌-◌, ◌<◌, ◌++◌, true, false, List, [], ◌∷◌, length, take, drop, min, replicate, Option, None, Some, unwrap_or}
use Rattle.dia_terms.specs.declared.FormatName.{FormatName}
use Rattle.dia_terms.specs.declared.FormatName.TheVariants as name
use Rattle.dia_wire.specs.Wire.{PlainAvp, BeginsMessage, BeginsWith, BeginsWithNone, avp_length, head_length}
use Rattle.dia_data.specs.Plain.{name_of}
use Rattle.dia_book.specs.Dictionary.{Dictionary}
use Rattle.dia_run.specs.Rows.{Level, PlainKnown, Row, after, body_of, inside, is_group, known_avp, of_avp, of_bad_length, of_header, row_of}
use Rattle.dia_c_calls.specs.declared.avp_records.MessageAvp.{MessageAvp}

-- the number of a format, in the order of docs/FORMATS.md
abbrev pub format_number : FormatName → ℕ
format_number name.OctetString = 1
format_number name.Integer32 = 2
format_number name.Integer64 = 3
format_number name.Unsigned32 = 4
format_number name.Unsigned64 = 5
format_number name.Float32 = 6
format_number name.Float64 = 7
format_number name.Grouped = 8
format_number name.Address = 9
format_number name.Time = 10
format_number name.Utf8String = 11
format_number name.DiameterIdentity = 12
format_number name.DiameterUri = 13
format_number name.Enumerated = 14
format_number name.IpFilterRule = 15
format_number name.QosFilterRule = 16

-- that of an AVP; 0 where the dictionary doesn't have it
abbrev pub number_of : Option PlainKnown → ℕ
number_of None = 0
number_of (Some known) = format_number (name_of known.format)

-- the name of an AVP; none where the dictionary doesn't have it
abbrev pub name_in : Option PlainKnown → List ℕ
name_in None = []
name_in (Some known) = known.name

-- a name in an array of 128 bytes, with zeros after it
abbrev pub in_array : List ℕ → List ℕ
in_array name = take 128 name ++ replicate (128 - length name) 0

-- an AVP at an offset and a depth (RFC 6733 section 4.1), and what the dictionary has of it
abbrev pub avp_record : ℕ → ℕ → PlainAvp → Option PlainKnown → MessageAvp
avp_record place depth v known = record {
  place = place;
  depth = depth;
  length = avp_length v;
  data_place = place + head_length v.vendor;
  data_length = length v.bytes;
  name_count = min (length (name_in known)) 128;
  code = v.code;
  vendor = unwrap_or v.vendor 0;
  flags = v.flags;
  format = number_of known;
  name = in_array (name_in known);
  reserved = replicate 4 0;
}

-- ---- rows

-- all rows of a level: one for each AVP, and after that of a group those of its members. A bad length ends its own level alone
pub data AreAllRows (d : Dictionary) : Level → List Row → Type 0 where
  end : {level : Level} {rows : List Row} → level.bytes ≡ [] → rows ≡ [] → AreAllRows d level rows
  bad_length : {level : Level} {rows : List Row} → 0 < length level.bytes → BeginsWithNone level.bytes
      → rows ≡ of_bad_length level.place ∷ [] → AreAllRows d level rows
  leaf : {level : Level} {rows : List Row} (v : PlainAvp) (rest : List ℕ) (more : List Row)
      → BeginsWith v level.bytes rest → is_group (known_avp d v) ≡ false
      → AreAllRows d (after level v rest) more → rows ≡ row_of d level v ∷ more → AreAllRows d level rows
  group : {level : Level} {rows : List Row} (v : PlainAvp) (rest : List ℕ) (members more : List Row)
      → BeginsWith v level.bytes rest → is_group (known_avp d v) ≡ true
      → AreAllRows d (inside level v) members → AreAllRows d (after level v rest) more
      → rows ≡ row_of d level v ∷ (members ++ more) → AreAllRows d level rows

-- the AVPs among rows
abbrev pub avps_of : List Row → List MessageAvp
avps_of [] = []
avps_of (of_avp place depth v known ∷ rows) = avp_record place depth v known ∷ avps_of rows
avps_of (of_header h len command ∷ rows) = avps_of rows
avps_of (of_bad_length place ∷ rows) = avps_of rows

-- the offset of the first bad length among rows
abbrev pub bad_of : List Row → Option ℕ
bad_of [] = None
bad_of (of_avp place depth v known ∷ rows) = bad_of rows
bad_of (of_header h len command ∷ rows) = bad_of rows
bad_of (of_bad_length place ∷ rows) = Some place

-- ---- what is written

-- the first of these records, as many as there is room for, are in the first places; the others are as before
abbrev pub AreFirst : List MessageAvp → List MessageAvp → List MessageAvp → Type 0
AreFirst avps old new = new ≡ take (length old) avps ++ drop (length avps) old

-- the AVPs of a level and of the groups in it are so many, the first of them are in an array, and the first bad length is at this
-- offset; or this is the end of the level
pub record AreLevelListed (d : Dictionary) (level : Level) (old new : List MessageAvp) (count bad : ℕ) : Type 0 where
  pub rows : List Row
  pub are : AreAllRows d level rows
  pub many : count ≡ length (avps_of rows)
  pub first : AreFirst (avps_of rows) old new
  pub first_bad : bad ≡ unwrap_or (bad_of rows) (level.place + length level.bytes)

-- the same of the bytes of a message
pub record AreListed (d : Dictionary) (bytes : List ℕ) (old new : List MessageAvp) (count bad : ℕ) : Type 0 where
  pub message : BeginsMessage bytes (length bytes)
  pub body : AreLevelListed d (body_of bytes) old new count bad
