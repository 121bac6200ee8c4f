-- The records of a pcap file (draft-ietf-opsawg-pcap, sections 4 and 5).
use Rattle.std.specs.Prelude.{◌≡◌, ℕ, ◌+◌, ◌*◌, ◌%◌, ◌<◌, ◌≤◌, ◌⊎◌, List, [], ◌∷◌, length, take, drop, Option, Some, None}
use Rattle.dia_packets.specs.declared.fault.Refusal.{Refusal}
use Rattle.dia_packets.specs.declared.fault.Cause.TheVariants.{Cut, Length, Version}
use Rattle.dia_packets.specs.declared.kind.Unit.{Unit}
use Rattle.dia_packets.specs.declared.kind.Unit.TheVariants.{Microseconds, Nanoseconds}
use Rattle.dia_packets.specs.declared.order.Order.{Order}
use Rattle.dia_packets.specs.declared.records.Form.{Form}
use Rattle.dia_packets.specs.Fields.{counted, field}
use Rattle.dia_packets.specs.Packets.{PlainPacket}

-- how the packets end: at the end of the file (`None`), or where it can't be read on
abbrev pub End : Type 0
End = Option Refusal

-- ---- the head of the file

abbrev pub head_size : ℕ
head_size = 24

-- version 2.4
abbrev pub HasVersion : Order → List ℕ → Type 0
HasVersion order file = (field order 2 4 file ≡ 2) × (field order 2 6 file ≡ 4)

-- the link type is the low 16 bits of its field; time zone, accuracy and snap length aren't read
abbrev pub form_of : Order → Unit → List ℕ → Form
form_of order unit file = record { order = order; unit = unit; link = field order 4 20 file % 65536 }

-- ---- a record: seconds, a fraction of a second, how many bytes were captured, how many there were, and those that were captured

-- nanoseconds in a unit
abbrev pub unit_length : Unit → ℕ
unit_length Microseconds = 1000
unit_length Nanoseconds = 1

-- nanoseconds since 1970
abbrev pub time_of : Form → List ℕ → ℕ
time_of form bytes = field form.order 4 0 bytes * 1000000000 + field form.order 4 4 bytes * unit_length form.unit

abbrev pub kept_of : Form → List ℕ → ℕ
kept_of form bytes = field form.order 4 8 bytes

abbrev pub record_size : Form → List ℕ → ℕ
record_size form bytes = 16 + kept_of form bytes

-- the most captured bytes of a packet
abbrev pub most_captured : ℕ
most_captured = 262144

-- the packet of this number, whose record is at the front
abbrev pub record_packet : Form → ℕ → List ℕ → PlainPacket
record_packet form n bytes = record { number = n; time = Some (time_of form bytes); link = form.link; bytes = take (kept_of form bytes) (drop 16 bytes); size = field form.order 4 12 bytes }

-- a whole record is at the front
pub record HasRecord (form : Form) (bytes : List ℕ) : Type 0 where
  pub head : 16 ≤ length bytes
  pub within : kept_of form bytes ≤ most_captured
  pub whole : record_size form bytes ≤ length bytes

-- less than a record
abbrev pub IsShort : Form → List ℕ → Type 0
IsShort form bytes = (length bytes < 16) ⊎ ((kept_of form bytes ≤ most_captured) × (length bytes < record_size form bytes))

-- a record with more bytes than the limit is at the front
abbrev pub IsLong : Form → List ℕ → Type 0
IsLong form bytes = (16 ≤ length bytes) × (most_captured < kept_of form bytes)

-- ---- the packets of all records, the first of them at an offset of the file and with a number
pub data AreRecords (form : Form) : (at n : ℕ) (bytes : List ℕ) → List PlainPacket → End → Type 0 where
  none : {at n : ℕ} → AreRecords form at n [] [] None
  packet : {at n : ℕ} {bytes : List ℕ} {others : List PlainPacket} {end : End} → HasRecord form bytes
      → AreRecords form (counted (at + record_size form bytes)) (counted (n + 1)) (drop (record_size form bytes) bytes) others end
      → AreRecords form at n bytes (record_packet form n bytes ∷ others) end
  cut : {at n : ℕ} {bytes : List ℕ} → 0 < length bytes → IsShort form bytes → AreRecords form at n bytes [] (Some (record { cause = Cut; at = at }))
  too_long : {at n : ℕ} {bytes : List ℕ} → IsLong form bytes → AreRecords form at n bytes [] (Some (record { cause = Length; at = at }))

-- the packets of a pcap file
pub data ArePcap (order : Order) (unit : Unit) : (at n : ℕ) (file : List ℕ) → List PlainPacket → End → Type 0 where
  records : {at n : ℕ} {file : List ℕ} {packets : List PlainPacket} {end : End} → head_size ≤ length file → HasVersion order file
      → AreRecords (form_of order unit file) (counted (at + head_size)) n (drop head_size file) packets end → ArePcap order unit at n file packets end
  no_file_head : {at n : ℕ} {file : List ℕ} → length file < head_size → ArePcap order unit at n file [] (Some (record { cause = Cut; at = at }))
  version : {at n : ℕ} {file : List ℕ} → head_size ≤ length file → ¬ HasVersion order file → ArePcap order unit at n file [] (Some (record { cause = Version; at = at }))
