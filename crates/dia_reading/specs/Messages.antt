-- Bytes that begin like a message of Diameter, or like a record of TLS.
use Rattle.std.specs.Prelude.{◌≡◌, ℕ, ◌-◌, ◌%◌, ◌≤◌, List, length, take, drop, slice_index}
use Rattle.dia_wire.specs.declared.header.Header.{Header}
use Rattle.dia_wire.specs.Lengths.{header_length, avp_head_length}
use Rattle.dia_wire.specs.Number.{number}
use Rattle.dia_wire.specs.Wire.{HasE, HasR, IsBadLength, IsHead, PlainAvp, SpellsAll}

-- Command Flags: no reserved bit is set, and not both R and E (RFC 6733 section 3)
pub record AreCommandFlags (flags : ℕ) : Type 0 where
  pub reserved : flags % 16 ≡ 0
  pub either : HasR flags → ¬ HasE flags

-- AVP Flags and AVP Length, of an AVP that is padded no longer than the room (RFC 6733 section 4.1)
pub record BeginsAvp (bytes : List ℕ) (room : ℕ) : Type 0 where
  pub whole : avp_head_length ≤ length bytes
  pub fits : ¬ IsBadLength (slice_index bytes 4) (number (take 3 (drop 5 bytes))) room

-- the header of a message of n bytes, and the beginning of its first AVP
pub record BeginsLike (bytes : List ℕ) (n : ℕ) : Type 0 where
  pub header : Header
  pub is_head : IsHead header n (take header_length bytes)
  pub flags : AreCommandFlags header.flags
  pub aligned : n % 4 ≡ 0
  pub least : 28 ≤ n
  pub most : n ≤ 65532
  pub avp : BeginsAvp (drop header_length bytes) (n - header_length)

-- the bytes begin like a message, which needn't be all there
abbrev pub IsLikely : List ℕ → Type 0
IsLikely bytes = (n : ℕ) × BeginsLike bytes n

-- the bytes are AVPs, up to their end
abbrev pub AreAvps : List ℕ → Type 0
AreAvps level = (avps : List PlainAvp) × SpellsAll avps level

-- the bytes are a message that begins like one, with AVPs up to its end
pub record IsSound (bytes : List ℕ) : Type 0 where
  pub begins : BeginsLike bytes (length bytes)
  pub avps : AreAvps (drop header_length bytes)

-- the type and the version of a record (RFC 8446 section 5.1)
pub record IsTls (bytes : List ℕ) : Type 0 where
  pub whole : 3 ≤ length bytes
  pub first_type : 20 ≤ slice_index bytes 0
  pub last_type : slice_index bytes 0 ≤ 23
  pub major : slice_index bytes 1 ≡ 3
  pub minor : slice_index bytes 2 ≤ 4
