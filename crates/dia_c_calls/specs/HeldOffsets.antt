-- The AVPs of a message that hold a byte.
use Rattle.std.specs.Prelude.{◌≡◌, ℕ, ◌+◌, ◌≤◌, ◌<◌, ◌↔◌, true, List, length, Some, slice_get}
use Rattle.dia_wire.specs.Wire.{PlainAvp, BeginsWith, avp_length}
use Rattle.dia_book.specs.Dictionary.{Dictionary}
use Rattle.dia_run.specs.Rows.{Level, after, body_of, inside, is_group, known_avp}
use Rattle.dia_c_calls.specs.declared.avp_records.MessageAvp.{MessageAvp}
use Rattle.dia_c_calls.specs.Avps.{AreFirst, avp_record}

-- an AVP of a level, or of a group in it that the dictionary has, at this offset and this depth
pub data IsAvpIn (d : Dictionary) : Level → ℕ → ℕ → PlainAvp → Type 0 where
  front : {level : Level} {place depth : ℕ} {v : PlainAvp} (rest : List ℕ) → BeginsWith v level.bytes rest
      → place ≡ level.place → depth ≡ level.depth → IsAvpIn d level place depth v
  later : {level : Level} {place depth : ℕ} {v : PlainAvp} (w : PlainAvp) (rest : List ℕ) → BeginsWith w level.bytes rest
      → IsAvpIn d (after level w rest) place depth v → IsAvpIn d level place depth v
  member : {level : Level} {place depth : ℕ} {v : PlainAvp} (w : PlainAvp) (rest : List ℕ) → BeginsWith w level.bytes rest
      → is_group (known_avp d w) ≡ true → IsAvpIn d (inside level w) place depth v → IsAvpIn d level place depth v

-- the record of an AVP of a level at this depth, whose bytes hold the one at an offset; padding is of no AVP (RFC 6733 section 4.1)
pub record Holds (d : Dictionary) (level : Level) (offset depth : ℕ) (a : MessageAvp) : Type 0 where
  pub place : ℕ
  pub v : PlainAvp
  pub within : IsAvpIn d level place depth v
  pub from : place ≤ offset
  pub until : offset < place + avp_length v
  pub is : a ≡ avp_record place depth v (known_avp d v)

-- these records, the outermost first, are of the AVPs of a level that hold the byte at an offset: at index k the one of depth k
abbrev pub AreHolding : Dictionary → Level → ℕ → List MessageAvp → Type 0
AreHolding d level offset found = (k : ℕ) (a : MessageAvp) → (slice_get found k ≡ Some a) ↔ Holds d level offset k a

-- the AVPs of a level that hold the byte at an offset are so many, and the first of them are in an array
pub record AreFoundIn (d : Dictionary) (level : Level) (offset : ℕ) (old new : List MessageAvp) (count : ℕ) : Type 0 where
  pub found : List MessageAvp
  pub are : AreHolding d level offset found
  pub many : count ≡ length found
  pub first : AreFirst found old new

-- the same of a message
abbrev pub AreFoundAt : Dictionary → List ℕ → ℕ → List MessageAvp → List MessageAvp → ℕ → Type 0
AreFoundAt d bytes offset old new count = AreFoundIn d (body_of bytes) offset old new count
