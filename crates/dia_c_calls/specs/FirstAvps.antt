-- The first AVP of a code and a vendor at a level.
use Rattle.std.specs.Prelude.{◌≡◌, ℕ, ◌≤◌, List, length}
use Rattle.dia_wire.specs.declared.avp_key.Key.{Key}
use Rattle.dia_wire.specs.Wire.{PlainAvp, BeginsMessage, key_of}
use Rattle.dia_book.specs.Dictionary.{Dictionary}
use Rattle.dia_run.specs.Rows.{Level, body_of, known_avp}
use Rattle.dia_c_calls.specs.declared.avp_records.MessageAvp.{MessageAvp}
use Rattle.dia_c_calls.specs.Avps.{avp_record}
use Rattle.dia_c_calls.specs.HeldOffsets.{IsAvpIn}

-- an AVP with this key at a level, in none of its groups
pub record IsOwn (d : Dictionary) (level : Level) (key : Key) (place : ℕ) (v : PlainAvp) : Type 0 where
  pub within : IsAvpIn d level place level.depth v
  pub keyed : key_of v ≡ key

-- the record of the first AVP with this key at a level: no other begins before it
pub record IsFirstOf (d : Dictionary) (level : Level) (key : Key) (a : MessageAvp) : Type 0 where
  pub place : ℕ
  pub v : PlainAvp
  pub own : IsOwn d level key place v
  pub first : (other : ℕ) (w : PlainAvp) → IsOwn d level key other w → place ≤ other
  pub is : a ≡ avp_record place level.depth v (known_avp d v)

-- no AVP at a level has this key
abbrev pub HasNoneOf : Dictionary → Level → Key → Type 0
HasNoneOf d level key = (place : ℕ) (v : PlainAvp) → ¬ IsOwn d level key place v

-- the bytes are a message, and the record is of its first AVP of a code and a vendor that is in no group
abbrev pub IsFirstIn : Dictionary → List ℕ → ℕ → ℕ → MessageAvp → Type 0
IsFirstIn d bytes code vendor a = BeginsMessage bytes (length bytes) × IsFirstOf d (body_of bytes) (record { code = code; vendor = vendor }) a

-- the bytes are a message without such an AVP
abbrev pub HasNoneIn : Dictionary → List ℕ → ℕ → ℕ → Type 0
HasNoneIn d bytes code vendor = BeginsMessage bytes (length bytes) × HasNoneOf d (body_of bytes) (record { code = code; vendor = vendor })
