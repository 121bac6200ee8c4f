-- The rows of a message: its header, and then each AVP, with the members of the groups that the dictionary has.
use Rattle.std.specs.Prelude.{◌≡◌, ℕ, ◌+◌, ◌<◌, Bool, true, false, List, [], ◌∷◌, ◌++◌, length, take, drop, Option, Some, None, option_map, option_and_then, slice_get, ⊤}
use Rattle.dia_wire.specs.declared.Header.{Header}
use Rattle.dia_wire.specs.Wire.{PlainAvp, key_of, head_length, padded_length, BeginsWith, BeginsWithNone, IsHead, IsMessageLength}
use Rattle.dia_data.specs.Plain.{PlainFormat, Grouped}
use Rattle.dia_dict.specs.Dictionary.{Dictionary, DictEntry, PlainDefinition, definitions, selected}
use Rattle.dia_valid.specs.Valid.{class_of, known}

-- what a dictionary has of an AVP
pub record PlainKnown : Type 0 where
  pub name : List ℕ
  pub format : PlainFormat

-- what a row is about: a header of this Message Length, with its command's name, if the dictionary has it; an AVP at an offset and
-- a depth; an offset at which no AVP begins
pub data Row : Type 0 where
  of_header : (h : Header) (len : ℕ) (command : Option (List ℕ)) → Row
  of_avp : (place depth : ℕ) (v : PlainAvp) (known : Option PlainKnown) → Row
  of_bad_length : (place : ℕ) → Row

-- ---- what the dictionary has

abbrev pub known_by : DictEntry → PlainKnown
known_by e = record { name = e.name; format = e.format }

abbrev pub known_avp : Dictionary → PlainAvp → Option PlainKnown
known_avp d v = option_map known_by (known d (key_of v))

abbrev pub is_grouped : PlainFormat → Bool
is_grouped Grouped = true
is_grouped format = false

-- a group, whose members have rows
abbrev pub is_group : Option PlainKnown → Bool
is_group None = false
is_group (Some known) = is_grouped known.format

-- the name of the command of a header (RFC 6733 section 3.2)
abbrev pub command_name : Dictionary → Header → Option (List ℕ)
command_name d h = option_map (λ (c : PlainDefinition). c.name) (option_and_then (slice_get (definitions d)) (selected d h.code (class_of h.flags) h.app))

-- ---- levels

-- a level: its depth, the offset at which it begins, and its bytes
pub record Level : Type 0 where
  pub depth : ℕ
  pub place : ℕ
  pub bytes : List ℕ

-- what follows an AVP at the front of a level
abbrev pub after : Level → PlainAvp → List ℕ → Level
after level v rest = record { depth = level.depth; place = level.place + padded_length v; bytes = rest }

-- the data of a group at the front of a level
abbrev pub inside : Level → PlainAvp → Level
inside level v = record { depth = level.depth + 1; place = level.place + head_length v.vendor; bytes = v.bytes }

-- the body of a message
abbrev pub body_of : List ℕ → Level
body_of bytes = record { depth = 0; place = 20; bytes = drop 20 bytes }

-- the row of an AVP at the front of a level
abbrev pub row_of : Dictionary → Level → PlainAvp → Row
row_of d level v = of_avp level.place level.depth v (known_avp d v)

-- the rows of a level: one for each AVP, and after that of a group those of its members; up to the end, or to a bad length, which
-- ends them all
pub data AreRows (d : Dictionary) : Level → List Row → Bool → Type 0 where
  end : {level : Level} {rows : List Row} {bad : Bool} → level.bytes ≡ [] → rows ≡ [] → bad ≡ false → AreRows d level rows bad
  bad_length : {level : Level} {rows : List Row} {bad : Bool} → 0 < length level.bytes → BeginsWithNone level.bytes
      → rows ≡ of_bad_length level.place ∷ [] → bad ≡ true → AreRows d level rows bad
  leaf : {level : Level} {rows : List Row} {bad : Bool} (v : PlainAvp) (rest : List ℕ) (more : List Row)
      → BeginsWith v level.bytes rest → is_group (known_avp d v) ≡ false
      → AreRows d (after level v rest) more bad → rows ≡ row_of d level v ∷ more → AreRows d level rows bad
  group : {level : Level} {rows : List Row} {bad : Bool} (v : PlainAvp) (rest : List ℕ) (members more : List Row)
      → BeginsWith v level.bytes rest → is_group (known_avp d v) ≡ true
      → AreRows d (inside level v) members false → AreRows d (after level v rest) more bad
      → rows ≡ row_of d level v ∷ (members ++ more) → AreRows d level rows bad
  bad_group : {level : Level} {rows : List Row} {bad : Bool} (v : PlainAvp) (rest : List ℕ) (members : List Row)
      → BeginsWith v level.bytes rest → is_group (known_avp d v) ≡ true
      → AreRows d (inside level v) members true → rows ≡ row_of d level v ∷ members → bad ≡ true → AreRows d level rows bad

-- the rows of a message, and whether they end at a bad length
pub record AreMessageRows (d : Dictionary) (bytes : List ℕ) (rows : List Row) (bad : Bool) : Type 0 where
  pub h : Header
  pub avps : List Row
  pub head : IsHead h (length bytes) (take 20 bytes)
  pub long : IsMessageLength (length bytes)
  pub body : AreRows d (body_of bytes) avps bad
  pub are : rows ≡ of_header h (length bytes) (command_name d h) ∷ avps

-- ---- what is written of them

-- each row is written as the text, or the value, at its index
abbrev pub AreWritten : {T : Type 0} → (Row → T → Type 0) → List Row → List T → Type 0
AreWritten P [] [] = ⊤
AreWritten P (row ∷ rows) (text ∷ texts) = P row text × AreWritten P rows texts
AreWritten P rows texts = ⊥
