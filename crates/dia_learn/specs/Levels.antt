-- The levels of messages (RFC 6733 sections 3, 3.2 and 4.4): the AVPs of a message, read by its command, and those of a group,
-- read by its definition.
use Rattle.std.specs.Prelude.{◌≡◌, ◌⊎◌, ◌↔◌, ◌==◌, ◌&&◌, ℕ, bit_and, Bool, not, List, [], ◌∷◌, length, take, drop, Option, Some, option_and_then, Contains}
use Rattle.dia_wire.specs.declared.Header.{Header}
use Rattle.dia_wire.specs.Lengths.{header_length}
use Rattle.dia_wire.specs.Wire.{PlainAvp, key_of, BeginsWith, BeginsWithNone, IsHead, IsMessageLength}
use Rattle.dia_book.specs.declared.Class.{Class}
use Rattle.dia_book.specs.declared.Class.TheVariants.{Request, Answer, Error}
use Rattle.dia_book.specs.Keys.{same_key}
use Rattle.dia_book.specs.Dictionary.{Dictionary, entry_of, group_place, selected}
use Rattle.dia_valid.specs.Valid.{class_of}
use Rattle.dia_learn.specs.declared.place.Place.{Place}
use Rattle.dia_learn.specs.declared.place.Spot.{Spot}

abbrev pub same_place : Place → Place → Bool
same_place a b = (a.def == b.def) && (a.app == b.app)

abbrev pub same_spot : Spot → Spot → Bool
same_spot a b = same_place a.place b.place && same_key a.key b.key

-- the M flag is set (RFC 6733 section 4.1)
abbrev pub has_m : ℕ → Bool
has_m flags = not (bit_and flags 64 == 0)

-- a level, and what reads it
pub record PlainLevel : Type 0 where
  pub place : Place
  pub avps : List PlainAvp

-- the AVPs that the bytes begin with, one after the other, up to where none begins
abbrev pub Reads : List PlainAvp → List ℕ → Type 0
Reads [] bytes = (length bytes ≡ 0) ⊎ BeginsWithNone bytes
Reads (v ∷ vs) bytes = (rest : List ℕ) × BeginsWith v bytes rest × Reads vs rest

-- the number of the definition of a known group
abbrev pub group_number : Dictionary → PlainAvp → Option ℕ
group_number d v = option_and_then (group_place d) (entry_of d (key_of v))

-- what reads the data of a group
abbrev pub of_group : ℕ → Place
of_group def = record { def = def; app = 0 }

-- what reads the AVPs of a message
abbrev pub of_command : ℕ → Class → ℕ → Place
of_command def Request app = record { def = def; app = app }
of_command def Answer app = record { def = def; app = app }
of_command def Error app = record { def = def; app = 0 }

-- the level is the one that these bytes are, read at this place, or lies in a known group of it
pub data LiesIn (d : Dictionary) (l : PlainLevel) : Place → List ℕ → Type 0 where
  itself : {w : Place} {bytes : List ℕ} → l.place ≡ w → Reads l.avps bytes → LiesIn d l w bytes
  inside : {w : Place} {bytes : List ℕ} (around : List PlainAvp) (v : PlainAvp) (def : ℕ) → Reads around bytes → Contains around v → group_number d v ≡ Some def
      → LiesIn d l (of_group def) v.bytes → LiesIn d l w bytes

-- these levels are those that lie in this one, and no others
abbrev pub AreLevelsIn : Dictionary → Place → List ℕ → List PlainLevel → Type 0
AreLevelsIn d w bytes ls = (l : PlainLevel) → Contains ls l ↔ LiesIn d l w bytes

-- the bytes are a message of a command that the dictionary has, and the level is one of it
pub record IsLevelOf (d : Dictionary) (bytes : List ℕ) (l : PlainLevel) : Type 0 where
  pub header : Header
  pub c : ℕ
  pub is_head : IsHead header (length bytes) (take header_length bytes)
  pub sound : IsMessageLength (length bytes)
  pub select : selected d header.code (class_of header.flags) header.app ≡ Some c
  pub lies : LiesIn d l (of_command c (class_of header.flags) header.app) (drop header_length bytes)

-- these levels are those of the message, and no others
abbrev pub AreLevelsOf : Dictionary → List ℕ → List PlainLevel → Type 0
AreLevelsOf d bytes ls = (l : PlainLevel) → Contains ls l ↔ IsLevelOf d bytes l
