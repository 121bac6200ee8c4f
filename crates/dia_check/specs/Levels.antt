-- The levels of a message: its body, and the data of each group that the dictionary knows (RFC 6733 section 4.4).
use Rattle.std.specs.Prelude.{◌≡◌, ℕ, suc, ◌+◌, ◌-◌, ◌<◌, ◌≤◌, List, ◌++◌, length, take, drop, Some, slice_get, replicate, option_and_then, ⊤}
use Rattle.dia_wire.specs.declared.Header.{Header}
use Rattle.dia_wire.specs.Number.{number}
use Rattle.dia_wire.specs.Wire.{PlainAvp, key_of, head_length, avp_length, SpellsAll, BeginsWith, IsHead}
use Rattle.dia_book.specs.declared.DRule.{DRule}
use Rattle.dia_book.specs.Dictionary.{Dictionary, PlainDefinition, definitions, selected}
use Rattle.dia_terms.specs.declared.Levels.{Levels}
use Rattle.dia_terms.specs.declared.Levels.TheVariants.{Any, AtMost}
use Rattle.dia_valid.specs.Valid.{class_of, known}

-- a level: its rules, where it begins and ends, and how many groups it lies in
pub record Level : Type 0 where
  pub rules : List DRule
  pub start : ℕ
  pub end : ℕ
  pub depth : ℕ

-- the bytes from one place to another
abbrev pub between : List ℕ → ℕ → ℕ → List ℕ
between bytes from to = take (to - from) (drop from bytes)

-- an AVP of the level at a place, after these AVPs
pub record IsMember (bytes : List ℕ) (level : Level) (earlier : List PlainAvp) (v : PlainAvp) (at : ℕ) : Type 0 where
  pub inside : level.start ≤ at
  pub before : SpellsAll earlier (between bytes level.start at)
  pub rest : List ℕ
  pub here : BeginsWith v (between bytes at level.end) rest

-- a group at this depth is opened
abbrev pub MayOpen : Levels → ℕ → Type 0
MayOpen Any depth = ⊤
MayOpen (AtMost n) depth = depth < n

-- the command of the message
pub record IsCommandOf (d : Dictionary) (bytes : List ℕ) (c : ℕ) (command : PlainDefinition) : Type 0 where
  pub header : Header
  pub head : IsHead header (length bytes) (take 20 bytes)
  pub select : selected d header.code (class_of header.flags) header.app ≡ Some c
  pub is_command : slice_get (definitions d) c ≡ Some command

-- the open levels are the least set with the body and, with each level, the data of its groups
pub data IsOpen (d : Dictionary) (most : Levels) (bytes : List ℕ) : Level → Type 0 where
  body : (c : ℕ) (command : PlainDefinition) → IsCommandOf d bytes c command
      → IsOpen d most bytes (record { rules = command.rules; start = 20; end = length bytes; depth = 0 })
  group : (level : Level) (earlier : List PlainAvp) (v : PlainAvp) (at : ℕ) (definition : PlainDefinition) → IsOpen d most bytes level
      → IsMember bytes level earlier v at → option_and_then (λ e. e.group) (known d (key_of v)) ≡ Some definition → MayOpen most level.depth
      → IsOpen d most bytes (record { rules = definition.rules; start = at + head_length v.vendor; end = at + avp_length v; depth = suc level.depth })

-- the bytes, and zero bytes up to their Message Length
abbrev pub filled : List ℕ → List ℕ
filled bytes = bytes ++ replicate (number (take 3 (drop 1 bytes)) - length bytes) 0
