-- What is known of the levels of valid messages (RFC 6733 sections 3.2 and 4.1).
use Rattle.std.specs.Prelude.{◌≡◌, map, Some, slice_get}
use Rattle.std.specs.List.{AllByRecursion}
use Rattle.dia_wire.specs.Wire.{PlainAvp, key_of}
use Rattle.dia_book.specs.Dictionary.{Dictionary, PlainDefinition, definitions}
use Rattle.dia_terms.specs.declared.Unknown.{Unknown}
use Rattle.dia_valid.specs.Valid.{HasFlags, Placed}
use Rattle.dia_learn.specs.Levels.{PlainLevel}

-- the AVPs are where the rules of the level's definition say
abbrev pub IsPlaced : Dictionary → PlainLevel → Type 0
IsPlaced d l = (def : PlainDefinition) × (slice_get (definitions d) l.place.def ≡ Some def) × Placed def.rules (map key_of l.avps)

abbrev pub HasFlagsOf : Dictionary → Unknown → PlainAvp → Type 0
HasFlagsOf d u v = HasFlags d u (key_of v) v.flags

-- and each has its M flag as its entry says, or as the policy for unknown AVPs
pub record IsRead (d : Dictionary) (u : Unknown) (l : PlainLevel) : Type 0 where
  pub placed : IsPlaced d l
  pub flags : AllByRecursion (HasFlagsOf d u) l.avps
