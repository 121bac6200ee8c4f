-- The AVPs at the front of a level (RFC 6733 section 4.1).
use Rattle.std.specs.Prelude.{◌≡◌, ℕ, ◌==◌, ◌&&◌, Bool, if◌then◌else◌, List, ◌++◌, length, Option, Some, None, unwrap_or, option_map}
use Rattle.std.specs.List.{find}
use Rattle.dia_wire.specs.Number.{number}
use Rattle.dia_wire.specs.Wire.{PlainAvp, SpellsAll, BeginsWithNone}

-- the level begins with these AVPs, and after them no AVP begins. The level is all AVPs where nothing is left.
pub record IsFront (avps : List PlainAvp) (level left : List ℕ) : Type 0 where
  pub front : List ℕ
  pub spells : SpellsAll avps front
  pub parts : level ≡ front ++ left
  pub ends : BeginsWithNone left

-- an AVP of this code, without vendor
abbrev pub is_avp : ℕ → PlainAvp → Bool
is_avp code v = (v.code == code) && (unwrap_or v.vendor 0 == 0)

-- the data of the first
abbrev pub first_data : ℕ → List PlainAvp → Option (List ℕ)
first_data code avps = option_map (λ v. v.bytes) (find (is_avp code) avps)

-- a number has four bytes (RFC 6733 section 4.2)
abbrev pub number_of : List ℕ → Option ℕ
number_of bytes = if length bytes == 4 then Some (number bytes) else None

abbrev pub number_in : Option (List ℕ) → Option ℕ
number_in None = None
number_in (Some bytes) = number_of bytes

abbrev pub first_number : ℕ → List PlainAvp → Option ℕ
first_number code avps = number_in (first_data code avps)
