-- What AVPs of one key are sent, and which of them a receiver accepts, by their flags and by their data.
use Rattle.std.specs.Prelude.{◌≡◌, ℕ, ◌≤◌, List, [], length, Bool, true, false, Option, Some, None, slice_get, option_and_then, MatchOption, ⊤}
use Rattle.std.specs.Option.{option_map_or}
use Rattle.dia_wire.specs.declared.Key.{Key}
use Rattle.dia_wire.specs.Wire.{HasM}
use Rattle.dia_data.specs.Leaf.{IsLeaf}
use Rattle.dia_book.specs.declared.DRule.{DRule}
use Rattle.dia_book.specs.Dictionary.{Dictionary, DictEntry, PlainDefinition, definitions}
use Rattle.dia_terms.specs.declared.Unknown.{Unknown}
use Rattle.dia_terms.specs.declared.sends.Sends.{Sends}
use Rattle.dia_terms.specs.declared.sends.Sends.TheVariants.{Any}
use Rattle.dia_valid.specs.Valid.{Fits, IsLevel, known}
use Rattle.dia_breaking_sites.specs.Sent.{AreBytes, IsSentLevel, IsSentWithin}

-- the flags have this M flag (RFC 6733 section 4.1)
abbrev pub HasThisM : Bool → ℕ → Type 0
HasThisM true flags = HasM flags
HasThisM false flags = ¬ HasM flags

-- an AVP of the key that the side of the dictionary sends may have these data: any, where the dictionary doesn't know it
abbrev pub IsSentData : Dictionary → Sends → Key → List ℕ → Type 0
IsSentData d who key bytes =
    MatchOption (known d key) (who ≡ Any) (λ e. MatchOption e.group (IsLeaf e.format bytes) (λ group. (n : ℕ) × IsSentLevel who (IsSentWithin d who n) group.rules bytes))

-- an AVP of the key with these data is accepted, but for its flags
abbrev pub IsAcceptedData : Dictionary → Unknown → Key → List ℕ → Type 0
IsAcceptedData d u key bytes = MatchOption (known d key) ⊤ (λ e. MatchOption e.group (IsLeaf e.format bytes) (λ group. (n : ℕ) × IsLevel (Fits d u n) group.rules bytes))

-- the definition of the group that AVPs of the key are
abbrev pub group_of : Dictionary → Key → Option PlainDefinition
group_of d key = option_and_then (λ e. e.group) (known d key)

-- its rules
abbrev pub group_rules : Dictionary → Key → List DRule
group_rules d key = option_map_or (λ group. group.rules) (group_of d key) []

-- AVPs of the key are groups, and this is the number of their definition
abbrev pub HasGroup : Dictionary → Key → ℕ → Type 0
HasGroup d key number = (group : PlainDefinition) × (group_of d key ≡ Some group) × (slice_get (definitions d) number ≡ Some group)

-- the dictionary accepts any data of AVPs of the key: it doesn't know them, or they are leaves of a format that has all data
abbrev pub TakesAnyData : Dictionary → Key → Type 0
TakesAnyData d key = (e : DictEntry) → known d key ≡ Some e → (e.group ≡ None) × ((bytes : List ℕ) → IsLeaf e.format bytes)

-- shortest data that are sent and not accepted
pub record IsShortestRefused (IsSentHere IsAcceptedHere : List ℕ → Type 0) (bytes : List ℕ) : Type 0 where
  pub are_bytes : AreBytes bytes
  pub sent : IsSentHere bytes
  pub refused : ¬ IsAcceptedHere bytes
  pub least : (other : List ℕ) → IsSentHere other → ¬ IsAcceptedHere other → length bytes ≤ length other

-- all that is sent is accepted
abbrev pub AreAccepted : (IsSentHere IsAcceptedHere : List ℕ → Type 0) → Type 0
AreAccepted IsSentHere IsAcceptedHere = (bytes : List ℕ) → AreBytes bytes → IsSentHere bytes → IsAcceptedHere bytes
