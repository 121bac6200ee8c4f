-- Lengths that no AVP that is sent is below (RFC 6733 sections 3.2, 4.1 and 4.4).
use Rattle.std.specs.Prelude.{◌≡◌, ℕ, zero, suc, ◌+◌, ◌*◌, ◌/◌, ◌^◌, ◌<◌, ◌≤◌, List, length, Option, Some, None}
use Rattle.dia_wire.specs.declared.Key.{Key}
use Rattle.dia_wire.specs.Wire.{PlainAvp, key_of, head_length, Spells}
use Rattle.dia_data.specs.Leaf.{IsLeaf}
use Rattle.dia_book.specs.Dictionary.{Dictionary, DictEntry, PlainDefinition}
use Rattle.dia_valid.specs.Valid.{known}
use Rattle.dia_terms.specs.declared.Sends.{Sends}
use Rattle.dia_terms.specs.declared.Sends.TheVariants.{Any}
use Rattle.dia_breaking_sites.specs.Sent.{StandAsSent, IsSentAvp, AreBytes}
pub use Rattle.dia_breaking_levels.specs.LeastLevels.{total}

-- the Vendor-ID of a shortest AVP of the vendor: none for the vendor 0
abbrev pub vendor_field : ℕ → Option ℕ
vendor_field zero = None
vendor_field (suc n) = Some (suc n)

-- how long the head of a shortest AVP of the key is
abbrev pub shortest_head : Key → ℕ
shortest_head key = head_length (vendor_field key.vendor)

-- with padding
abbrev pub padded : ℕ → ℕ
padded n = (n + 3) / 4 * 4

-- each floor is at most what the head and any data that is sent take: none where the AVP is unknown, a leaf, or AVPs that are as
-- the rules say
pub record AreFloors (d : Dictionary) (sends : Sends) (floor : Key → ℕ) : Type 0 where
  pub unknown : (key : Key) → known d key ≡ None → sends ≡ Any → floor key ≤ shortest_head key
  pub leaves : (key : Key) (entry : DictEntry) (bytes : List ℕ) → known d key ≡ Some entry → entry.group ≡ None → AreBytes bytes → IsLeaf entry.format bytes
      → floor key ≤ padded (shortest_head key + length bytes)
  pub groups : (key : Key) (entry : DictEntry) (group : PlainDefinition) (keys : List Key) → known d key ≡ Some entry → entry.group ≡ Some group → StandAsSent sends group.rules keys
      → floor key ≤ padded (shortest_head key + total floor keys)

-- the fields of an AVP can say the key
abbrev pub IsSpellable : Key → Type 0
IsSpellable key = (key.code < 2 ^ 32) × (key.vendor < 2 ^ 32)

-- an AVP of the key that is sent is spelled in n bytes
abbrev pub IsAttained : Dictionary → Sends → Key → ℕ → Type 0
IsAttained d sends key n = (v : PlainAvp) × (bytes : List ℕ) × (key_of v ≡ key) × IsSentAvp d sends v × Spells v bytes × (length bytes ≡ n)
