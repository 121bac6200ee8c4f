-- Dictionaries whose definitions have the same levels, as one without a rule of a definition (RFC 6733 section 3.2).
use Rattle.std.specs.Prelude.{◌≡◌, ◌↔◌, ℕ, ◌+◌, List, length, Option, Some, None, slice_get, ⊤}
use Rattle.std.specs.List.{remove}
use Rattle.dia_wire.specs.declared.Key.{Key}
use Rattle.dia_book.specs.Dictionary.{Dictionary, DictEntry, PlainDefinition, group_place, groups}
use Rattle.dia_valid.specs.Valid.{Placed}

-- by both the same keys are where the rules say
abbrev pub PlacesSame : PlainDefinition → PlainDefinition → Type 0
PlacesSame g h = (g.head ≡ h.head) × ((keys : List Key) → Placed g.rules keys ↔ Placed h.rules keys)

abbrev pub AreSameGroups : Option PlainDefinition → Option PlainDefinition → Type 0
AreSameGroups None None = ⊤
AreSameGroups None (Some h) = ⊥
AreSameGroups (Some g) None = ⊥
AreSameGroups (Some g) (Some h) = PlacesSame g h

abbrev pub IsSameEntry : DictEntry → DictEntry → Type 0
IsSameEntry x y = (x.key ≡ y.key) × (x.format ≡ y.format) × (x.rule ≡ y.rule) × AreSameGroups x.group y.group

-- the same AVPs and commands in the same order, but for names and for how their rules are written
pub record HaveSameLevels (d e : Dictionary) : Type 0 where
  pub as_many_entries : length d.entries ≡ length e.entries
  pub entries : (k : ℕ) (x y : DictEntry) → slice_get d.entries k ≡ Some x → slice_get e.entries k ≡ Some y → IsSameEntry x y
  pub as_many_commands : length d.commands ≡ length e.commands
  pub commands : (k : ℕ) (g h : PlainDefinition) → slice_get d.commands k ≡ Some g → slice_get e.commands k ≡ Some h → PlacesSame g h

-- ---- a dictionary without a rule

-- the definition with this number is as it was, but for rule i if it is the one with the number def
abbrev pub IsAsItWas : ℕ → ℕ → ℕ → PlainDefinition → PlainDefinition → Type 0
IsAsItWas def i n g h = (g.head ≡ h.head) × (n ≡ def → h.rules ≡ remove g.rules i) × ((n ≡ def → ⊥) → h.rules ≡ g.rules)

abbrev pub IsGroupAsItWas : Dictionary → ℕ → ℕ → ℕ → Option PlainDefinition → Option PlainDefinition → Type 0
IsGroupAsItWas d def i k None group = group ≡ None
IsGroupAsItWas d def i k (Some g) group = (n : ℕ) × (h : PlainDefinition) × (group_place d k ≡ Some n) × (group ≡ Some h) × IsAsItWas def i n g h

-- e is d without rule i of the definition with the number def
pub record IsWithout (d : Dictionary) (def i : ℕ) (e : Dictionary) : Type 0 where
  pub as_many_entries : length d.entries ≡ length e.entries
  pub entries : (k : ℕ) (x y : DictEntry) → slice_get d.entries k ≡ Some x → slice_get e.entries k ≡ Some y
      → (x.key ≡ y.key) × (x.format ≡ y.format) × (x.rule ≡ y.rule) × IsGroupAsItWas d def i k x.group y.group
  pub as_many_commands : length d.commands ≡ length e.commands
  pub commands : (k : ℕ) (g h : PlainDefinition) → slice_get d.commands k ≡ Some g → slice_get e.commands k ≡ Some h → IsAsItWas def i (length (groups d) + k) g h
