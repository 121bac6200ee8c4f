-- The lengths of shortest AVPs, as the solution of their equations (RFC 6733 sections 3.2, 4.1 and 4.4).
use Rattle.std.specs.Prelude.{◌≡◌, ◌⊎◌, ℕ, ◌≤◌, false, List, length, Some, None, slice_get}
use Rattle.dia_wire.specs.declared.Key.{Key}
use Rattle.dia_wire.specs.Wire.{head_length}
use Rattle.dia_book.specs.declared.DRule.{DRule}
use Rattle.dia_book.specs.Dictionary.{Dictionary, DictEntry, PlainDefinition}
use Rattle.dia_valid.specs.Valid.{is_listed}
use Rattle.dia_terms.specs.declared.Sends.{Sends}
use Rattle.dia_terms.specs.declared.Sends.TheVariants.{Any, Known, Filled, Listed}
use Rattle.dia_breaking_levels.specs.LevelTests.{too_long}
use Rattle.dia_breaking_shortest.specs.Floors.{IsSpellable}
use Rattle.dia_breaking_shortest.specs.Lengths.{entry_length, length_of, group_length, IsLeafLength}

-- of the AVPs that the dictionary knows and no rule lists, none is shorter, and one is as short if any is sent
pub record IsLeastUnlisted (d : Dictionary) (lengths : List ℕ) (rules : List DRule) (n : ℕ) : Type 0 where
  pub none_is_shorter : (key : Key) → is_listed rules key ≡ false → n ≤ length_of d Known lengths key
  pub one_is_as_short : (n ≡ too_long) ⊎ ((key : Key) × (is_listed rules key ≡ false) × (n ≡ length_of d Known lengths key))

-- the length of a shortest AVP that the least count of these rules' wildcard is met with. With `Filled` a wildcard that asks for
-- AVPs lets none in
abbrev pub IsFillerLength : Dictionary → Sends → List ℕ → List DRule → ℕ → Type 0
IsFillerLength d Any lengths rules n = n ≡ head_length None
IsFillerLength d Known lengths rules n = IsLeastUnlisted d lengths rules n
IsFillerLength d Filled lengths rules n = n ≡ too_long
IsFillerLength d Listed lengths rules n = n ≡ too_long

-- the length of the key's shortest group: its head, and each AVP of its rules as often as the rule asks for it
abbrev pub IsGroupLength : Dictionary → Sends → List ℕ → Key → List DRule → ℕ → Type 0
IsGroupLength d sends lengths key rules n = (filler : ℕ) × IsFillerLength d sends lengths rules filler × (n ≡ group_length (length_of d sends lengths) filler key rules)

-- each entry has the length of its shortest leaf, or of its shortest group by these lengths
pub record AreExact (d : Dictionary) (sends : Sends) (lengths : List ℕ) : Type 0 where
  pub size : length lengths ≡ length d.entries
  pub leaves : (e : ℕ) (entry : DictEntry) → slice_get d.entries e ≡ Some entry → entry.group ≡ None → IsLeafLength entry (entry_length lengths e)
  pub groups : (e : ℕ) (entry : DictEntry) (group : PlainDefinition) → slice_get d.entries e ≡ Some entry → entry.group ≡ Some group
      → IsGroupLength d sends lengths entry.key group.rules (entry_length lengths e)

-- each entry's key can be spelled
abbrev pub AreSpellable : Dictionary → Type 0
AreSpellable d = (e : ℕ) (entry : DictEntry) → slice_get d.entries e ≡ Some entry → IsSpellable entry.key
