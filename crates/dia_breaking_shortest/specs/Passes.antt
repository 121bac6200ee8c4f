-- Passes over the groups of a dictionary, each of which may make lengths less.
use Rattle.std.specs.Prelude.{◌≡◌, ℕ, ◌<◌, ◌≤◌, Bool, true, false, List, length, sum_by, Some, None, slice_get, All}
use Rattle.dia_wire.specs.declared.Key.{Key}
use Rattle.dia_book.specs.declared.DRule.{DRule}
use Rattle.dia_book.specs.Dictionary.{Dictionary, DictEntry, PlainDefinition}
use Rattle.dia_valid.specs.Valid.{is_listed}
use Rattle.dia_terms.specs.declared.Sends.{Sends}
use Rattle.dia_terms.specs.declared.Sends.TheVariants.{Any, Known, Filled, Listed}
use Rattle.dia_breaking_levels.specs.LevelTests.{too_long}
use Rattle.dia_breaking_shortest.specs.declared.lookup.Least.{Least}
use Rattle.dia_breaking_shortest.specs.Least.{IsFirstUnknown}
use Rattle.dia_breaking_shortest.specs.declared.order.Ranked.{Ranked}
use Rattle.dia_breaking_shortest.specs.Lengths.{IsOrder, IsLeafLength, entry_length, length_of, filler_of, filler_length, group_length}

abbrev pub length_in : Dictionary → Least → Key → ℕ
length_in d least = length_of d least.sends least.lengths.items

-- a length for each entry
abbrev pub IsWhole : Dictionary → Least → Type 0
IsWhole d least = length least.lengths.items ≡ length d.entries

-- if the entry is a group, its least level makes it no shorter than its length
abbrev pub IsSettledBy : Dictionary → Sends → Key → List ℕ → List Ranked → ℕ → Type 0
IsSettledBy d sends unknown lengths order e = (entry : DictEntry) (group : PlainDefinition) → slice_get d.entries e ≡ Some entry → entry.group ≡ Some group
    → entry_length lengths e ≤ group_length (length_of d sends lengths) (filler_length (filler_of sends unknown order group.rules)) entry.key group.rules

abbrev pub IsSettled : Dictionary → Least → List Ranked → ℕ → Type 0
IsSettled d least = IsSettledBy d least.sends least.unknown least.lengths.items

-- no AVP that the least count of these rules' wildcard is met with is shorter
abbrev pub IsFillerFloor : Dictionary → Sends → List ℕ → List DRule → ℕ → Type 0
IsFillerFloor d Any lengths rules n = n ≤ 8
IsFillerFloor d Known lengths rules n = (n ≤ too_long) × ((key : Key) → is_listed rules key ≡ false → n ≤ length_of d Known lengths key)
IsFillerFloor d Filled lengths rules n = n ≤ too_long
IsFillerFloor d Listed lengths rules n = n ≤ too_long

-- no group is shorter than its least level makes it
abbrev pub AreAbove : Dictionary → Sends → List ℕ → Type 0
AreAbove d sends lengths =
    (e : ℕ) (entry : DictEntry) (group : PlainDefinition) (filler : ℕ) → slice_get d.entries e ≡ Some entry → entry.group ≡ Some group → IsFillerFloor d sends lengths group.rules filler
    → group_length (length_of d sends lengths) filler entry.key group.rules ≤ entry_length lengths e

-- the AVPs are not shorter than these lengths
abbrev pub AreNoShorter : (Key → ℕ) → List Ranked → Type 0
AreNoShorter length order = All (λ r. length r.key ≤ r.length) order

abbrev pub total_length : Least → ℕ
total_length least = sum_by (λ n. n) least.lengths.items

-- some lengths are less than they were, or none is
pub record IsLess (d : Dictionary) (old new : Least) (changed : Bool) : Type 0 where
  pub sends : new.sends ≡ old.sends
  pub unknown : new.unknown ≡ old.unknown
  pub whole : IsWhole d new
  pub no_more : (e : ℕ) → entry_length new.lengths.items e ≤ entry_length old.lengths.items e
  pub heads : ((e : ℕ) → 8 ≤ entry_length old.lengths.items e) → (e : ℕ) → 8 ≤ entry_length new.lengths.items e
  pub total : total_length new ≤ total_length old
  pub less : changed ≡ true → total_length new < total_length old
  pub same : changed ≡ false → new.lengths.items ≡ old.lengths.items
  pub leaves : (e : ℕ) (entry : DictEntry) → slice_get d.entries e ≡ Some entry → entry.group ≡ None → entry_length new.lengths.items e ≡ entry_length old.lengths.items e
  pub above : AreAbove d old.sends old.lengths.items → AreAbove d new.sends new.lengths.items

-- no length is less than a head or more than the one that means none, those of leaves are exact, and those of groups are enough
pub record AreKept (d : Dictionary) (least : Least) : Type 0 where
  pub whole : IsWhole d least
  pub unknown : IsFirstUnknown d least.unknown
  pub within : (e : ℕ) → (8 ≤ entry_length least.lengths.items e) × (entry_length least.lengths.items e ≤ too_long)
  pub leaves : (e : ℕ) (entry : DictEntry) → slice_get d.entries e ≡ Some entry → entry.group ≡ None → IsLeafLength entry (entry_length least.lengths.items e)
  pub above : AreAbove d least.sends least.lengths.items

-- in some order no group can be made shorter
abbrev pub AreSettled : Dictionary → Least → Type 0
AreSettled d least = (order : List Ranked) × IsOrder (length_in d least) d.entries order × ((e : ℕ) → e < length d.entries → IsSettled d least order e)
