-- The order in which a definition wants keys, by the slots of its rules (RFC 6733 section 3.2).
use Rattle.std.specs.Prelude.{◌≡◌, ◌⊎◌, ℕ, List, length, Option, Some}
use Rattle.dia_wire.specs.declared.Key.{Key}
use Rattle.dia_book.specs.declared.DRule.{DRule}
use Rattle.dia_book.specs.declared.Slot.{Slot}
use Rattle.dia_book.specs.declared.Slot.TheVariants.{Fixed, Loose, Unlisted}
use Rattle.dia_book.specs.Dictionary.{slot_of}

abbrev pub place_of : ℕ → Slot → ℕ
place_of last (Fixed i) = i
place_of last (Loose i) = last
place_of last Unlisted = last

-- the place of the key's fixed rule, or one after them all
abbrev pub place : List DRule → Key → ℕ
place rules key = place_of (length rules) (slot_of rules key)

abbrev pub index_of : ℕ → Slot → ℕ
index_of last (Fixed i) = i
index_of last (Loose i) = i
index_of last Unlisted = last

-- the place of the key's rule, or one after them all
abbrev pub index : List DRule → Key → ℕ
index rules key = index_of (length rules) (slot_of rules key)

-- the key's fixed rule is at this place, or it has none
abbrev pub IsAtOrLast : List DRule → ℕ → Option Key → Type 0
IsAtOrLast rules at key = (y : Key) → key ≡ Some y → (place rules y ≡ at) ⊎ (place rules y ≡ length rules)
