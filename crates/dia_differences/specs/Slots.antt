-- The place of a slot's rule.
use Rattle.std.specs.Prelude.{ℕ, Option, Some, None}
use Rattle.dia_book.specs.declared.definition.Slot.{Slot}
use Rattle.dia_book.specs.declared.definition.Slot.TheVariants as slot

abbrev pub slot_place : Slot → Option ℕ
slot_place (slot.Fixed i) = Some i
slot_place (slot.Loose i) = Some i
slot_place slot.Unlisted = None
