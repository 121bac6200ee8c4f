use Rattle.std.proofs.Common.{◌≡◌, true, None}
use Rattle.dia_mask.specs.Choosing.{IsChoiceOf, masked_by_format, masks}
use Rattle.dia_mask_text.specs.Names.{Lists, masks_entry, masks_unknown}
use Rattle.dia_mask_text.specs.Naming.{AreNameLists}
use Rattle.dia_mask_text.proofs.Chosen.{AreFirst, AreLeft}
use Rattle.dia_mask_text.proofs.choosing.NameLists.choice.Given as goal

abbrev pub invariant-loop-index : goal.invariant-loop-index
invariant-loop-index g l = record {
  size : IsChoiceOf (g.B.Book.meaning l.book) l.choice;
  first : (lists : Lists) → AreNameLists lists l.self → AreFirst (masks_entry lists) (masks_unknown lists) (g.B.Book.meaning l.book) l.choice l.index;
  left : AreLeft masked_by_format true (g.B.Book.meaning l.book) l.choice l.index;
  unknown : masks l.choice None ≡ true;
}
