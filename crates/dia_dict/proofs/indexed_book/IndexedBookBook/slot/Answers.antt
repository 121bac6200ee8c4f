use Rattle.std.proofs.Common.{◌≡◌, ap, sym, ◌∙◌, subst, arith, unwrap_or}
use Rattle.std.specs.Prelude.{IfSome, slice_get}
use Rattle.dia_book.specs.Dictionary.{definitions, slot_of}
use Rattle.dia_book.specs.declared.Slot.{Slot}
use Rattle.dia_book.specs.declared.Slot.TheVariants.{Unlisted}
use Rattle.dia_dict.proofs.BookRows.{held, length-definitions-held}
use Rattle.dia_dict.proofs.Indexing.Slots.{length-slots, slot-found}
use Rattle.dia_dict.proofs.indexed_book.IndexedBookBook.slot.Goals as goal

pub index-requires-2 : goal.index-requires-2
index-requires-2 c =
    let b = c.args.self.now in
    let rows = b.book.entries.rows.items in
    let groups = b.book.entries.groups.items in
    let commands = b.book.commands.items in
    let numbered = b.book.entries.numbered in
    omega (arith, c.requires, c.index.ensures, length-slots rows groups commands numbered b.slots.items b.slotted, length-definitions-held rows groups commands numbered)

pub returns : goal.returns
returns c =
    let b = c.args.self.now in
    let rows = b.book.entries.rows.items in
    let groups = b.book.entries.groups.items in
    let commands = b.book.commands.items in
    let found = c.unwrap_or.ensures ∙ ap (λ o. unwrap_or o Unlisted) c.get.ensures in
    subst (λ (slot : Slot). IfSome (slice_get (definitions (held rows groups commands)) c.args.def) (λ d. slot ≡ slot_of d.rules c.args.key)) (sym found)
    (slot-found rows groups commands b.book.entries.numbered b.slots.items b.slotted c.args.def c.index.result c.index-2.result.now c.index.ensures c.requires c.index-2.ensures c.args.key)
