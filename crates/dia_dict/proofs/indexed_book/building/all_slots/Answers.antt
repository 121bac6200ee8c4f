use Rattle.std.proofs.Common.{List, [], sym, subst}
use Rattle.dia_dict.specs.Indexed.{AreSlotsOfEach}
use Rattle.dia_dict.proofs.Indexing.Slots.{SlotMap, AreSlotsOfEach-none}
use Rattle.dia_dict.proofs.indexed_book.building.all_slots.Goals as goal

pub returns : goal.returns
returns c =
    let empty = subst (λ (maps : List SlotMap). AreSlotsOfEach maps []) (sym c.in_ok-all.ensures.items) AreSlotsOfEach-none in
    c.in_ok-push_slots-2.ensures c.args.groups.now (c.in_ok-push_slots.ensures [] empty)
