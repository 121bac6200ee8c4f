use Rattle.std.proofs.Common.{List, ◌++◌, take}
use Rattle.dia_dict.specs.Indexed.{AreSlotsOfEach}
use Rattle.dia_book.specs.declared.Definition.{Definition}
use Rattle.dia_dict.proofs.indexed_book.building.push_slots.Given as goal

abbrev pub invariant-loop-definition : goal.invariant-loop-definition
invariant-loop-definition l = (ds : List Definition) → AreSlotsOfEach l.initial.all.items ds → AreSlotsOfEach l.all.items (ds ++ take l.definition-index l.definitions)
