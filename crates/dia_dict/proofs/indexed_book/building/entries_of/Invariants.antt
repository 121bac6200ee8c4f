use Rattle.std.proofs.Common.{◌≡◌}
use Rattle.indexmap.specs.IndexMap.{get}
use Rattle.dia_wire.specs.declared.Key.{Key}
use Rattle.dia_book.specs.Keys.{same_key}
use Rattle.dia_dict.proofs.Indexing.Filling.{row_given}
use Rattle.dia_dict.proofs.indexed_book.building.entries_of.Given as goal

abbrev pub invariant-loop-index : goal.invariant-loop-index
invariant-loop-index l = (key : Key) → get same_key l.entries key ≡ row_given l.rows l.index key
