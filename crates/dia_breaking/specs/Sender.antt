-- The sender's side: its dictionary, and what its AVPs take.
use Rattle.dia_book.specs.Dictionary.{Dictionary}
use Rattle.dia_book.specs.declared.book.Book.{Ghosts as Reads}
use Rattle.dia_breaking.specs.declared.lengths.Lengths.{Lengths}
use Rattle.dia_breaking.specs.declared.lengths.LevelLengths.{LevelLengths}
use Rattle.dia_breaking.specs.Lengths.{Costs, Prices, costs_by, prices_where}

module _ {A : Type 0} {a : Reads A} where
  abbrev pub sender_in : Lengths A a → Dictionary
  sender_in lengths = a.meaning lengths.book.now

  abbrev pub costs_of : Lengths A a → Costs
  costs_of lengths = costs_by (sender_in lengths) lengths.sends lengths.entries.items lengths.others.items

  -- in the levels of a definition
  abbrev pub prices_of : LevelLengths A a → Prices
  prices_of level = prices_where level.is_open (costs_of level.lengths.now)
