-- What an upgrade knows.
use Rattle.std.specs.Prelude.{ℕ, List}
use Rattle.dia_wire.specs.declared.Key.{Key}
use Rattle.dia_book.specs.declared.book.Book.{Ghosts as Reads}
use Rattle.dia_breaking.specs.declared.upgrade.Upgrade.{Upgrade}
use Rattle.dia_breaking.specs.declared.start.Start.{Start}
use Rattle.dia_breaking.specs.declared.line.Line.{Line}
use Rattle.dia_breaking.specs.declared.sites.Numbers.{Numbers}
use Rattle.dia_breaking_ways.specs.declared.graph.Walk.{Walk}
use Rattle.dia_breaking.specs.Lengths.{Costs}
use Rattle.dia_breaking.specs.Listing.{Basis, Recorded, basis_of, lines_of}
use Rattle.dia_breaking.specs.Messages.{Stock, stock}
use Rattle.dia_breaking.specs.OwnBreaks.{HaveDataBreaks, KeepsData}
use Rattle.dia_breaking.specs.Sender.{costs_of, sender_in}
use Rattle.dia_breaking.specs.Sides.{Sides, sides}
use Rattle.dia_breaking.specs.TheLines.{Facts, facts_by}

module _ {A B : Type 0} {a : Reads A} {b : Reads B} where
  -- the books of the two sides
  abbrev pub sender_of : Upgrade A B a b → A
  sender_of up = up.lengths.book.now

  abbrev pub receiver_of : Upgrade A B a b → B
  receiver_of up = up.b.now

  abbrev pub sides_of : Upgrade A B a b → Sides
  sides_of up = sides (sender_in up.lengths) (b.meaning up.b.now) up.lengths.sends up.unknown

  -- what messages are made of
  abbrev pub stock_of : Upgrade A B a b → Stock
  stock_of up = stock up.lengths.least (costs_of up.lengths)

  -- what AVPs and levels of A take
  abbrev pub costs_in : Upgrade A B a b → Costs
  costs_in up = costs_of up.lengths

  -- what an AVP of a key takes where a wildcard lets it in
  abbrev pub other_length_of : Upgrade A B a b → Key → ℕ
  other_length_of up = (costs_of up.lengths).other

  -- what the sites and the lines of a command are made of, from this start
  abbrev pub basis_for : Upgrade A B a b → Start → Basis
  basis_for up start = basis_of start up.own.items up.outlooks.items

  abbrev pub facts_of : Upgrade A B a b → Facts
  facts_of up = facts_by up.lengths.entries.items up.lengths.others.items up.recording.value up.outlooks.items up.own.items

  -- where the old lines report data that break, the new ones do, if all is as it was
  abbrev pub KeepsIfKnown : Upgrade A B a b → List Line → List Line → Type 0
  KeepsIfKnown up old new = HaveDataBreaks (sides_of up) up.lengths.least up.lengths.entries.items up.own.items → KeepsData (sides_of up) old new

  -- the lines that a walk finds from this start
  abbrev pub lines_for : Upgrade A B a b → Start → Numbers → Walk → List Recorded
  lines_for up start numbers walk = lines_of (b.meaning up.b.now) (basis_for up start) numbers walk.steps.items walk.reached.items
