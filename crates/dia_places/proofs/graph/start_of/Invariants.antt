use Rattle.std.proofs.Common.{◌≡◌, length}
use Rattle.dia_book.specs.Dictionary.{groups}
use Rattle.dia_places.specs.Graph.{commands_from}
use Rattle.dia_places.proofs.graph.start_of.Given as goal

abbrev pub invariant-loop-index : goal.invariant-loop-index
invariant-loop-index g l = l.listed.items ≡ commands_from (length (groups (g.B.Book.meaning l.book))) l.index
