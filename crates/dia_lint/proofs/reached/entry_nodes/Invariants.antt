use Rattle.std.proofs.Common.{◌≡◌, map, take}
use Rattle.dia_breaking_ways.specs.Walks.{plain_node}
use Rattle.dia_lint.specs.Ways.{entry_node, side_of}
use Rattle.dia_lint.proofs.reached.entry_nodes.Given as goal

abbrev pub invariant-loop-index : goal.invariant-loop-index
invariant-loop-index g l = map plain_node l.nodes.items ≡ map (entry_node (side_of g.B.Book.meaning l.lengths)) (take l.index (g.B.Book.meaning l.lengths.book.now).entries)
