use Rattle.std.proofs.Common.{◌≡◌, map, take}
use Rattle.dia_book.specs.Dictionary.{definitions}
use Rattle.dia_breaking_ways.specs.Walks.{plain_node}
use Rattle.dia_places.specs.Graph.{node_by}
use Rattle.dia_places.proofs.graph.nodes_of.Given as goal

abbrev pub invariant-loop-number : goal.invariant-loop-number
invariant-loop-number g l = map plain_node l.nodes.items ≡ map (node_by (g.B.Book.meaning l.book)) (take l.number (definitions (g.B.Book.meaning l.book)))
