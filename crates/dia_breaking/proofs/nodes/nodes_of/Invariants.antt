use Rattle.std.proofs.Common.{◌≡◌, map, take}
use Rattle.dia_breaking_ways.specs.Walks.{plain_node}
use Rattle.dia_breaking.specs.Nodes.{node_in}
use Rattle.dia_breaking.proofs.nodes.nodes_of.Given as goal

abbrev pub invariant-loop-outlook : goal.invariant-loop-outlook
invariant-loop-outlook l = map plain_node l.nodes.items ≡ map node_in (take l.outlook-index l.outlooks)
