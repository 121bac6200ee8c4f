use Rattle.std.proofs.Common.{arith}
use Rattle.dia_breaking_ways.specs.Walks.{plain_exits}
use Rattle.dia_lint.specs.Ways.{side_of}
use Rattle.dia_lint.proofs.FoundWays.{level_found}
use Rattle.dia_lint.proofs.reached.entry_node.Goals as goal

pub returns : goal.returns
returns g c =
    level_found (side_of g.B.Book.meaning c.args.lengths.now) c.args.entry c.in-Some.def c.entry_key-key.result c.other-other.result _ c.shortest_head.result c.group_of.result
    (plain_exits c.in_ok-exits.exits) c.entry_key-key.ensures c.other-other.ensures c.group_of.ensures.place c.in-Some.is (omega (arith, c.saturating_sub-least.ensures, c.key.ensures))
    c.shortest_head.ensures c.in_ok-exits.ensures
