use Rattle.std.proofs.Common.{◌++◌, List, map, ap, ◌∙◌}
use Rattle.dia_breaking_ways.specs.Walks.{PlainNode}
use Rattle.dia_lint.specs.Ways.{command_node, side_of}
use Rattle.dia_lint.proofs.reached.nodes.Goals as goal

pub returns : goal.returns
returns g c =
    let d = g.B.Book.meaning c.args.lengths.now.book.now in
    c.in_ok-push_commands.ensures ∙ ap (λ (xs : List PlainNode). xs ++ map (command_node (side_of g.B.Book.meaning c.args.lengths.now)) d.commands) c.in_ok-nodes.ensures
