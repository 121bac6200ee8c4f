use Rattle.std.proofs.Common.{◌++◌, map, ap, sym, ◌∙◌, arith}
use Rattle.std.proofs.lemmas.List.{append-nil, take_all}
use Rattle.dia_breaking_ways.specs.Walks.{plain_node}
use Rattle.dia_lint.specs.Ways.{command_node, side_of}
use Rattle.dia_lint.proofs.FoundWays.{command_at_place, one_node_more}
use Rattle.dia_lint.proofs.reached.push_commands.Goals as goal

pub loop-index-init : goal.loop-index-init
loop-index-init g c = sym (append-nil (map plain_node c.args.nodes.now.items))

pub loop-index-preserved : goal.loop-index-preserved
loop-index-preserved g c =
    let s = side_of g.B.Book.meaning c.args.lengths.now in
    let d = g.B.Book.meaning c.args.lengths.now.book.now in
    one_node_more plain_node (command_node s) d.commands c.loop-index.index c.in_ok-command_node.field-0 (map plain_node c.args.nodes.now.items) c.loop-index.nodes.items _
    (omega (arith, c.loop-index-test.true, c.commands-index-end.ensures)) c.in_ok-push.ensures.items
    (command_at_place s c.loop-index.index c.command_at.result (plain_node c.in_ok-command_node.field-0) c.command_at.ensures.number (omega (arith, c.loop-index-test.true, c.commands-index-end.ensures))
    c.in_ok-command_node.ensures)
    c.loop-index.invariant

pub returns : goal.returns
returns g c =
    let d = g.B.Book.meaning c.args.lengths.now.book.now in
    c.loop-index.invariant
    ∙ ap (λ xs. map plain_node c.args.nodes.now.items ++ map (command_node (side_of g.B.Book.meaning c.args.lengths.now)) xs)
    (take_all c.loop-index.index d.commands (omega (arith, c.loop-index-test.false, c.commands-index-end.ensures)))
