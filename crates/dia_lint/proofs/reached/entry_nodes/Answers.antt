use Rattle.std.proofs.Common.{◌≡◌, [], ℕ, map, ap, subst, ◌∙◌, arith}
use Rattle.std.specs.Prelude.{IfSome, slice_get}
use Rattle.std.proofs.lemmas.List.{take_all}
use Rattle.dia_breaking_ways.specs.Walks.{plain_node}
use Rattle.dia_lint.specs.Ways.{entry_node, side_of}
use Rattle.dia_lint.proofs.FoundWays.{one_node_more}
use Rattle.dia_lint.proofs.reached.entry_nodes.Goals as goal

pub loop-index-preserved : goal.loop-index-preserved
loop-index-preserved g c =
    let s = side_of g.B.Book.meaning c.args.lengths.now in
    let d = g.B.Book.meaning c.args.lengths.now.book.now in
    one_node_more plain_node (entry_node s) d.entries c.loop-index.index c.in_ok-entry_node.field-0 [] c.loop-index.nodes.items _
    (omega (arith, c.loop-index-test.true, c.entries-index-end.ensures.count)) c.in_ok-push.ensures.items
    (subst (λ (e : ℕ). IfSome (slice_get d.entries e) (λ x. plain_node c.in_ok-entry_node.field-0 ≡ entry_node s x)) c.entry_at.ensures c.in_ok-entry_node.ensures) c.loop-index.invariant

pub returns : goal.returns
returns g c =
    let d = g.B.Book.meaning c.args.lengths.now.book.now in
    c.loop-index.invariant ∙ ap (map (entry_node (side_of g.B.Book.meaning c.args.lengths.now))) (take_all c.loop-index.index d.entries (omega (arith, c.loop-index-test.false, c.entries-index-end.ensures.count)))
