use Rattle.std.proofs.Common.{ℕ, map, ap, ◌∙◌, arith}
use Rattle.dia_breaking_ways.specs.Walks.{plain_node}
use Rattle.dia_places.specs.Graph.{node_with}
use Rattle.dia_places.specs.Paths.{rules_at}
use Rattle.dia_places.proofs.Loops.{more_nodes}
use Rattle.dia_places.proofs.Numbers.{small}
use Rattle.dia_places.proofs.graph.nodes_of.Goals as goal

pub new-requires : goal.new-requires
new-requires g c = omega (arith, small (g.B.Book.meaning c.args.book.now) (g.met.B.Book.sound c.args.book.now), c.count_of-number-end.ensures, c.loop-number-test.true)

pub loop-number-preserved : goal.loop-number-preserved
loop-number-preserved g c =
    let d = g.B.Book.meaning c.args.book.now in
    ap (map plain_node) c.in_ok-push.ensures.items
    ∙ more_nodes d c.loop-number.number c.loop-number.nodes.items c.in_ok-node_of.field-0 (omega (arith, c.count_of-number-end.ensures, c.loop-number-test.true))
    (c.in_ok-node_of.ensures ∙ ap (λ (n : ℕ). node_with d (rules_at d n)) c.new.ensures) c.loop-number.invariant
