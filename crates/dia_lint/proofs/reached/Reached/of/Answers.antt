use Rattle.std.proofs.Common.{◌≡◌, ℕ, false, true, map, ap, subst, sym, ◌∙◌}
use Rattle.std.specs.Prelude.{IsSome}
use Rattle.dia_valid.proofs.Members.{at_some}
use Rattle.dia_breaking_ways.specs.declared.graph.Walk.{Walk}
use Rattle.dia_breaking_ways.specs.Walks.{AreLevelsShorter, Graph, IsWalk, graph_of, plain_node}
use Rattle.dia_lint.specs.Ways.{AreReachedBy, IsReached, side_of}
use Rattle.dia_lint.proofs.Fillers.{when_ok}
use Rattle.dia_lint.proofs.FoundWays.{graph_is}
use Rattle.dia_lint.proofs.WayGraphs.{levels_shorter}
use Rattle.dia_lint.proofs.reached.Reached.of.Goals as goal

pub returns-in-Some : goal.returns-in-Some
returns-in-Some g c =
    let s = side_of g.B.Book.meaning c.args.lengths.now in
    let start = c.in_ok-start.start in
    let walk = c.in-Some.walk in
    let graph = graph_is s c.deref.result.now start (ap (map plain_node) c.deref.ensures.value ∙ c.in_ok-nodes.ensures) c.in_ok-start.ensures in
    let found = at_some (λ (w : Walk). IsWalk (graph_of c.deref.result.now start 16777193) w.steps.items w.reached.items) c.in_ok-walk.field-0 walk c.in_ok-walk.ensures.ways c.in-Some.is in
    when_ok (AreReachedBy c.entries.result walk.steps.items walk.reached.items) (IsReached s) c.reached_by.result
    (λ r by. record {
      steps = walk.steps.items;
      reached = walk.reached.items;
      walk = subst (λ (x : Graph). IsWalk x walk.steps.items walk.reached.items) graph found;
      by_walk = subst (λ (n : ℕ). AreReachedBy n walk.steps.items walk.reached.items r) c.entries.ensures.count by;
    })
    c.reached_by.ensures

pub returns : goal.returns
returns g c =
    let s = side_of g.B.Book.meaning c.args.lengths.now in
    let start = c.in_ok-start.start in
    let graph = graph_is s c.deref.result.now start (ap (map plain_node) c.deref.ensures.value ∙ c.in_ok-nodes.ensures) c.in_ok-start.ensures in
    let found = c.in_ok-walk.ensures.found (subst AreLevelsShorter (sym graph) (levels_shorter s c.requires)) in
    absurd (let bad : false ≡ true = subst IsSome c.in-None.is found in cc)
