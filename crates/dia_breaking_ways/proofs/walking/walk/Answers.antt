use Rattle.std.proofs.Common.{Bool, List, length, subst}
use Rattle.std.specs.Prelude.{MatchBool}
use Rattle.dia_breaking_ways.specs.declared.graph.Step.{Step}
use Rattle.dia_breaking_ways.specs.Steps.{AreOuterFirst}
use Rattle.dia_breaking_ways.specs.Walks.{graph_of}
use Rattle.dia_breaking_ways.proofs.Rounds.{outer_first}
use Rattle.dia_breaking_ways.proofs.walking.walk.Goals as goal

pub returns-clause-found : goal.returns-clause-found
returns-clause-found c = λ shorter.
    let g = graph_of c.args.nodes.now c.args.start.now c.args.room in
    let walk = c.in-Some.walk in
    let outer = outer_first g shorter walk.steps.items walk.reached.items (rw c.in-Some.is at c.in_ok-walk.ensures.stay) in
    let own = c.deref-2.result.now in
    let not = subst (λ (b : Bool). MatchBool b (AreOuterFirst own (length own)) (¬ AreOuterFirst own (length own))) c.if-are_outer_first.false c.are_outer_first.ensures in
    absurd (subst (λ (steps : List Step). ¬ AreOuterFirst steps (length steps)) c.deref-2.ensures.value not outer)
