use Rattle.std.proofs.Common.{List, length, subst}
use Rattle.dia_breaking_ways.specs.declared.stages.Stage.{Stage as OwnStage}
use Rattle.dia_breaking_ways.specs.declared.openings.Opening.{Opening}
use Rattle.dia_breaking_ways.specs.Openings.{AreOpenings}
use Rattle.dia_breaking_ways.specs.Reached.{AreListed, AreOthers}
use Rattle.dia_breaking_ways.proofs.AllReached.{all_shortest}
use Rattle.dia_breaking_ways.proofs.reach.shortest_ways.Goals as goal

pub returns-clause-ways : goal.returns-clause-ways
returns-clause-ways c =
    let nodes = c.args.ways.nodes.now in
    let room = c.args.ways.room in
    let stages = c.in-Some.stages.items in
    let openings = c.in_ok-openings.openings.items in
    let first = c.in_ok-best.best.items in
    let listed = c.reach_listed.new.best.items in
    let best = c.reach_others.new.best.items in
    let st = rw c.in-Some.is at c.in_ok-stages.ensures.stages in
    let op = subst (λ (x : List OwnStage). AreOpenings room x (length x) openings) c.deref.ensures.value c.in_ok-openings.ensures.openings in
    let up = c.in_ok-openings.ensures.ordered in
    let li = subst (λ (x : List OwnStage). AreListed room x (length x) first listed) c.deref-2.ensures.value c.reach_listed.ensures in
    let by = subst (λ (x : List OwnStage). AreOthers room nodes x c.deref-4.result.now (length nodes) listed best) c.deref-3.ensures.value c.reach_others.ensures in
    let ot = subst (λ (x : List Opening). AreOthers room nodes stages x (length nodes) listed best) c.deref-4.ensures.value by in
    all_shortest nodes c.args.ways.start.now room c.args.steps.now stages openings first listed best st op up c.in_ok-best.ensures li ot
