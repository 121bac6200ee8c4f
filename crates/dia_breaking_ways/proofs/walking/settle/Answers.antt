use Rattle.std.proofs.Common.{◌≡◌, List, false, true, sym, subst, ◌∙◌, arith}
use Rattle.dia_breaking_ways.specs.declared.graph.Step.{Step}
use Rattle.dia_breaking_ways.specs.Rounds.{IsRound}
use Rattle.dia_breaking_ways.specs.Stages.{graph_in}
use Rattle.dia_breaking_ways.proofs.Rounds.{begins, goes_on, round_levels, steps_decide}
use Rattle.dia_breaking_ways.proofs.walking.settle.Goals.{else-loop-test, then-loop-test+in_ok-walk+in-Some+else-eq+else-counter-end}
use Rattle.dia_breaking_ways.proofs.walking.settle.Goals as goal

pub loop-init : goal.loop-init
loop-init c = (c.requires.levels, λ shorter. begins (graph_in c.args.ways) shorter c.args.rough.items c.requires.within)

pub returns-then-eq-clause-stay : goal.returns-then-eq-clause-stay
returns-then-eq-clause-stay c =
    let g = graph_in c.args.ways in
    let walk = c.in-Some.walk in
    let same = (steps_decide walk.steps.items c.loop.steps.items c.eq.result c.eq.ensures).0 c.if-eq.true in
    let round = rw c.in-Some.is at c.in_ok-walk.ensures.ways in
    subst (λ (steps : List Step). IsRound g steps walk.reached.items walk.steps.items) (c.deref.ensures.value ∙ sym same) round

pub loop-preserved : goal.loop-preserved
loop-preserved c =
    let g = graph_in c.args.ways in
    let walk = c.in-Some.walk in
    let steps = c.loop.steps.items in
    let next = walk.steps.items in
    let round = subst (λ (from : List Step). IsRound g from walk.reached.items next) c.deref.ensures.value (rw c.in-Some.is at c.in_ok-walk.ensures.ways) in (
      round_levels g steps next walk.reached.items round,
      λ shorter. goes_on g shorter c.loop.counter steps next walk.reached.items (c.loop.invariant.1 shorter) round (λ e.
          let bad : false ≡ true = sym c.if-eq.false ∙ (steps_decide next steps c.eq.result c.eq.ensures).1 e in
          absurd (cc)),
    )

pub returns-clause-found : goal.returns-clause-found
returns-clause-found c = λ shorter.
    let g = graph_in c.args.ways in
    let steps = c.loop.steps.items in
    let way = c.loop.invariant.1 shorter in
    let over = way.not_over in
    elim c.loop-test.branch [
      | else-loop-test w ↦ absurd (omega (arith, over, w.loop-test.false, c.loop.auto.counter-end))
      | then-loop-test+in_ok-walk+in-Some+else-eq+else-counter-end w ↦
          let walk = w.in-Some.walk in
          let next = walk.steps.items in
          let round = subst (λ (from : List Step). IsRound g from walk.reached.items next) w.deref.ensures.value (rw w.in-Some.is at w.in_ok-walk.ensures.ways) in
          let more = goes_on g shorter c.loop.counter steps next walk.reached.items way round (λ e.
          let bad : false ≡ true = sym w.if-eq.false ∙ (steps_decide next steps w.eq.result w.eq.ensures).1 e in
          absurd (cc)) in
          let past = more.not_over in
          absurd (omega (arith, past, c.loop.auto.counter-end))
    ]
