use Rattle.std.proofs.Common.{Option, subst}
use Rattle.dia_breaking_ways.specs.declared.graph.Step.{Step}
use Rattle.dia_breaking_ways.specs.Stages.{graph_in}
use Rattle.dia_breaking_ways.specs.Steps.{IsStepAt}
use Rattle.dia_breaking_ways.proofs.WalkSteps.{steps_more, steps_past}
use Rattle.dia_breaking_ways.proofs.steps.unordered.Goals.{in-Some+in_ok-push, in_default}
use Rattle.dia_breaking_ways.proofs.steps.unordered.Goals as goal

pub loop-place-preserved : goal.loop-place-preserved
loop-place-preserved c =
    let g = graph_in c.args.ways in
    let reached = c.args.reached.now in
    let n = c.loop-place.place in
    elim c.match-step_at.branch [
      | in-Some+in_ok-push w ↦
          let at = subst (λ (o : Option Step). IsStepAt g reached n o) w.in-Some.is c.step_at.ensures in
          rw w.steps-is (rw w.in_ok-push.ensures.items (steps_more g reached n c.loop-place.steps.items w.in-Some.step c.loop-place.invariant at.0 at.1))
      | in_default w ↦
          let at = subst (λ (o : Option Step). IsStepAt g reached n o) w.in_default.is c.step_at.ensures in
          rw w.steps-is (steps_past g reached n c.loop-place.steps.items c.loop-place.invariant at)
    ]
