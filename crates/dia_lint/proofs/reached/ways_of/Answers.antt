use Rattle.std.proofs.Common.{◌≡◌, length, get_or, Some, false, refl, sym, ap, ◌∙◌, arith}
use Rattle.std.specs.Prelude.{List, slice_get}
use Rattle.std.proofs.lemmas.Option.{slice_get-get_or}
use Rattle.dia_breaking_ways.specs.declared.graph.Step.{Step}
use Rattle.dia_lint.proofs.FoundWays.{no_step_more, one_step_more}
use Rattle.dia_lint.proofs.reached.ways_of.Goals.{then-step-len, else-step-len}
use Rattle.dia_lint.proofs.reached.ways_of.Goals as goal

pub loop-step-preserved : goal.loop-step-preserved
loop-step-preserved c =
    let nodes = length c.args.walk.now.reached.items in
    let steps = c.args.walk.now.steps.items in
    let i = c.loop-step.step-index in
    let ways = c.loop-step.ways.items in
    let none : Step = record { place = 0; way = 0; wild = false; outer = 0 } in
    let step = get_or c.deref-step-items.result.now i none in
    let at : slice_get steps i ≡ Some step =
    ap (λ (xs : List Step). slice_get xs i) (sym c.deref-step-items.ensures.value) ∙ slice_get-get_or c.deref-step-items.result.now i none (omega (arith, c.loop-step-test.true)) in
    elim c.if-step-len.branch [
      | then-step-len w ↦ rw w.ways-is (one_step_more nodes steps i step ways _ step.place c.loop-step.invariant at refl (omega (arith, w.if-step-len.true, c.len-in-loop-step.ensures)) refl)
      | else-step-len w ↦ rw w.ways-is (no_step_more nodes steps i step ways c.loop-step.invariant at (omega (arith, w.if-step-len.false, c.len-in-loop-step.ensures)))
    ]
