use Rattle.std.proofs.Common.{arith, get_or, ap, sym, ◌∙◌, ◌≡◌, true, false}
use Rattle.std.specs.Prelude.{is_some}
use Rattle.std.proofs.lemmas.Option.{slice_get-get_or}
use Rattle.dia_breaking_ways.specs.declared.graph.Step.{Step}
use Rattle.dia_breaking_ways.specs.Stages.{graph_in}
use Rattle.dia_breaking_ways.proofs.ListedPlaces.{stages_none, stages_more}
use Rattle.dia_breaking_ways.proofs.stages.stages.Goals as goal

pub loop-step-init : goal.loop-step-init
loop-step-init c =
    rw c.in_ok-push.ensures.items (rw c.new-stages.ensures.items (stages_none (graph_in c.args.ways) c.args.steps.now c.in_ok-new.field-0 c.in_ok-new.ensures))

pub loop-step-preserved : goal.loop-step-preserved
loop-step-preserved c =
    let g = graph_in c.args.ways in
    let steps = c.args.steps.now in
    let i = c.loop-step.step-index in
    let none : Step = record { place = 0; way = 0; wild = false; outer = 0 } in
    let s : Step = get_or steps i none in
    let at = slice_get-get_or steps i none (omega arith) in
    rw c.in_ok-push-2.ensures.items (stages_more g steps i c.loop-step.stages.items s c.in-Some.stage c.loop-step.invariant at (rw c.in-Some.is at c.in_ok-stage.ensures.stage))

pub returns-in_default-clause-found : goal.returns-in_default-clause-found
returns-in_default-clause-found c = λ have.
    let g = graph_in c.args.ways in
    let steps = c.args.steps.now in
    let i = c.loop-step.step-index in
    let none : Step = record { place = 0; way = 0; wild = false; outer = 0 } in
    let s : Step = get_or steps i none in
    let at = slice_get-get_or steps i none (omega arith) in
    let missing = c.in_ok-stage.ensures.found c.in_default.is in
    let bad : false ≡ true = sym (ap (λ o. is_some o) missing) ∙ have i s at in
    absurd (cc)
