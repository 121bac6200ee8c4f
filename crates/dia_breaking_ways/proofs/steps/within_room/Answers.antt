use Rattle.std.proofs.Common.{◌≡◌, get_or, Option, Some, None, refl, sym, ◌∙◌, true, false}
use Rattle.std.specs.Prelude.{IsSome, is_some, option_map}
use Rattle.std.proofs.lemmas.Option.{none-some}
use Rattle.dia_breaking_ways.specs.declared.graph.Step.{Step}
use Rattle.dia_breaking_ways.specs.Stages.{graph_in}
use Rattle.dia_breaking_ways.specs.Walks.{level_of, plain_level}
use Rattle.dia_breaking_ways.proofs.WalkSteps.{levels_more, within_more}
use Rattle.dia_breaking_ways.proofs.steps.within_room.Goals.{then-step-gt0+then-step-ways+then-is_some+in_ok-push, else-step-gt0}
use Rattle.dia_breaking_ways.proofs.steps.within_room.Goals as goal

mapped_some : {A B : Type 0} (o : Option A) (f : A → B) → is_some o ≡ true → IsSome (option_map f o)
mapped_some None f e = e
mapped_some (Some x) f e = refl

pub loop-step-init : goal.loop-step-init
loop-step-init c = rw c.new-steps.ensures.items (λ i s e. absurd (none-some s e), λ i s e. absurd (none-some s e))

pub loop-step-preserved : goal.loop-step-preserved
loop-step-preserved c =
    let g = graph_in c.args.ways in
    let none : Step = record { place = 0; way = 0; wild = false; outer = 0 } in
    let step = get_or c.args.rough.now c.loop-step.step-index none in
    let steps = c.loop-step.steps.items in
    elim c.if-step-gt0.branch [
      | then-step-gt0+then-step-ways+then-is_some+in_ok-push w ↦
          let level : IsSome (level_of g step.place) = rw (← w.level_at.ensures) (mapped_some w.level_at.result (λ level. plain_level level.now) (sym w.is_some.ensures ∙ w.if-is_some.true)) in
          rw w.steps-is (rw w.in_ok-push.ensures.items (
            levels_more g steps step c.loop-step.invariant.0 level,
            within_more g steps step c.loop-step.invariant.1 w.if-step-gt0.true w.if-step-ways.true,
          ))
      | else-step-gt0 w ↦ rw w.steps-is c.loop-step.invariant
    ]
