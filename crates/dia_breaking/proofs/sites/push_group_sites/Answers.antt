use Rattle.std.proofs.Common.{arith}
use Rattle.std.proofs.lemmas.Option.{slice_get-get_or}
use Rattle.std.specs.Option.{option_map}
use Rattle.std.specs.Prelude.{slice_get}
use Rattle.dia_breaking_ways.specs.declared.graph.Step.{Step}
use Rattle.dia_breaking.specs.declared.own_breaks.OwnBreaks.{OwnBreaks}
use Rattle.dia_breaking.specs.Sites.{group_site}
use Rattle.dia_breaking.proofs.RecordedLists.{added_after}
use Rattle.dia_breaking.proofs.sites.push_group_sites.Goals as goal

pub loop-step-preserved : goal.loop-step-preserved
loop-step-preserved c =
    let own = c.args.own.now in
    let steps = c.args.steps.now in
    let i = c.loop-step.step-index in
    let f = λ (step : Step). option_map (λ (one : OwnBreaks). group_site c.args.numbers.first c.args.numbers.count step one.key) (slice_get own step.place) in
    added_after f steps i _ c.args.sites.now.items c.loop-step.sites.items c.push_group_site.new.sites.items c.in_ok-push_group_site.ensures c.loop-step.invariant
    (slice_get-get_or steps i _ (omega arith))
