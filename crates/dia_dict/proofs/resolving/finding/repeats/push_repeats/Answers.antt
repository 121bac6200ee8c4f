use Rattle.std.proofs.Common.{◌++◌, List, [], map, Some, ap, ◌∙◌}
use Rattle.std.proofs.lemmas.List.{take_all}
use Rattle.dia_dict.specs.declared.resolving.finding.repeats.Keyed.{Keyed}
use Rattle.dia_dict.specs.Resolution.{finding, repeats}
use Rattle.dia_dict.specs.SourceChecks.{recorded, plain_finding}
use Rattle.dia_dict.proofs.RepeatsRecorded.{AreFound-more}
use Rattle.dia_dict.proofs.resolving.finding.repeats.push_repeats.Goals as goal

pub loop-item-preserved : goal.loop-item-preserved
loop-item-preserved g c =
    let was = c.deref_mut.ensures.value in
    AreFound-more (λ i. i.key) (λ i. i.part) (λ i first. finding (recorded i.recorded) i.part (Some first)) g.T.PartialEq.eq g.met.T.Eq.laws
    _ _ _ c.args.items.now _ _ c.loop-item.item-index c.item-item.result
    c.loop-item.invariant c.loop-item-test.true c.item-item.is (rw was at c.in_ok-push_repeat.ensures.findings) (rw was at c.in_ok-push_repeat.ensures.parts)

pub returns : goal.returns
returns g c =
    c.loop-item.invariant.all
    ∙ ap (λ (is : List (Keyed g.row.T.Denot)). map plain_finding c.args.findings.now.items
    ++ map (λ (p : Keyed g.row.T.Denot × Keyed g.row.T.Denot). finding (recorded p.0.recorded) p.0.part (Some p.1.part)) (repeats (λ a b. g.T.PartialEq.eq a.key b.key) [] is))
    (take_all c.loop-item.item-index c.args.items.now c.loop-item-test.false)
