use Rattle.std.proofs.Common.{◌++◌, List, map, filter, ap, ◌∙◌}
use Rattle.std.proofs.lemmas.List.{take_all}
use Rattle.dia_ccf.specs.Plain.{PlainDef, plain_source}
use Rattle.dia_dict.specs.declared.findings.Part.{Part}
use Rattle.dia_dict.specs.Resolution.{mismatch_of, is_mismatched}
use Rattle.dia_dict.specs.SourceChecks.{plain_finding, placed_def}
use Rattle.dia_dict.proofs.Placing.{chosen-more}
use Rattle.dia_dict.proofs.resolving.finding.entries.push_mismatches.Goals as goal

pub loop-group-preserved : goal.loop-group-preserved
loop-group-preserved c =
    let s = plain_source c.args.names.now.source.now in
    chosen-more (λ (g : Part × PlainDef). is_mismatched s g.1) (mismatch_of s) placed_def c.first_groups-groups.result.now c.loop-group.group-index c.group-item.result _ _ _
    c.loop-group-test.true c.group-item.is c.loop-group.invariant c.in_ok-push_mismatch.ensures

pub returns : goal.returns
returns c =
    let names = c.args.names.now in
    let s = plain_source names.source.now in
    c.loop-group.invariant
    ∙ ap (λ (gs : List (Part × PlainDef)). map plain_finding c.args.findings.now.items ++ map (mismatch_of s) (filter (λ (g : Part × PlainDef). is_mismatched s g.1) gs))
    (ap (map placed_def) (take_all c.loop-group.group-index c.first_groups-groups.result.now c.loop-group-test.false) ∙ c.first_groups-groups.ensures)
