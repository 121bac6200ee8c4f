use Rattle.std.proofs.Common.{◌++◌, List, map, ap, ◌∙◌}
use Rattle.std.proofs.lemmas.List.{take_all}
use Rattle.dia_ccf.specs.declared.source.Def.{Def}
use Rattle.dia_ccf.specs.Plain.{plain_def}
use Rattle.dia_dict.specs.Resolution.{part_at, placed, repeated_in, repeated_slots}
use Rattle.dia_dict.specs.SourceChecks.{plain_finding}
use Rattle.dia_dict.proofs.Placing.{recorded-more}
use Rattle.dia_dict.proofs.resolving.finding.rule_faults.push_slots_of.Goals as goal

pub loop-index-preserved : goal.loop-index-preserved
loop-index-preserved c =
    recorded-more repeated_in (part_at c.args.of) plain_def c.args.defs.now c.loop-index.index c.index-defs-index.result _ _ _
    c.loop-index-test.true c.index-defs-index.is c.loop-index.invariant (rw c.at-part.ensures at c.in_ok-push_slots_in.ensures)

pub returns : goal.returns
returns c =
    c.loop-index.invariant ∙ ap (λ (ds : List Def). map plain_finding c.args.findings.now.items ++ repeated_slots (placed (part_at c.args.of) (map plain_def ds)))
    (take_all c.loop-index.index c.args.defs.now c.loop-index-test.false)
