use Rattle.std.proofs.Common.{map, Some}
use Rattle.dia_dict.specs.Resolution.{finding}
use Rattle.dia_dict.specs.SourceChecks.{recorded, plain_finding}
use Rattle.dia_dict.proofs.RepeatsRecorded.{AreFound}
use Rattle.dia_dict.proofs.resolving.finding.repeats.push_repeats.Given as goal

abbrev pub invariant-loop-item : goal.invariant-loop-item
invariant-loop-item g l =
    AreFound (λ i. i.key) (λ i. i.part) (λ i first. finding (recorded i.recorded) i.part (Some first)) g.T.PartialEq.eq
    (map plain_finding l.initial.findings.items) (map plain_finding l.findings.items) l.items l.parts.value.entries l.item-index
