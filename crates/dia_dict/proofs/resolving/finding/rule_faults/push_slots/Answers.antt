use Rattle.std.proofs.Common.{◌≡◌, List, map, subst, OnOk}
use Rattle.dia_ccf.specs.Plain.{plain_source}
use Rattle.dia_dict.specs.Resolution.{PlainFinding, repeated_in}
use Rattle.dia_dict.specs.SourceChecks.{plain_finding}
use Rattle.dia_dict.proofs.Placing.{recorded-of-defs}
use Rattle.dia_dict.proofs.resolving.finding.rule_faults.push_slots.Goals as goal

pub returns : goal.returns
returns c =
    let s = plain_source c.args.source.now in
    subst (λ (fs : List PlainFinding). OnOk c.push_slots_of-2.result (map plain_finding c.push_slots_of-2.new.findings.items ≡ fs))
    (recorded-of-defs repeated_in s _ _ (rw c.deref.ensures.value at c.in_ok-push_slots_of.ensures)) (rw c.deref-2.ensures.value at c.push_slots_of-2.ensures)
