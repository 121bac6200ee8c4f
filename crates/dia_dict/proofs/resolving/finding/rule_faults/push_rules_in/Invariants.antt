use Rattle.std.proofs.Common.{◌≡◌, ◌++◌, map, take}
use Rattle.std.specs.Prelude.{string_bytes}
use Rattle.dia_ccf.specs.Plain.{plain_source, plain_rule}
use Rattle.dia_dict.specs.Resolution.{wrong, alone, is_bad, placed, rule_at, slot_name}
use Rattle.dia_dict.specs.SourceChecks.{plain_finding}
use Rattle.dia_dict.proofs.resolving.finding.rule_faults.push_rules_in.Given as goal

abbrev pub invariant-loop-index : goal.invariant-loop-index
invariant-loop-index l = map plain_finding l.findings.items ≡ map plain_finding l.initial.findings.items
    ++ alone (is_bad l.kind (plain_source l.names.source.now)) (λ r. wrong l.kind (string_bytes l.def.item.now.name) (slot_name r))
    (placed (rule_at l.def.part) (map plain_rule (take l.index l.def.item.now.rules.items)))
