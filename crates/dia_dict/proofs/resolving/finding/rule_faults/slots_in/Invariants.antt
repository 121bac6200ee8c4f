use Rattle.std.proofs.Common.{◌≡◌, map, take}
use Rattle.std.specs.Prelude.{string_bytes}
use Rattle.dia_ccf.specs.Plain.{plain_rule}
use Rattle.dia_dict.specs.declared.fault.DictKind.TheVariants.{RepeatedSlot}
use Rattle.dia_dict.specs.Resolution.{wrong, placed, rule_at, slot_name}
use Rattle.dia_dict.specs.SourceChecks.{keyed_text}
use Rattle.dia_dict.proofs.resolving.finding.rule_faults.slots_in.Given as goal

abbrev pub invariant-loop-index : goal.invariant-loop-index
invariant-loop-index l = map keyed_text l.slots.items
    ≡ map (λ r. (r.0, (slot_name r.1, wrong RepeatedSlot (string_bytes l.def.item.now.name) (slot_name r.1)))) (placed (rule_at l.def.part) (map plain_rule (take l.index l.def.item.now.rules.items)))
