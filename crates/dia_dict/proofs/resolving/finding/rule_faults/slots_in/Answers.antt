use Rattle.std.specs.Prelude.{string_bytes}
use Rattle.dia_ccf.specs.Plain.{PlainRule, plain_rule}
use Rattle.dia_dict.specs.declared.fault.DictKind.TheVariants.{RepeatedSlot}
use Rattle.dia_dict.specs.declared.findings.Part.{Part}
use Rattle.dia_dict.specs.Resolution.{wrong, rule_at, slot_name}
use Rattle.dia_dict.specs.SourceChecks.{keyed_text}
use Rattle.dia_dict.proofs.Placing.{placed-made-by}
use Rattle.dia_dict.proofs.resolving.finding.rule_faults.slots_in.Goals as goal

pub loop-index-preserved : goal.loop-index-preserved
loop-index-preserved c =
    placed-made-by (rule_at c.args.def.part) keyed_text (λ (r : Part × PlainRule). (r.0, (slot_name r.1, wrong RepeatedSlot (string_bytes c.args.def.item.now.name) (slot_name r.1)))) plain_rule
    c.args.def.item.now.rules.items c.loop-index.index c.rule-item.result _ _ c.slot_in.result
    (rw c.deref-rule-items.ensures.value at c.loop-index-test.true) (rw c.deref-rule-items.ensures.value at c.rule-item.is) c.loop-index.invariant c.slot_in.ensures c.in_ok-push.ensures.items
