use Rattle.std.proofs.Common.{◌++◌, List, map, ap, ◌∙◌}
use Rattle.std.specs.Prelude.{string_bytes}
use Rattle.std.proofs.lemmas.List.{take_all}
use Rattle.dia_ccf.specs.declared.source.Rule.{Rule}
use Rattle.dia_ccf.specs.Plain.{PlainRule, plain_source, plain_rule}
use Rattle.dia_dict.specs.Resolution.{wrong, alone, placed, is_bad, rule_at, slot_name}
use Rattle.dia_dict.specs.SourceChecks.{plain_finding}
use Rattle.dia_dict.proofs.Placing.{alone-more}
use Rattle.dia_dict.proofs.resolving.finding.rule_faults.push_rules_in.Goals as goal

pub loop-index-preserved : goal.loop-index-preserved
loop-index-preserved c =
    alone-more (is_bad c.args.kind (plain_source c.args.names.now.source.now)) (λ (r : PlainRule). wrong c.args.kind (string_bytes c.args.def.item.now.name) (slot_name r))
    (rule_at c.args.def.part) plain_rule c.args.def.item.now.rules.items c.loop-index.index c.rule-item.result _ _ _
    (rw c.deref-rule-items.ensures.value at c.loop-index-test.true) (rw c.deref-rule-items.ensures.value at c.rule-item.is) c.loop-index.invariant c.in_ok-push_rule.ensures

pub returns : goal.returns
returns c =
    let def = c.args.def.item.now in
    let bad = alone (is_bad c.args.kind (plain_source c.args.names.now.source.now)) (λ (r : PlainRule). wrong c.args.kind (string_bytes def.name) (slot_name r)) in
    c.loop-index.invariant ∙ ap (λ (rs : List Rule). map plain_finding c.args.findings.now.items ++ bad (placed (rule_at c.args.def.part) (map plain_rule rs)))
    (take_all c.loop-index.index def.rules.items (rw c.deref-rule-items.ensures.value at c.loop-index-test.false))
