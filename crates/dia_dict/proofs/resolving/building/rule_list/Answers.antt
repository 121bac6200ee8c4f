use Rattle.std.proofs.Common.{List, map, ap, ◌∙◌}
use Rattle.std.proofs.lemmas.List.{take_all}
use Rattle.dia_ccf.specs.declared.source.Rule.{Rule}
use Rattle.dia_ccf.specs.Plain.{plain_source, plain_rule}
use Rattle.dia_dict.specs.Resolution.{rule_of}
use Rattle.dia_dict.proofs.Made.{listed-more}
use Rattle.dia_dict.proofs.resolving.building.rule_list.Goals as goal

pub loop-rule-preserved : goal.loop-rule-preserved
loop-rule-preserved c =
    listed-more (rule_of (plain_source c.args.names.now.source.now)) plain_rule c.args.rules.now c.loop-rule.rule-index c.rule-item.result c.loop-rule-test.true c.rule-item.is
    _ _ c.rule.result c.loop-rule.invariant c.rule.ensures c.in_ok-push.ensures.items

pub returns : goal.returns
returns c =
    c.loop-rule.invariant ∙ ap (λ (rs : List Rule). map (rule_of (plain_source c.args.names.now.source.now)) (map plain_rule rs))
    (take_all c.loop-rule.rule-index c.args.rules.now c.loop-rule-test.false)
