use Rattle.std.proofs.Common.{None}
use Rattle.dia_book.specs.declared.DRule.{DRule}
use Rattle.dia_book.specs.declared.RuleKind.TheVariants.{Fixed}
use Rattle.dia_breaking_levels.proofs.LinesMore.{steps_all, steps_more}
use Rattle.dia_breaking_shortest.specs.Bytes.{rule_parts}
use Rattle.dia_breaking_shortest.proofs.writing.parts_of.Goals as goal

pub loop-rule-init : goal.loop-rule-init
loop-rule-init c = c.new-parts.ensures.items

pub loop-rule-preserved : goal.loop-rule-preserved
loop-rule-preserved c =
    let none : DRule = record { kind = Fixed; key = None; min = 0; max = None } in
    steps_more (rule_parts c.args.filler) c.loop-rule.parts.items c.push_part.new.parts.items c.args.rules.now c.loop-rule.rule-index none c.loop-rule-test.true c.loop-rule.invariant
    c.in_ok-push_part.ensures

pub returns : goal.returns
returns c = steps_all (rule_parts c.args.filler) c.loop-rule.parts.items c.args.rules.now c.loop-rule.rule-index c.loop-rule-test.false c.loop-rule.invariant
