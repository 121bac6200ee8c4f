use Rattle.std.proofs.Common.{None}
use Rattle.dia_book.specs.declared.DRule.{DRule}
use Rattle.dia_book.specs.declared.RuleKind.TheVariants.{Fixed}
use Rattle.dia_valid.specs.Rules.{rules_in}
use Rattle.dia_breaking_levels.specs.Steps.{steps_of}
use Rattle.dia_breaking_levels.proofs.LinesMore.{steps_all, steps_more}
use Rattle.dia_breaking_levels.proofs.steps.all_steps.Goals as goal

pub loop-rule-init : goal.loop-rule-init
loop-rule-init g c = c.new-steps.ensures.items

pub loop-rule-preserved : goal.loop-rule-preserved
loop-rule-preserved g c =
    let of = steps_of (g.C.Costs.listed_length c.args.costs.now) c.args.lengths.0 c.args.lengths.1 (rules_in (g.B.Book.meaning c.args.b.now.book.now) c.args.b.now.def) c.args.wanted in
    let none : DRule = record { kind = Fixed; key = None; min = 0; max = None } in
    steps_more of c.loop-rule.steps.items c.push_steps.new.steps.items c.args.rules.now c.loop-rule.rule-index none c.loop-rule-test.true c.loop-rule.invariant c.in_ok-push_steps.ensures

pub returns : goal.returns
returns g c =
    let of = steps_of (g.C.Costs.listed_length c.args.costs.now) c.args.lengths.0 c.args.lengths.1 (rules_in (g.B.Book.meaning c.args.b.now.book.now) c.args.b.now.def) c.args.wanted in
    steps_all of c.loop-rule.steps.items c.args.rules.now c.loop-rule.rule-index c.loop-rule-test.false c.loop-rule.invariant
