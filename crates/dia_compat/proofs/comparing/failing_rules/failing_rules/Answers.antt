use Rattle.std.proofs.Common.{◌≤◌, List, length, ap, arith, subst, ◌∙◌}
use Rattle.std.proofs.lemmas.List.{take_all}
use Rattle.dia_book.specs.declared.DRule.{DRule}
use Rattle.dia_compat.specs.Failings.{among}
use Rattle.dia_compat.specs.FailingRules.{asked_rules, fails_rule}
use Rattle.dia_compat.proofs.ListsOfFailings.{asked_more}
use Rattle.dia_compat.proofs.comparing.failing_rules.failing_rules.Goals as goal

pub loop-index-preserved : goal.loop-index-preserved
loop-index-preserved g c =
    asked_more (fails_rule c.args.cover.now c.args.test c.args.a.now c.args.b.now) c.asked-rule-items.result.now (asked_rules c.args.test c.args.a.now c.args.b.now)
    c.loop-index.index _ c.loop-index.all.items c.push_found.new.all.items c.fails_rule.result (rw (c.list.ensures, c.list-2.ensures) at c.asked-rule-items.ensures)
    c.loop-index-test.true c.fails_rule.ensures c.loop-index.invariant c.in_ok-push_found.ensures

pub returns : goal.returns
returns g c =
    let fails = fails_rule c.args.cover.now c.args.test c.args.a.now c.args.b.now in
    let asked = asked_rules c.args.test c.args.a.now c.args.b.now in
    let is = rw (c.list.ensures, c.list-2.ensures) at c.asked-rule-items.ensures in
    c.loop-index.invariant ∙ ap (λ (rules : List DRule). among fails rules)
    (take_all c.loop-index.index asked (subst (λ (rules : List DRule). length rules ≤ c.loop-index.index) is (omega (arith, c.loop-index-test.false))))
