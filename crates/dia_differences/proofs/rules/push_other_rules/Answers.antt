use Rattle.std.proofs.Common.{List, length, arith, sym, ap, ◌∙◌}
use Rattle.std.specs.Prelude.{slice_get}
use Rattle.std.proofs.lemmas.Option.{slice_get-get_or}
use Rattle.dia_book.specs.declared.definition.DRule.{DRule}
use Rattle.dia_differences.specs.Owners.{rules_of}
use Rattle.dia_differences.specs.Lines.{OtherRuleAt}
use Rattle.dia_differences.proofs.Chains.{adds_all, adds_first, adds_next}
use Rattle.dia_differences.proofs.RuleLines.{other_rule}
use Rattle.dia_differences.proofs.rules.push_other_rules.Goals as goal

pub loop-rule-init : goal.loop-rule-init
loop-rule-init g c = adds_first (OtherRuleAt (g.A.Book.meaning c.args.a.now) (g.B.Book.meaning c.args.b.now) c.args.pairs.now c.args.own c.args.other) c.args.lines.now.items

pub loop-rule-preserved : goal.loop-rule-preserved
loop-rule-preserved g c =
    let i = c.loop-rule.rule in
    adds_next (OtherRuleAt (g.A.Book.meaning c.args.a.now) (g.B.Book.meaning c.args.b.now) c.args.pairs.now c.args.own c.args.other) i c.args.lines.now.items c.loop-rule.lines.items c.push_other_rule.new.lines.items c.loop-rule.invariant
    (other_rule (g.A.Book.meaning c.args.a.now) (g.B.Book.meaning c.args.b.now) c.args.pairs.now c.args.own c.args.other i _ c.rule_for.result c.loop-rule.lines.items c.push_other_rule.new.lines.items
    (ap (λ (rs : List DRule). slice_get rs i) (sym c.rules-rules.ensures) ∙ slice_get-get_or c.rules-rules.result.now i _ (omega (arith, c.loop-rule-test.true))) c.rule_for.ensures c.in_ok-push_other_rule.ensures)

pub returns : goal.returns
returns g c =
    adds_all (OtherRuleAt (g.A.Book.meaning c.args.a.now) (g.B.Book.meaning c.args.b.now) c.args.pairs.now c.args.own c.args.other) c.loop-rule.rule (length (rules_of (g.B.Book.meaning c.args.b.now) c.args.other)) c.args.lines.now.items c.loop-rule.lines.items
    (omega (arith, c.loop-rule-test.false, ap (λ (rs : List DRule). length rs) c.rules-rules.ensures)) c.loop-rule.invariant
