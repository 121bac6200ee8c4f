use Rattle.std.proofs.Common.{List, length, arith, sym, ap, ◌∙◌}
use Rattle.std.specs.Prelude.{slice_get}
use Rattle.std.proofs.lemmas.Option.{slice_get-get_or}
use Rattle.dia_book.specs.declared.definition.DRule.{DRule}
use Rattle.dia_differences.specs.Owners.{rules_of}
use Rattle.dia_differences.specs.Matching.{rule_place}
use Rattle.dia_differences.specs.Lines.{OwnRuleAt, RuleLine}
use Rattle.dia_differences.proofs.Chains.{adds_all, adds_first, adds_next}
use Rattle.dia_differences.proofs.RuleLines.{one_rule}
use Rattle.dia_differences.proofs.rules.push_own_rules.Goals as goal

pub loop-place-init : goal.loop-place-init
loop-place-init g c = adds_first (OwnRuleAt (g.A.Book.meaning c.args.a.now) (g.B.Book.meaning c.args.b.now) c.args.pairs.now c.args.own c.args.other) c.args.lines.now.items

pub loop-place-preserved : goal.loop-place-preserved
loop-place-preserved g c =
    let rules = rules_of (g.A.Book.meaning c.args.a.now) c.args.own in
    let i = c.loop-place.place in
    adds_next (OwnRuleAt (g.A.Book.meaning c.args.a.now) (g.B.Book.meaning c.args.b.now) c.args.pairs.now c.args.own c.args.other) i c.args.lines.now.items c.loop-place.lines.items c.push_own_rule.new.lines.items c.loop-place.invariant
    (one_rule rules (λ (r : DRule). RuleLine c.args.own c.args.other i r (rules_of (g.B.Book.meaning c.args.b.now) c.args.other) (rule_place (g.A.Book.meaning c.args.a.now) (g.B.Book.meaning c.args.b.now) c.args.pairs.now c.args.other r)) i _ c.loop-place.lines.items c.push_own_rule.new.lines.items
    (ap (λ (rs : List DRule). slice_get rs i) (sym c.rules-rules.ensures) ∙ slice_get-get_or c.rules-rules.result.now i _ (omega (arith, c.loop-place-test.true))) c.in_ok-push_own_rule.ensures)

pub returns : goal.returns
returns g c =
    adds_all (OwnRuleAt (g.A.Book.meaning c.args.a.now) (g.B.Book.meaning c.args.b.now) c.args.pairs.now c.args.own c.args.other) c.loop-place.place (length (rules_of (g.A.Book.meaning c.args.a.now) c.args.own)) c.args.lines.now.items c.loop-place.lines.items
    (omega (arith, c.loop-place-test.false, ap (λ (rs : List DRule). length rs) c.rules-rules.ensures)) c.loop-place.invariant
