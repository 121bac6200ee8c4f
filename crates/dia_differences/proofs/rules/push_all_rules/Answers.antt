use Rattle.std.proofs.Common.{ℕ, List, length, arith, ap}
use Rattle.dia_book.specs.declared.definition.DRule.{DRule}
use Rattle.dia_differences.specs.Owners.{rules_of}
use Rattle.dia_differences.specs.declared.lines.What.{What}
use Rattle.dia_differences.specs.declared.lines.What.TheVariants as kinds
use Rattle.dia_differences.specs.Lines.{Only, place_of}
use Rattle.dia_differences.proofs.Chains.{adds_all, adds_first, adds_next, adds_only}
use Rattle.dia_differences.proofs.rules.push_all_rules.Goals as goal

pub loop-rule-init : goal.loop-rule-init
loop-rule-init g c =
    let R : ℕ → List What → Type 0 = λ i. Only (kinds.Rule c.args.side (place_of c.args.of i)) in
    adds_first R c.args.lines.now.items

pub loop-rule-preserved : goal.loop-rule-preserved
loop-rule-preserved g c =
    let R : ℕ → List What → Type 0 = λ i. Only (kinds.Rule c.args.side (place_of c.args.of i)) in
    let i = c.loop-rule.rule in
    adds_next R i c.args.lines.now.items c.loop-rule.lines.items c.push_line.new.lines.items c.loop-rule.invariant
    (adds_only (kinds.Rule c.args.side (place_of c.args.of i)) c.loop-rule.lines.items c.push_line.new.lines.items c.in_ok-push_line.ensures)

pub returns : goal.returns
returns g c =
    let R : ℕ → List What → Type 0 = λ i. Only (kinds.Rule c.args.side (place_of c.args.of i)) in
    adds_all R c.loop-rule.rule (length (rules_of (g.D.Book.meaning c.args.book.now) c.args.of)) c.args.lines.now.items c.loop-rule.lines.items
    (omega (arith, c.loop-rule-test.false, ap (λ (rs : List DRule). length rs) c.rules-rules.ensures)) c.loop-rule.invariant
