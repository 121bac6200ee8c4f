use Rattle.std.proofs.Common.{List, ◌++◌, None, take, get_or, sym, subst}
use Rattle.std.proofs.lemmas.List.{take_more}
use Rattle.dia_book.specs.declared.DRule.{DRule}
use Rattle.dia_book.specs.declared.RuleKind.TheVariants.{Fixed}
use Rattle.dia_answer.specs.Bodies.{AreRequiredAll}
use Rattle.dia_answer.specs.Helds.{plains}
use Rattle.dia_answer.proofs.Building.{copied_more, required_more}
use Rattle.dia_answer.proofs.copies.push_all_required.Goals as goal

pub loop-rule-preserved : goal.loop-rule-preserved
loop-rule-preserved g c =
    let d = g.B.Book.meaning c.args.judge.now.book.book.now in
    let u = c.args.judge.now.unknown in
    let most = c.args.judge.now.levels in
    let request = plains c.args.request.now in
    let rules = c.args.rules.now in
    let i = c.loop-rule.rule-index in
    let none : DRule = record { kind = Fixed; key = None; min = 0; max = None } in
    let these = c.loop-rule.invariant in
    let more = c.in_ok-push_required.ensures in (
      these.0 ++ more.0,
      subst (λ (rs : List DRule). AreRequiredAll d u most request rs (these.0 ++ more.0)) (sym (take_more rules i none c.loop-rule-test.true)) (required_more d u most request (take i rules) (get_or rules i none) these.0 more.0 these.1 more.1),
      copied_more (plains c.args.out.now.items) (plains c.loop-rule.out.items) (plains c.push_required.new.out.items) these.0 more.0 these.2 more.2,
    )
