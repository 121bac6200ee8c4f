use Rattle.std.proofs.Common.{◌<◌, List, length, get_or, ap, subst, ◌∙◌}
use Rattle.dia_book.specs.declared.DRule.{DRule}
use Rattle.dia_valid.specs.Rules.{rules_in}
use Rattle.dia_breaking_levels.specs.Chosen.{cut_after, extra_of, reads}
use Rattle.dia_breaking_levels.proofs.LinesMore.{extras_more}
use Rattle.dia_breaking_levels.proofs.cut.rule_extras.Goals as goal

pub loop-rule-preserved : goal.loop-rule-preserved
loop-rule-preserved g c =
    let a = rules_in (g.A.Book.meaning c.args.a.now.book.now) c.args.a.now.def in
    let b = rules_in (g.B.Book.meaning c.args.b.now.book.now) c.args.b.now.def in
    let r = reads a b (g.C.Costs.listed_length c.args.costs.now) (g.C.Costs.other_length c.args.costs.now) (g.C.Costs.other_keys c.args.costs.now) c.args.floor.now in
    let cut = c.loop-rule.cut in
    let i = c.loop-rule.rule-index in
    let within = subst (λ (rs : List DRule). i < length rs) c.list-rule-items.ensures c.loop-rule-test.true in
    extras_more r c.args.wanted cut c.extra.new.cut a i _ c.extra.result c.loop-rule.extras.items _ _ within
    (c.extra.ensures.extra ∙ ap (λ (rs : List DRule). extra_of r c.args.wanted cut (get_or rs i _)) c.list-rule-items.ensures)
    (c.extra.ensures.following ∙ ap (λ (rs : List DRule). cut_after r c.args.wanted cut (get_or rs i _)) c.list-rule-items.ensures) c.in_ok-push.ensures.items c.loop-rule.invariant
