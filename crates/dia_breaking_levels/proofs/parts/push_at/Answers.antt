use Rattle.std.proofs.Common.{List, sym, ap, ◌∙◌}
use Rattle.std.specs.Prelude.{slice_get}
use Rattle.std.proofs.lemmas.Result.{on_ok_weaker}
use Rattle.dia_book.specs.declared.DRule.{DRule}
use Rattle.dia_valid.specs.Rules.{rules_in}
use Rattle.dia_breaking_levels.specs.Chosen.{plain_demand}
use Rattle.dia_breaking_levels.proofs.PartsOfLevels.{at_none, at_some}
use Rattle.dia_breaking_levels.proofs.parts.push_at.Goals as goal

pub returns-in-Some : goal.returns-in-Some
returns-in-Some g c =
    let rules = rules_in (g.A.Book.meaning c.args.a.now.book.now) c.args.a.now.def in
    let at = ap (λ (rs : List DRule). slice_get rs c.args.index) (sym c.list.ensures) ∙ sym c.rule_at.ensures ∙ c.in-Some.is in
    on_ok_weaker c.push_kind.result (λ is. at_some rules (plain_demand c.args.demand.now) c.args.fixed c.args.index c.in-Some.rule c.extra_at.result _ _ at c.extra_at.ensures is) c.push_kind.ensures

pub returns-in-None : goal.returns-in-None
returns-in-None g c =
    let rules = rules_in (g.A.Book.meaning c.args.a.now.book.now) c.args.a.now.def in
    at_none rules (plain_demand c.args.demand.now) c.args.fixed c.args.index c.args.parts.now.items (ap (λ (rs : List DRule). slice_get rs c.args.index) (sym c.list.ensures) ∙ sym c.rule_at.ensures ∙ c.in-None.is)
