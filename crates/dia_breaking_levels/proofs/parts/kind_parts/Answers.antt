use Rattle.std.proofs.Common.{◌≡◌, List, length, ap, arith}
use Rattle.dia_book.specs.declared.DRule.{DRule}
use Rattle.dia_valid.specs.Rules.{rules_in}
use Rattle.dia_breaking_levels.specs.Chosen.{plain_demand}
use Rattle.dia_breaking_levels.proofs.PartsOfLevels.{parts_all, parts_more}
use Rattle.dia_breaking_levels.proofs.parts.kind_parts.Goals as goal

pub loop-index-preserved : goal.loop-index-preserved
loop-index-preserved g c =
    parts_more (rules_in (g.A.Book.meaning c.args.a.now.book.now) c.args.a.now.def) (plain_demand c.args.demand.now) c.args.fixed c.loop-index.index _ _ c.loop-index.invariant c.in_ok-push_at.ensures

pub returns : goal.returns
returns g c =
    let rules = rules_in (g.A.Book.meaning c.args.a.now.book.now) c.args.a.now.def in
    let all : length c.list-index-end.result.now ≡ length rules = ap (λ (rs : List DRule). length rs) c.list-index-end.ensures in
    parts_all rules (plain_demand c.args.demand.now) c.args.fixed c.loop-index.index _ (omega (arith, all)) c.loop-index.invariant
