use Rattle.std.proofs.Common.{rules, ap, ◌∙◌}
use Rattle.dia_valid.specs.Rules.{rules_in}
use Rattle.dia_breaking_levels.specs.Steps.{steps}
use Rattle.dia_breaking_levels.proofs.FloorFacts.{over_is}
use Rattle.dia_breaking_levels.proofs.levels.least_over.Goals as goal

pub returns : goal.returns
returns g c =
    over_is (g.C.Costs.listed_length c.args.costs.now) c.args.floor.now (rules_in (g.A.Book.meaning c.args.a.now.book.now) c.args.a.now.def)
    (rules_in (g.B.Book.meaning c.args.b.now.book.now) c.args.b.now.def)
    c.args.max c.from.result c.saturating_sub-wanted.result c.filler.result c.swapped.result c.in_ok-more.more c.in_ok-steps.steps.items
    (search rules) c.requires c.from.ensures c.saturating_sub-wanted.ensures c.filler.ensures
    (c.in_ok-steps.ensures ∙ ap (λ xs. steps (g.C.Costs.listed_length c.args.costs.now) c.filler.result c.args.floor.now.outer (rules_in (g.B.Book.meaning c.args.b.now.book.now) c.args.b.now.def)
    c.saturating_sub-wanted.result xs) c.list.ensures)
    c.in_ok-more.ensures.least c.in_ok-more.ensures.taken c.swapped.ensures
