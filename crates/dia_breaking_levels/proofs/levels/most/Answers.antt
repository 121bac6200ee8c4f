use Rattle.std.proofs.Common.{sym, ◌∙◌}
use Rattle.dia_valid.specs.Rules.{rules_in}
use Rattle.dia_breaking_levels.proofs.FloorFacts.{most_if, bounded}
use Rattle.dia_breaking_levels.proofs.levels.most.Goals as goal

pub returns-in-Some-clause-least : goal.returns-in-Some-clause-least
returns-in-Some-clause-least g c =
    most_if (g.C.Costs.listed_length c.args.costs.now) c.args.floor.now (rules_in (g.A.Book.meaning c.args.a.now.book.now) c.args.a.now.def)
    (rules_in (g.B.Book.meaning c.args.b.now.book.now) c.args.b.now.def)
    c.in-Some.max c.least_over.result (sym c.greatest.ensures ∙ c.in-Some.is) c.least_over.ensures

pub returns-in-Some-clause-none : goal.returns-in-Some-clause-none
returns-in-Some-clause-none g c = bounded (rules_in (g.B.Book.meaning c.args.b.now.book.now) c.args.b.now.def) c.in-Some.max c.least_over.result (sym c.greatest.ensures ∙ c.in-Some.is)
