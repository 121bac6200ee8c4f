use Rattle.dia_valid.specs.Rules.{rules_in}
use Rattle.dia_breaking_levels.specs.Chosen.{reads}
use Rattle.dia_breaking_levels.proofs.Demands.{many_is}
use Rattle.dia_breaking_levels.proofs.demand.of_too_many_others.Goals as goal

pub returns : goal.returns
returns g c =
    let r = reads (rules_in (g.A.Book.meaning c.args.a.now.book.now) c.args.a.now.def) (rules_in (g.B.Book.meaning c.args.b.now.book.now) c.args.b.now.def)
    (g.C.Costs.listed_length c.args.costs.now) (g.C.Costs.other_length c.args.costs.now) (g.C.Costs.other_keys c.args.costs.now) c.args.floor.now in
    many_is r c.fillers_of-fillers.result.cheapest c.fillers_of-fillers.result.outer c.in_ok-extras.extras.items c.fillers_of-fillers.ensures.cheapest c.fillers_of-fillers.ensures.outer
    c.in_ok-extras.ensures
