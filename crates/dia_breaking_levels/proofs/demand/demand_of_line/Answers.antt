use Rattle.std.proofs.lemmas.Result.{IfOk-weaker}
use Rattle.dia_valid.specs.Rules.{rules_in}
use Rattle.dia_breaking_levels.specs.declared.line.Reason.TheVariants.{Missing, TooMany, NotAllowed, NotAllowedOther, MissingOthers, Order}
use Rattle.dia_breaking_levels.specs.Chosen.{plain_demand, reads}
use Rattle.dia_breaking_levels.proofs.Demands.{many_demanded, no_cut, recorded_demand}
use Rattle.dia_breaking_levels.proofs.demand.demand_of_line.Goals as goal

pub returns-in-Missing : goal.returns-in-Missing
returns-in-Missing g c =
    let r = reads (rules_in (g.A.Book.meaning c.args.a.now.book.now) c.args.a.now.def) (rules_in (g.B.Book.meaning c.args.b.now.book.now) c.args.b.now.def)
    (g.C.Costs.listed_length c.args.costs.now) (g.C.Costs.other_length c.args.costs.now) (g.C.Costs.other_keys c.args.costs.now) c.args.floor.now in
    recorded_demand r c.args.line.now Missing no_cut _ c.in-Missing.is tt c.of_missing.ensures

pub returns-in-TooMany : goal.returns-in-TooMany
returns-in-TooMany g c =
    let r = reads (rules_in (g.A.Book.meaning c.args.a.now.book.now) c.args.a.now.def) (rules_in (g.B.Book.meaning c.args.b.now.book.now) c.args.b.now.def)
    (g.C.Costs.listed_length c.args.costs.now) (g.C.Costs.other_length c.args.costs.now) (g.C.Costs.other_keys c.args.costs.now) c.args.floor.now in
    recorded_demand r c.args.line.now TooMany no_cut _ c.in-TooMany.is tt c.of_too_many.ensures

pub returns-in-NotAllowed : goal.returns-in-NotAllowed
returns-in-NotAllowed g c =
    let r = reads (rules_in (g.A.Book.meaning c.args.a.now.book.now) c.args.a.now.def) (rules_in (g.B.Book.meaning c.args.b.now.book.now) c.args.b.now.def)
    (g.C.Costs.listed_length c.args.costs.now) (g.C.Costs.other_length c.args.costs.now) (g.C.Costs.other_keys c.args.costs.now) c.args.floor.now in
    recorded_demand r c.args.line.now NotAllowed no_cut _ c.in-NotAllowed.is tt c.of_not_allowed.ensures

pub returns-in-NotAllowedOther : goal.returns-in-NotAllowedOther
returns-in-NotAllowedOther g c =
    let r = reads (rules_in (g.A.Book.meaning c.args.a.now.book.now) c.args.a.now.def) (rules_in (g.B.Book.meaning c.args.b.now.book.now) c.args.b.now.def)
    (g.C.Costs.listed_length c.args.costs.now) (g.C.Costs.other_length c.args.costs.now) (g.C.Costs.other_keys c.args.costs.now) c.args.floor.now in
    recorded_demand r c.args.line.now NotAllowedOther no_cut _ c.in-NotAllowedOther.is tt c.of_not_allowed_other.ensures

pub returns-in-MissingOthers : goal.returns-in-MissingOthers
returns-in-MissingOthers g c =
    let r = reads (rules_in (g.A.Book.meaning c.args.a.now.book.now) c.args.a.now.def) (rules_in (g.B.Book.meaning c.args.b.now.book.now) c.args.b.now.def)
    (g.C.Costs.listed_length c.args.costs.now) (g.C.Costs.other_length c.args.costs.now) (g.C.Costs.other_keys c.args.costs.now) c.args.floor.now in
    recorded_demand r c.args.line.now MissingOthers no_cut _ c.in-MissingOthers.is tt c.of_missing_others.ensures

pub returns-in-Order : goal.returns-in-Order
returns-in-Order g c =
    let r = reads (rules_in (g.A.Book.meaning c.args.a.now.book.now) c.args.a.now.def) (rules_in (g.B.Book.meaning c.args.b.now.book.now) c.args.b.now.def)
    (g.C.Costs.listed_length c.args.costs.now) (g.C.Costs.other_length c.args.costs.now) (g.C.Costs.other_keys c.args.costs.now) c.args.floor.now in
    recorded_demand r c.args.line.now Order no_cut _ c.in-Order.is tt c.of_order.ensures

pub returns-in-TooManyOthers : goal.returns-in-TooManyOthers
returns-in-TooManyOthers g c =
    let r = reads (rules_in (g.A.Book.meaning c.args.a.now.book.now) c.args.a.now.def) (rules_in (g.B.Book.meaning c.args.b.now.book.now) c.args.b.now.def)
    (g.C.Costs.listed_length c.args.costs.now) (g.C.Costs.other_length c.args.costs.now) (g.C.Costs.other_keys c.args.costs.now) c.args.floor.now in
    IfOk-weaker c.of_too_many_others.result _ _ (λ d is. many_demanded r c.args.line.now (plain_demand d) c.in-TooManyOthers.is is) c.of_too_many_others.ensures
