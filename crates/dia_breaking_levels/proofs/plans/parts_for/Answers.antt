use Rattle.std.proofs.lemmas.Result.{IfOk-weaker}
use Rattle.std.proofs.Common.{subst}
use Rattle.dia_valid.specs.Rules.{rules_in}
use Rattle.dia_breaking_levels.specs.declared.floor.Floor.{Floor}
use Rattle.dia_breaking_levels.specs.Chosen.{IsDemandOf, plain_demand, reads}
use Rattle.dia_breaking_levels.proofs.FloorFacts.{floor_is}
use Rattle.dia_breaking_levels.proofs.plans.parts_for.Goals as goal

pub returns : goal.returns
returns g c =
    let listed = g.C.Costs.listed_length c.args.costs.now in
    let other = g.C.Costs.other_length c.args.costs.now in
    let others = g.C.Costs.other_keys c.args.costs.now in
    let a = rules_in (g.A.Book.meaning c.args.a.now.book.now) c.args.a.now.def in
    let b = rules_in (g.B.Book.meaning c.args.b.now.book.now) c.args.b.now.def in
    let facts = c.floor_of-floor.ensures in
    let is = floor_is c.floor_of-floor.result listed other others a b facts.base facts.inner facts.first facts.second facts.outer facts.needed facts.wild facts.lets_in in
    let demand = plain_demand c.in_ok-demand.demand in
    IfOk-weaker c.level_parts.result _ _
    (λ parts same. (demand, subst (λ (floor : Floor). IsDemandOf (reads a b listed other others floor) c.args.line.now demand) is c.in_ok-demand.ensures, same))
    c.level_parts.ensures
