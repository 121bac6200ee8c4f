use Rattle.std.proofs.Common.{refl, sym, ◌∙◌, Some, None}
use Rattle.dia_valid.specs.Rules.{rules_in}
use Rattle.dia_breaking_levels.specs.LevelTests.{least_filler}
use Rattle.dia_breaking_levels.proofs.FloorFacts.{rules_in_are}
use Rattle.dia_breaking.proofs.LevelCosts.{cost_with}
use Rattle.dia_breaking.proofs.levels.LevelCost.new.Goals as goal

pub returns-in-Some-clause-within : goal.returns-in-Some-clause-within
returns-in-Some-clause-within g c =
    let d = g.A.Book.meaning c.args.a.now in
    cost_with (g.C.Costs.listed_length c.args.costs.now) (g.C.Costs.other_length c.args.costs.now) (g.C.Costs.other_keys c.args.costs.now) (rules_in d c.args.def)
    c.length_least-base.result c.filler_length.result c.beside-beside.result (Some c.in-Some.wild) (rules_in_are d c.args.def (g.met.A.Book.sound c.args.a.now))
    c.length_least-base.ensures.computed (sym c.in-Some.is ∙ c.wildcard_of.ensures) c.filler_length.ensures c.beside-beside.ensures

pub returns-in-None-clause-within : goal.returns-in-None-clause-within
returns-in-None-clause-within g c =
    let d = g.A.Book.meaning c.args.a.now in
    cost_with (g.C.Costs.listed_length c.args.costs.now) (g.C.Costs.other_length c.args.costs.now) (g.C.Costs.other_keys c.args.costs.now) (rules_in d c.args.def)
    c.length_least-base.result (least_filler (g.C.Costs.other_length c.args.costs.now) (g.C.Costs.other_keys c.args.costs.now) (rules_in d c.args.def)) 16777193 None
    (rules_in_are d c.args.def (g.met.A.Book.sound c.args.a.now)) c.length_least-base.ensures.computed (sym c.in-None.is ∙ c.wildcard_of.ensures) refl refl
