use Rattle.dia_valid.specs.Rules.{rules_in}
use Rattle.dia_breaking_levels.proofs.AloneBounds.{least_within}
use Rattle.dia_breaking_levels.proofs.plans.length_least.Goals as goal

pub returns-clause-within : goal.returns-clause-within
returns-clause-within g c =
    least_within (g.C.Costs.listed_length c.args.costs.now) (g.C.Costs.other_length c.args.costs.now) (g.C.Costs.other_keys c.args.costs.now)
    (rules_in (g.A.Book.meaning c.args.a.now) c.args.a_def) c.least_length.result
    c.is_sound.ensures c.least_length.ensures
