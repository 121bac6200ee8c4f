use Rattle.dia_valid.specs.Rules.{rules_in}
use Rattle.dia_breaking_levels.proofs.AloneBounds.{with_within}
use Rattle.dia_breaking_levels.proofs.plans.length_with.Goals as goal

pub returns : goal.returns
returns g c =
    with_within (g.C.Costs.listed_length c.args.costs.now) (g.C.Costs.other_length c.args.costs.now) (g.C.Costs.other_keys c.args.costs.now)
    (rules_in (g.A.Book.meaning c.args.a.now) c.args.a_def) c.args.key c.length_once.result
    c.is_sound.ensures c.length_once.ensures
