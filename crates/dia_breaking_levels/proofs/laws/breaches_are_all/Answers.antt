use Rattle.dia_breaking_levels.proofs.Breaches.{placed_or_breach, breach_unplaced}
use Rattle.dia_breaking_levels.proofs.laws.breaches_are_all.Goals as goal

pub returns-clause-either : goal.returns-clause-either
returns-clause-either c = λ rules keys sound. placed_or_breach rules keys sound

pub returns-clause-never_both : goal.returns-clause-never_both
returns-clause-never_both c = λ rules keys sound breach placed. breach_unplaced rules keys sound breach placed
