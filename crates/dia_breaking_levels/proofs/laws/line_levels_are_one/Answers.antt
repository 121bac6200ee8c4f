use Rattle.dia_breaking_levels.proofs.OneLineLevel.{one_level}
use Rattle.dia_breaking_levels.proofs.SomeLineLevel.{some_level}
use Rattle.dia_breaking_levels.proofs.laws.line_levels_are_one.Goals as goal

pub returns-clause-one : goal.returns-clause-one
returns-clause-one c = one_level

pub returns-clause-some : goal.returns-clause-some
returns-clause-some c = some_level
