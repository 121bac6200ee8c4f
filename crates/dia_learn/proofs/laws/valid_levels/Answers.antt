use Rattle.dia_learn.proofs.ValidLevels.{valid_levels}
use Rattle.dia_learn.proofs.laws.valid_levels.Goals as goal

pub returns : goal.returns
returns c = valid_levels
