use Rattle.dia_follow.proofs.SameCommons.{common_symmetric}
use Rattle.dia_follow.proofs.laws.common_is_symmetric.Goals as goal

pub returns : goal.returns
returns c = common_symmetric
