use Rattle.dia_mask.proofs.SaidAgain.{new_said}
use Rattle.dia_mask.proofs.laws.said_again.Goals as goal

pub returns : goal.returns
returns c = new_said
