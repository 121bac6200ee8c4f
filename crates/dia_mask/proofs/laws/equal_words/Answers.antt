use Rattle.dia_mask.proofs.Followed.{followed}
use Rattle.dia_mask.proofs.laws.equal_words.Goals as goal

pub returns : goal.returns
returns c = followed
