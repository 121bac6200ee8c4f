use Rattle.dia_uses.proofs.OneText.{one_text}
use Rattle.dia_uses.proofs.laws.answers_are_one.Goals as goal

pub returns : goal.returns
returns c = one_text c.paths_are_one.ensures
