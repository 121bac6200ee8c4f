use Rattle.dia_show.proofs.OneText.{one_named}
use Rattle.dia_show.proofs.laws.one_show.Goals as goal

pub returns : goal.returns
returns c = one_named
