use Rattle.dia_show.proofs.Plain.{law}
use Rattle.dia_show.proofs.laws.plain_is_show.Goals as goal

pub returns : goal.returns
returns c = law
