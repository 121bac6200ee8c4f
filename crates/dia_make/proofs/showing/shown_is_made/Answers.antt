use Rattle.dia_make.proofs.Shown.{law}
use Rattle.dia_make.proofs.showing.shown_is_made.Goals as goal

pub returns : goal.returns
returns c = law
