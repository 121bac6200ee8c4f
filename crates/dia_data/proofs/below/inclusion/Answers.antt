use Rattle.dia_data.proofs.FormatsBelow.{included}
use Rattle.dia_data.proofs.below.inclusion.Goals as goal

pub returns : goal.returns
returns c = included
