use Rattle.dia_captures.proofs.OneMessage.{of_refute}
use Rattle.dia_captures.proofs.laws.refute_of_line.Goals as goal

pub returns : goal.returns
returns c = of_refute
