use Rattle.dia_captures.proofs.OneMessage.{of_check}
use Rattle.dia_captures.proofs.laws.check_of_line.Goals as goal

pub returns : goal.returns
returns c = of_check
