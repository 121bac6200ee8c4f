use Rattle.dia_captures.proofs.LinesOfMessages.{one_check}
use Rattle.dia_captures.proofs.laws.one_check.Goals as goal

pub returns : goal.returns
returns c = one_check
