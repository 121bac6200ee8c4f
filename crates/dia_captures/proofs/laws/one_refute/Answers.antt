use Rattle.dia_captures.proofs.LinesOfMessages.{one_refute}
use Rattle.dia_captures.proofs.laws.one_refute.Goals as goal

pub returns : goal.returns
returns c = one_refute
