use Rattle.dia_peer.proofs.OneOutcome.{same_outcome}
use Rattle.dia_peer.proofs.laws.one_step.Goals as goal

pub returns : goal.returns
returns c = same_outcome
