use Rattle.dia_peer.proofs.InvalidRequests.{answered_steps}
use Rattle.dia_peer.proofs.laws.answered.Goals as goal

pub returns : goal.returns
returns c = answered_steps
