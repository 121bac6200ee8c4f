use Rattle.dia_peer.proofs.Ends.{agrees}
use Rattle.dia_peer.proofs.laws.agreement.Goals as goal

pub returns : goal.returns
returns c = agrees
