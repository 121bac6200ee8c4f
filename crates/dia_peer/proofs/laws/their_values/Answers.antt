use Rattle.dia_peer.proofs.Ends.{their_values}
use Rattle.dia_peer.proofs.laws.their_values.Goals as goal

pub returns : goal.returns
returns c = their_values
