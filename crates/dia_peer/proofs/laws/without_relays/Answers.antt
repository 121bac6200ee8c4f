use Rattle.dia_peer.proofs.Commons.{same_common}
use Rattle.dia_peer.proofs.laws.without_relays.Goals as goal

pub returns : goal.returns
returns c = same_common
