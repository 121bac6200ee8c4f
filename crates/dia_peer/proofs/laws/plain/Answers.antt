use Rattle.dia_peer.proofs.ByManner.{as_line}
use Rattle.dia_peer.proofs.laws.plain.Goals as goal

pub returns : goal.returns
returns c = as_line
