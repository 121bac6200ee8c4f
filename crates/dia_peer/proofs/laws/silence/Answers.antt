use Rattle.dia_peer.proofs.Watchdogs.{in_silence}
use Rattle.dia_peer.proofs.laws.silence.Goals as goal

pub returns : goal.returns
returns c = in_silence
