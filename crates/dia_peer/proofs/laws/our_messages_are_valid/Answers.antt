use Rattle.dia_peer.proofs.OurMessages.{ours_are_valid}
use Rattle.dia_peer.proofs.laws.our_messages_are_valid.Goals as goal

pub returns : goal.returns
returns c = ours_are_valid
