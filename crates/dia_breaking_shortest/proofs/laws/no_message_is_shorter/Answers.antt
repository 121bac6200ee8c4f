use Rattle.dia_breaking_shortest.proofs.FloorsOfAvps.{no_message}
use Rattle.dia_breaking_shortest.proofs.laws.no_message_is_shorter.Goals as goal

pub returns : goal.returns
returns c = no_message
