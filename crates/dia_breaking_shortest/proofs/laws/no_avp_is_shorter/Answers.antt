use Rattle.dia_breaking_shortest.proofs.FloorsOfAvps.{no_shorter}
use Rattle.dia_breaking_shortest.proofs.laws.no_avp_is_shorter.Goals as goal

pub returns : goal.returns
returns c = no_shorter
