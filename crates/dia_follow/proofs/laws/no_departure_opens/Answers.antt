use Rattle.dia_follow.proofs.Opened.{no_departure_opens}
use Rattle.dia_follow.proofs.laws.no_departure_opens.Goals as goal

pub returns : goal.returns
returns c = no_departure_opens
