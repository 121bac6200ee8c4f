use Rattle.dia_breaking_shortest.proofs.LeastBytes.{least_are}
use Rattle.dia_breaking_shortest.proofs.OneLeast.{one_least_avp}
use Rattle.dia_breaking_shortest.proofs.laws.least_avps_are_one.Goals as goal

pub returns-clause-one : goal.returns-clause-one
returns-clause-one c = one_least_avp

pub returns-clause-bytes : goal.returns-clause-bytes
returns-clause-bytes c = least_are
