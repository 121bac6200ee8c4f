use Rattle.dia_breaking_shortest.proofs.ShortestAvps.{unknown_attained}
use Rattle.dia_breaking_shortest.proofs.laws.unknown_is_attained.Goals as goal

pub returns : goal.returns
returns c = unknown_attained
