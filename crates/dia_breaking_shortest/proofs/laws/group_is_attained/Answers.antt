use Rattle.dia_breaking_shortest.proofs.ShortestAvps.{group_attained}
use Rattle.dia_breaking_shortest.proofs.laws.group_is_attained.Goals as goal

pub returns : goal.returns
returns c = group_attained
