use Rattle.dia_breaking_shortest.proofs.ShortestAvps.{leaf_attained}
use Rattle.dia_breaking_shortest.proofs.laws.leaf_is_attained.Goals as goal

pub returns : goal.returns
returns c = leaf_attained
