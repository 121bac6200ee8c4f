use Rattle.dia_breaking_shortest.proofs.AttainedLengths.{length_attained}
use Rattle.dia_breaking_shortest.proofs.laws.length_is_attained.Goals as goal

pub returns : goal.returns
returns c = length_attained
