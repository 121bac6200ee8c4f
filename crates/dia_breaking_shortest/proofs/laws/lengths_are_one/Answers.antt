use Rattle.dia_breaking_shortest.proofs.OneSolution.{lengths_are_one}
use Rattle.dia_breaking_shortest.proofs.laws.lengths_are_one.Goals as goal

pub returns : goal.returns
returns c = lengths_are_one
