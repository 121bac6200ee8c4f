use Rattle.dia_breaking_ways.proofs.OneWalk.{one_walk}
use Rattle.dia_breaking_ways.proofs.laws.walks_are_one.Goals as goal

pub returns : goal.returns
returns c = λ g steps others reached ways w v. one_walk g steps others reached ways w v
