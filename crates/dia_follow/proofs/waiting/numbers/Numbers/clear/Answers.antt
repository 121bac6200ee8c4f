use Rattle.dia_follow.proofs.Sets.{none_listed}
use Rattle.dia_follow.proofs.waiting.numbers.Numbers.clear.Goals as goal

pub returns : goal.returns
returns c = none_listed _ c.clear.ensures.empty c.clear-2.ensures.empty c.clear-3.ensures.empty
