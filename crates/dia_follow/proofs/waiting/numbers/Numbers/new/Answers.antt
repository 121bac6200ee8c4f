use Rattle.dia_follow.proofs.Sets.{none_listed}
use Rattle.dia_follow.proofs.waiting.numbers.Numbers.new.Goals as goal

pub returns : goal.returns
returns c = none_listed _ c.new.ensures.empty c.new-2.ensures.empty c.new-3.ensures.empty
