use Rattle.dia_accepted.proofs.Tallies.{none_come}
use Rattle.dia_accepted.proofs.counting.Causes.new.Goals as goal

pub returns : goal.returns
returns c = λ forgets command. none_come forgets _ command c.new.ensures.items c.new-2.ensures.empty c.new-3.ensures.empty
