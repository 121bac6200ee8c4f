use Rattle.dia_answer.proofs.OneAnswer.{one_answered}
use Rattle.dia_answer.proofs.laws.one_answer.Goals as goal

pub returns : goal.returns
returns c d u most host realm request one other sound x y = one_answered d u most host realm request sound one other x y
