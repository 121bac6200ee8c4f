use Rattle.dia_accepted.proofs.CountedLines.{own_accepts}
use Rattle.dia_accepted.proofs.laws.own_entry_accepts.Goals as goal

pub returns : goal.returns
returns c = λ n words text line is. own_accepts words line is n text
