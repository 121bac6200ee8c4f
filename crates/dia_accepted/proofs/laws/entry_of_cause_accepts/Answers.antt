use Rattle.dia_accepted.proofs.CountedLines.{everywhere_accepts}
use Rattle.dia_accepted.proofs.laws.entry_of_cause_accepts.Goals as goal

pub returns : goal.returns
returns c = λ n words text line is. everywhere_accepts words line is n text
