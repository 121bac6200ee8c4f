use Rattle.dia_show.proofs.OneText.{one_answer}
use Rattle.dia_show.proofs.laws.one_show_of_line.Goals as goal

pub returns : goal.returns
returns c = one_answer
