use Rattle.dia_breaking.proofs.DataLines.{apart}
use Rattle.dia_breaking.proofs.laws.data_lines_are_apart.Goals as goal

pub returns : goal.returns
returns c = λ s key cause is records. apart s key cause is records
