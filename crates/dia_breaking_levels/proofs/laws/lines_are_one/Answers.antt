use Rattle.dia_breaking_levels.proofs.ExactLines.{lines_one}
use Rattle.dia_breaking_levels.proofs.laws.lines_are_one.Goals as goal

pub returns : goal.returns
returns c = lines_one
