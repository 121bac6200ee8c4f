use Rattle.dia_breaking.proofs.EachShown.{line_shown}
use Rattle.dia_breaking.proofs.laws.lines_are_shown.Goals as goal

pub returns : goal.returns
returns c = line_shown
