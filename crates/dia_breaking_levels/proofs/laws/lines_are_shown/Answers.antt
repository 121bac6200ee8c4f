use Rattle.dia_breaking_levels.proofs.ShownLines.{lines_shown}
use Rattle.dia_breaking_levels.proofs.laws.lines_are_shown.Goals as goal

pub returns : goal.returns
returns c = lines_shown
