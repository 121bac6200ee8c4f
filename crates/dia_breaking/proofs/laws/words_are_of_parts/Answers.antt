use Rattle.dia_breaking.proofs.PartsOfLines.{words_are}
use Rattle.dia_breaking.proofs.laws.words_are_of_parts.Goals as goal

pub returns : goal.returns
returns c = words_are
