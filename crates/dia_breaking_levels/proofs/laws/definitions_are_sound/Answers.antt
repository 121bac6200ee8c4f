use Rattle.dia_breaking_levels.proofs.CountsAndRanks.{definition_sound}
use Rattle.dia_breaking_levels.proofs.laws.definitions_are_sound.Goals as goal

pub returns : goal.returns
returns c = λ d def is in_it. definition_sound d def is in_it
