use Rattle.dia_breaking_sites.proofs.LevelsOfB.{levels_read}
use Rattle.dia_breaking_sites.proofs.safe.levels_are_read.Goals as goal

pub returns : goal.returns
returns c = λ da db who u x y avps sent asked. levels_read da db who u x y avps sent asked
