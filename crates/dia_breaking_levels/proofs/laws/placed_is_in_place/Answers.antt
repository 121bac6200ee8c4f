use Rattle.dia_breaking_levels.proofs.CountsAndRanks.{placed-in_place}
use Rattle.dia_breaking_levels.proofs.KeysInPlace.{in_place-placed}
use Rattle.dia_breaking_levels.proofs.laws.placed_is_in_place.Goals as goal

pub returns : goal.returns
returns c = λ rules keys sound. (placed-in_place rules keys sound, in_place-placed rules keys sound)
