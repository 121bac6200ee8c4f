use Rattle.dia_breaking_shortest.proofs.SpelledLeast.{least_spelled, levels_spelled}
use Rattle.dia_breaking_shortest.proofs.laws.least_avps_are_spelled.Goals as goal

pub returns : goal.returns
returns c = record { one = least_spelled; level = levels_spelled }
