use Rattle.dia_breaking_avps.proofs.ShortLevels.{short_accepted}
use Rattle.dia_breaking_avps.proofs.laws.short_levels_are_accepted.Goals as goal

pub returns : goal.returns
returns c = short_accepted
