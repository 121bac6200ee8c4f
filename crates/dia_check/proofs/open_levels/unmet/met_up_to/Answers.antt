use Rattle.std.proofs.lemmas.Option.{slice_get-get_or}
use Rattle.dia_check.proofs.KeptLevels.{met_next}
use Rattle.dia_check.proofs.open_levels.unmet.met_up_to.Goals as goal
