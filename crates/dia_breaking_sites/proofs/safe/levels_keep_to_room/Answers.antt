use Rattle.dia_breaking_sites.proofs.Room.{keeps}
use Rattle.dia_breaking_sites.proofs.safe.levels_keep_to_room.Goals as goal

pub returns : goal.returns
returns c = λ da who rules room avps level. keeps da who rules room avps level
