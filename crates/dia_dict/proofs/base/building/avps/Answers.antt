use Rattle.std.proofs.Common.{refl}
use Rattle.dia_dict.proofs.base.building.avps.Goals as goal

pub declarations-requires : goal.declarations-requires
declarations-requires c = refl

pub returns : goal.returns
returns c = c.declarations.ensures
