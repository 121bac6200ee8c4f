use Rattle.std.proofs.Common.{refl}
use Rattle.dia_dict.proofs.base.building.groups.Goals as goal

pub definitions-requires : goal.definitions-requires
definitions-requires c = refl

pub returns : goal.returns
returns c = c.definitions.ensures
