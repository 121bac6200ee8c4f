use Rattle.dia_places.proofs.OneList.{one_list}
use Rattle.dia_places.proofs.laws.paths_are_one.Goals as goal

pub returns : goal.returns
returns c = one_list
