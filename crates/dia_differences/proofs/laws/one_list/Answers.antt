use Rattle.dia_differences.proofs.OneList.{one_list}
use Rattle.dia_differences.proofs.laws.one_list.Goals as goal

pub returns : goal.returns
returns c = one_list
