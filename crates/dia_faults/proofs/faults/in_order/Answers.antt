use Rattle.dia_faults.proofs.InOrder.{in_order}
use Rattle.dia_faults.proofs.faults.in_order.Goals as goal

pub returns : goal.returns
returns c = in_order
