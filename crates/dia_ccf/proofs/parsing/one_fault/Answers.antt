use Rattle.dia_ccf.proofs.OneFault.{one_fault}
use Rattle.dia_ccf.proofs.parsing.one_fault.Goals as goal

pub returns : goal.returns
returns c = one_fault
