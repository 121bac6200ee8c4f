use Rattle.dia_ccf.proofs.MachineCompleteness.{one_source}
use Rattle.dia_ccf.proofs.parsing.one_source.Goals as goal

pub returns : goal.returns
returns c = one_source
