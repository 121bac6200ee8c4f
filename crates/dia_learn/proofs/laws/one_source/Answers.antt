use Rattle.dia_learn.proofs.OneSource.{one_source}
use Rattle.dia_learn.proofs.laws.one_source.Goals as goal

pub returns : goal.returns
returns c = one_source
