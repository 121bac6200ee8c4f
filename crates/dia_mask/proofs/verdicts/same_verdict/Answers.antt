use Rattle.dia_mask.proofs.Judged.{judged_alike}
use Rattle.dia_mask.proofs.verdicts.same_verdict.Goals as goal

pub returns : goal.returns
returns c = judged_alike
