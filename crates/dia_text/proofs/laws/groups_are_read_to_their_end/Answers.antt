use Rattle.std.proofs.Common.{length, arith}
use Rattle.dia_text.proofs.Shorter.{same_group}
use Rattle.dia_text.proofs.laws.groups_are_read_to_their_end.Goals as goal

pub returns : goal.returns
returns c = λ d head level text n h. same_group n (length text) d head level text h (omega arith)
