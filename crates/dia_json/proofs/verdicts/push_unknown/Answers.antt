use Rattle.std.proofs.Common.{append_assoc}
use Rattle.serde_json.proofs.OnLiterals.{serde_json_on_literals}
use Rattle.dia_json.proofs.verdicts.push_unknown.Goals as goal

pub returns : goal.returns
unfolding serde_json_on_literals
returns c = simp append_assoc c.write.ensures.bytes
