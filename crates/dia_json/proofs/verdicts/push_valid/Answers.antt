use Rattle.serde_json.proofs.OnLiterals.{serde_json_on_literals}
use Rattle.dia_json.proofs.verdicts.push_valid.Goals as goal

pub returns : goal.returns
unfolding serde_json_on_literals
returns c = rw c.in_ok-name.ensures at c.write.ensures.bytes
