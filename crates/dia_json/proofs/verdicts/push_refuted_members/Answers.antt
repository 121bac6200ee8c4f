use Rattle.std.proofs.Common.{rules}
use Rattle.serde_json.proofs.OnLiterals.{serde_json_on_literals}
use Rattle.dia_json.proofs.verdicts.push_refuted_members.Goals as goal

pub returns-in-Wrong-TooLong : goal.returns-in-Wrong-TooLong
unfolding serde_json_on_literals
returns-in-Wrong-TooLong g c = search rules

pub returns-in-Wrong-NotHexadecimal : goal.returns-in-Wrong-NotHexadecimal
unfolding serde_json_on_literals
returns-in-Wrong-NotHexadecimal g c = search rules
