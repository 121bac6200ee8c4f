use Rattle.dia_program.proofs.AllBytes.{captures_of_bytes}
use Rattle.dia_program.proofs.laws.captures_of_bytes.Goals as goal

pub returns : goal.returns
returns c = captures_of_bytes
