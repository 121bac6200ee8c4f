use Rattle.dia_program.proofs.AllBytes.{lists_of_bytes}
use Rattle.dia_program.proofs.laws.lists_of_bytes.Goals as goal

pub returns : goal.returns
returns c = lists_of_bytes
