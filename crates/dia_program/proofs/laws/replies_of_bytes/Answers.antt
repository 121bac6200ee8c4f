use Rattle.dia_program.proofs.AllBytes.{replies_of_bytes}
use Rattle.dia_program.proofs.laws.replies_of_bytes.Goals as goal

pub returns : goal.returns
returns c = replies_of_bytes
