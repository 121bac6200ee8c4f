use Rattle.std.proofs.Common.{arith}
use Rattle.dia_c_calls.proofs.texts.render.Goals as goal

pub returns-in-Err-Bad-clause-refused : goal.returns-in-Err-Bad-clause-refused
returns-in-Err-Bad-clause-refused c is = c.in-Err-Bad.ensures.problem c.in-Err-Bad.recorded (grind arith)
