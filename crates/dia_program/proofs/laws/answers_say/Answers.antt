use Rattle.dia_program.proofs.Claims.{answers_say}
use Rattle.dia_program.proofs.laws.answers_say.Goals as goal

pub returns : goal.returns
returns c = answers_say
