use Rattle.dia_answer.proofs.CerAnswers.{cer_form}
use Rattle.dia_answer.proofs.laws.cer_gets_error_message.Goals as goal

pub returns : goal.returns
returns c = cer_form
