use Rattle.dia_answer.proofs.OwnErrors.{own_errors}
use Rattle.dia_answer.proofs.laws.own_error_message.Goals as goal

pub returns : goal.returns
returns c = own_errors
