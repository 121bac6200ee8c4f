use Rattle.dia_answer.proofs.StrictAnswers.{strict}
use Rattle.dia_answer.proofs.laws.valid_where_failed_fits.Goals as goal

pub returns : goal.returns
returns c = strict
