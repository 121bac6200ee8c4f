use Rattle.dia_compat.proofs.FitInSecond.{body}
use Rattle.dia_compat.proofs.laws.level_is_included.Goals as goal

pub returns : goal.returns
returns c = λ da db u table most a b avps sa sb closed ra rb below placed all. body da db sa sb u table closed most a b avps ra rb below placed all
