use Rattle.dia_compat.proofs.FitInSecond.{placed_below}
use Rattle.dia_compat.proofs.laws.level_is_placed.Goals as goal

pub returns : goal.returns
returns c = λ da db u table most a b avps ra rb below placed all. placed_below da db u table a b ra rb below avps placed most all
