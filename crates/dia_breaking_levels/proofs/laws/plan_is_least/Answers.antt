use Rattle.dia_breaking_levels.proofs.LeastLevels.{plan_placed, plan_least}
use Rattle.dia_breaking_levels.proofs.laws.plan_is_least.Goals as goal

pub returns-clause-placed : goal.returns-clause-placed
returns-clause-placed c = λ rules filler are free. plan_placed rules filler are free

pub returns-clause-least : goal.returns-clause-least
returns-clause-least c = λ rules filler cost keys sound placed cheap. plan_least rules filler cost keys sound placed cheap
