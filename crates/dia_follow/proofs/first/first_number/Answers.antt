use Rattle.std.proofs.Common.{ap, ◌∙◌}
use Rattle.dia_follow.specs.Fronts.{number_in}
use Rattle.dia_follow.proofs.first.first_number.Goals as goal

pub returns-in-Some : goal.returns-in-Some
returns-in-Some c avps left front = c.number_of.ensures ∙ ap number_in (c.in-Some.ensures avps left front)

pub returns-in-None : goal.returns-in-None
returns-in-None c avps left front = ap number_in (c.in-None.ensures avps left front)
