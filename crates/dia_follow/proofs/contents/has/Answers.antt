use Rattle.std.proofs.Common.{ap}
use Rattle.std.specs.Prelude.{is_some}
use Rattle.dia_follow.proofs.contents.has.Goals as goal

pub returns-in-Some : goal.returns-in-Some
returns-in-Some c avps left front = ap is_some (c.in-Some.ensures avps left front)

pub returns-in-None : goal.returns-in-None
returns-in-None c avps left front = ap is_some (c.in-None.ensures avps left front)
