use Rattle.std.proofs.Common.{length}
use Rattle.dia_answer.proofs.Fronts.{HasRead}
use Rattle.dia_answer.proofs.request.front_of.Given as goal

abbrev pub invariant-loop-avp : goal.invariant-loop-avp
invariant-loop-avp l = HasRead l.initial.level l.avps.items l.left

abbrev pub decreases-loop-avp : goal.decreases-loop-avp
decreases-loop-avp l = length l.left
