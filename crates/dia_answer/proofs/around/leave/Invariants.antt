use Rattle.std.proofs.Common.{◌≡◌, length}
use Rattle.dia_answer.specs.Failed.{may_have, up_to}
use Rattle.dia_answer.specs.Levels.{plain_way}
use Rattle.dia_answer.proofs.around.leave.Given as goal

abbrev pub invariant-loop-step : goal.invariant-loop-step
invariant-loop-step l = up_to (may_have l.fault.reason l.fault.subject) (plain_way l.initial.way.items) ≡ up_to (may_have l.fault.reason l.fault.subject) (plain_way l.way.items)

abbrev pub decreases-loop-step : goal.decreases-loop-step
decreases-loop-step l = length l.way.items
