use Rattle.dia_lint.proofs.ListedAvps.{none_marked, one_unmarked}
use Rattle.dia_lint.proofs.listed.no_marks.Goals as goal

pub loop-init : goal.loop-init
loop-init c = none_marked c.new-marks.result.items c.new-marks.ensures.items

pub loop-preserved : goal.loop-preserved
loop-preserved c = one_unmarked c.loop.counter c.loop.marks.items _ c.loop.invariant c.in_ok-push.ensures.items
