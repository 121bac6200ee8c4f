use Rattle.dia_follow.proofs.Fronts.{passed_more}
use Rattle.dia_follow.proofs.first.after_avps.Goals as goal

pub loop-following-preserved : goal.loop-following-preserved
loop-following-preserved c =
    passed_more c.args.level.now c.loop-following.left.now c.in-Ok-Some.following.now _ c.loop-following.invariant (rw c.in-Ok-Some.field-0-is at c.in-Ok-Some.ensures.avp)
