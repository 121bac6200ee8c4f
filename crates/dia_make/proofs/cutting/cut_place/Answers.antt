use Rattle.std.proofs.Common.{drop}
use Rattle.dia_make.proofs.Shown.{read_more}
use Rattle.dia_make.proofs.cutting.cut_place.Goals as goal

pub loop-following-preserved : goal.loop-following-preserved
loop-following-preserved c =
    rw c.in-Ok-Some.field-0-is
    (read_more (drop 20 c.args.message.now) c.loop-following.rest.now c.in-Ok-Some.following.now _ c.loop-following.invariant (rw c.in-Ok-Some.field-0-is at c.in-Ok-Some.ensures.avp))
