use Rattle.std.proofs.Common.{◌∙◌, refl}
use Rattle.dia_text.proofs.PartsOfTexts.{more_parts, last_part}
use Rattle.dia_text.proofs.splitting.split.Goals as goal

pub loop-part-preserved : goal.loop-part-preserved
loop-part-preserved c =
    rw c.in_ok-push.ensures.items (more_parts c.args.byte c.loop-part.found.items c.in-Some.part c.loop-part.rest.now c.in-Some.following.now c.in-Some.ensures.some c.in-Some.ensures.part
    ∙ c.loop-part.invariant)

pub returns : goal.returns
returns c =
    rw c.in_ok-push-2.ensures.items (last_part c.args.byte c.loop-part.found.items c.loop-part.rest (c.in_default.ensures.none refl) ∙ c.loop-part.invariant)
