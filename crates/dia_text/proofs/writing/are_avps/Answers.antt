use Rattle.std.proofs.Common.{refl}
use Rattle.std.proofs.lemmas.Bool.{false≢true}
use Rattle.dia_text.proofs.LevelTexts.{avps_step, empty_level, no_avps}
use Rattle.dia_text.proofs.writing.are_avps.Goals as goal

pub loop-following-preserved : goal.loop-following-preserved
loop-following-preserved c =
    let both = avps_step _ _ _ (rw c.in-Ok-Some.field-0-is at c.in-Ok-Some.ensures.avp) in
    (λ h. c.loop-following.invariant.0 (both.0 h), λ h. both.1 (c.loop-following.invariant.1 h))

pub returns-in-Ok-None : goal.returns-in-Ok-None
returns-in-Ok-None c = (λ _. c.loop-following.invariant.0 (empty_level _ (c.in-Ok-None.ensures.end.0 (rw c.in-Ok-None.field-0-is refl))), λ _. refl)

pub returns-in-Err-Length : goal.returns-in-Err-Length
returns-in-Err-Length c =
    (λ e. absurd (false≢true e), λ h. absurd (no_avps _ c.in-Err-Length.ensures.fault.0 c.in-Err-Length.ensures.fault.1 (c.loop-following.invariant.1 h)))
