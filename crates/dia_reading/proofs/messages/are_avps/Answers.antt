use Rattle.std.proofs.Common.{◌≡◌, length, refl, rules}
use Rattle.dia_reading.proofs.Levels.{avps_behind, no_avps, nothing}
use Rattle.dia_reading.proofs.messages.are_avps.Goals as goal

pub loop-avp-preserved : goal.loop-avp-preserved
loop-avp-preserved c =
    let same = avps_behind _ _ _ (rw c.in-Ok-Some.field-0-is at c.in-Ok-Some.ensures.avp) in
    (λ all. same.0 (c.loop-avp.invariant.0 all), λ all. c.loop-avp.invariant.1 (same.1 all))

pub returns-in-Ok-None : goal.returns-in-Ok-None
returns-in-Ok-None c =
    let none : length c.loop-avp.rest.now ≡ 0 = search (rules, c.next_avp.ensures.end, c.in-Ok-None.is, c.in-Ok-None.field-0-is) in
    (λ yes. c.loop-avp.invariant.1 (nothing c.loop-avp.rest.now none), λ all. refl)

pub returns-in-Err : goal.returns-in-Err
returns-in-Err c = (λ yes. absurd cc, λ all. absurd (no_avps c.loop-avp.rest.now c.in-Err.ensures.fault.0 c.in-Err.ensures.fault.1 (c.loop-avp.invariant.0 all)))
