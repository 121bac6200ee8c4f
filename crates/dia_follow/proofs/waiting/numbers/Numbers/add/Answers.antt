use Rattle.std.proofs.lemmas.Bool.{eq-eqb, ne_eqb}
use Rattle.dia_follow.specs.Waits.{is_dwr}
use Rattle.dia_follow.proofs.Sets.{listed_more, watchdog_added, watchdog_same}
use Rattle.dia_follow.proofs.waiting.numbers.Numbers.add.Goals as goal

pub returns-in_ok-insert-3 : goal.returns-in_ok-insert-3
returns-in_ok-insert-3 c es l below =
    listed_more c.args.self.now _ es c.args.number c.args.request.now l below c.ranges.number.fits
    c.in_ok-insert.ensures.updates c.in_ok-insert-2.ensures.updates
    (watchdog_added _ _ _ _ (is_dwr c.args.request.now) (eq-eqb _ _ c.if-request-eq-DEVICE_WATCHDOG.true) c.in_ok-insert-3.ensures.updates)

pub returns-else-request-eq-DEVICE_WATCHDOG : goal.returns-else-request-eq-DEVICE_WATCHDOG
returns-else-request-eq-DEVICE_WATCHDOG c es l below =
    listed_more c.args.self.now _ es c.args.number c.args.request.now l below c.ranges.number.fits
    c.in_ok-insert.ensures.updates c.in_ok-insert-2.ensures.updates
    (watchdog_same _ c.args.number _ (is_dwr c.args.request.now) (ne_eqb _ _ c.if-request-eq-DEVICE_WATCHDOG.false))
