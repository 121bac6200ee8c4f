use Rattle.std.proofs.lemmas.Bool.{eq-eqb, ne_eqb}
use Rattle.dia_follow.specs.Waits.{is_dwr}
use Rattle.dia_follow.proofs.Sets.{listed_less, watchdog_added, watchdog_same}
use Rattle.dia_follow.proofs.waiting.numbers.Numbers.remove.Goals as goal

pub returns-then-request-eq-DEVICE_WATCHDOG : goal.returns-then-request-eq-DEVICE_WATCHDOG
returns-then-request-eq-DEVICE_WATCHDOG c es l at =
    listed_less c.args.self.now _ es c.args.number c.args.request.now l at c.remove.ensures.updates c.remove-2.ensures.updates
    (watchdog_added _ _ _ _ (is_dwr c.args.request.now) (eq-eqb _ _ c.if-request-eq-DEVICE_WATCHDOG.true) c.remove-then-request-eq-DEVICE_WATCHDOG.ensures.updates)

pub returns-else-request-eq-DEVICE_WATCHDOG : goal.returns-else-request-eq-DEVICE_WATCHDOG
returns-else-request-eq-DEVICE_WATCHDOG c es l at =
    listed_less c.args.self.now _ es c.args.number c.args.request.now l at c.remove.ensures.updates c.remove-2.ensures.updates
    (watchdog_same _ c.args.number _ (is_dwr c.args.request.now) (ne_eqb _ _ c.if-request-eq-DEVICE_WATCHDOG.false))
