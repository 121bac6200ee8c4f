use Rattle.dia_follow.proofs.Sets.{watchdog_listed, watchdog_not_listed}
use Rattle.dia_follow.proofs.waiting.numbers.Numbers.watchdog.Goals as goal

pub returns-in-Some : goal.returns-in-Some
returns-in-Some c es l = watchdog_listed c.args.self.now es _ l c.in-Some.ensures.member c.in-Some.ensures.least

pub returns-in-None : goal.returns-in-None
returns-in-None c es l = watchdog_not_listed c.args.self.now es l c.in-None.ensures.variant
