use Rattle.std.proofs.Common.{rules}
use Rattle.dia_breaking.specs.RecordedApps.{AreOpenApps, AreRecordedApps}
use Rattle.dia_breaking.specs.Headers.{both_apps}
use Rattle.dia_breaking.proofs.FoundApps.{with_own, without_own}
use Rattle.dia_breaking.proofs.Lists.{when_ok}
use Rattle.dia_breaking.proofs.heads.recorded_apps.Goals as goal

pub returns-in_ok-push-in-Some : goal.returns-in_ok-push-in-Some
returns-in_ok-push-in-Some g c = with_own _ _ c.args.head.now.app c.in-Some.app c.in-Some.is (search rules)

pub returns-in-None : goal.returns-in-None
returns-in-None g c =
    let da = g.A.Book.meaning c.args.a.now in
    let first = c.args.both.now.first in
    let second = c.args.both.now.second in
    let head = c.args.head.now in
    when_ok (λ apps. AreOpenApps da (both_apps first second) c.args.command head apps.items) (λ apps. AreRecordedApps da (both_apps first second) c.args.command head apps.items) c.open_apps.result
    (λ apps. without_own _ _ head.app c.in-None.is) c.open_apps.ensures
