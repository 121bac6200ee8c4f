use Rattle.std.proofs.Common.{arith}
use Rattle.std.proofs.lemmas.Option.{slice_get-get_or}
use Rattle.dia_breaking.specs.RecordedApps.{selects}
use Rattle.dia_breaking.proofs.FoundApps.{filtered}
use Rattle.dia_breaking.proofs.heads.own_apps.Goals as goal

pub loop-app-preserved : goal.loop-app-preserved
loop-app-preserved g c =
    let others = c.args.others.now in
    let i = c.loop-app.app-index in
    filtered (selects (g.A.Book.meaning c.args.a.now) c.args.command c.args.head.now) others i _ c.loop-app.apps.items c.push_own.new.apps.items c.in_ok-push_own.ensures c.loop-app.invariant
    (slice_get-get_or others i 0 (omega arith))
