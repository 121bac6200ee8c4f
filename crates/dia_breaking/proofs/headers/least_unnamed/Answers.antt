use Rattle.std.proofs.Common.{rules}
use Rattle.dia_breaking.proofs.FoundApps.{all_named, least_unnamed, named_by, unnamed_by}
use Rattle.dia_breaking.proofs.headers.least_unnamed.Goals as goal

pub returns-then-is_named : goal.returns-then-is_named
returns-then-is_named c =
    all_named c.args.first.now c.args.second.now _ c.in_ok-app.app c.in_ok-joined.ensures c.in_ok-app.ensures.below c.in_ok-app.ensures.missing
    (named_by c.args.first.now c.args.second.now c.in_ok-app.app c.is_named.result c.is_named.ensures c.if-is_named.true)

pub returns-else-is_named : goal.returns-else-is_named
returns-else-is_named c =
    least_unnamed c.args.first.now c.args.second.now _ c.in_ok-app.app c.in_ok-joined.ensures c.in_ok-app.ensures.below c.in_ok-app.ensures.missing (search rules)
    (unnamed_by c.args.first.now c.args.second.now c.in_ok-app.app c.is_named.result c.is_named.ensures c.if-is_named.false)
