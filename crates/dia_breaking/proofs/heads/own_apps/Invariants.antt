use Rattle.std.proofs.Common.{◌≡◌, filter, take}
use Rattle.dia_breaking.specs.RecordedApps.{selects}
use Rattle.dia_breaking.proofs.heads.own_apps.Given as goal

abbrev pub invariant-loop-app : goal.invariant-loop-app
invariant-loop-app g l = l.apps.items ≡ filter (selects (g.A.Book.meaning l.a) l.command l.head) (take l.app-index l.others)
