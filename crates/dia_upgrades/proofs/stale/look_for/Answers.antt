use Rattle.std.proofs.Common.{map}
use Rattle.std.proofs.lemmas.Result.{IfOk-weaker}
use Rattle.dia_accepted.specs.Accepted.{plain_entry}
use Rattle.dia_upgrades.proofs.Answered.{unused_in}
use Rattle.dia_upgrades.proofs.stale.look_for.Goals as goal

pub returns : goal.returns
returns g c =
    IfOk-weaker c.unused_by-3.result _ _
    (λ stale is places. unused_in c.args.asked (g.A.Book.meaning c.args.a.now) (g.B.Book.meaning c.args.b.now) _ _ (map plain_entry c.in_ok-first.first.items) (map plain_entry c.in_ok-second.second.items) (map plain_entry stale.items)
    c.in_ok-entries.ensures (c.in_ok-first.ensures places) (c.in_ok-second.ensures places) (is places)) c.unused_by-3.ensures
