use Rattle.std.proofs.Common.{sym, subst}
use Rattle.dia_breaking.specs.Headers.{AreApps}
use Rattle.dia_breaking.proofs.apps.BothApps.new.Goals as goal

pub returns-clause-first : goal.returns-clause-first
returns-clause-first g c = subst (λ both. AreApps (g.A.Book.meaning c.args.a.now) both.first) (sym c.in_ok-new.ensures.ok) c.in_ok-first.ensures

pub returns-clause-second : goal.returns-clause-second
returns-clause-second g c = subst (λ both. AreApps (g.B.Book.meaning c.args.b.now) both.second) (sym c.in_ok-new.ensures.ok) c.in_ok-second.ensures
