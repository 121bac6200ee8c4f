use Rattle.std.proofs.Common.{sym, ◌∙◌}
use Rattle.dia_valid.proofs.Entries.{not_known}
use Rattle.dia_breaking_avps.proofs.AnyData.{takes_unknown}
use Rattle.dia_breaking_avps.proofs.avp.data_break.Goals as goal

pub returns-in-None-clause-levels : goal.returns-in-None-clause-levels
returns-in-None-clause-levels g c = λ group fits. takes_unknown (g.A.Book.meaning c.args.a.now) (g.B.Book.meaning c.args.b.now) c.args.sends c.args.key (not_known (g.B.Book.meaning c.args.b.now) c.args.key (sym c.in-None.is ∙ c.avp.ensures))
