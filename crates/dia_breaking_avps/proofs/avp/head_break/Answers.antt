use Rattle.std.proofs.Common.{sym, ◌∙◌}
use Rattle.dia_breaking_avps.proofs.Heads.{head_known}
use Rattle.dia_breaking_avps.proofs.avp.head_break.Goals as goal

pub returns-in-Some : goal.returns-in-Some
returns-in-Some g c =
    head_known (g.A.Book.meaning c.args.a.now) (g.B.Book.meaning c.args.b.now) c.args.sends c.args.unknown c.args.key c.m_flags-sent.result c.m_flags.result c.own_policy.result c.own_policy.ensures
    c.m_flags-sent.ensures.clear c.m_flags-sent.ensures.set c.m_flags.ensures.clear c.m_flags.ensures.set c.in_ok-m.m c.in_ok-m.ensures c.in-Some.field-0 (sym c.in-Some.is ∙ c.avp.ensures)
