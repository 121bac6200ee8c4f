use Rattle.std.proofs.Common.{sym, ◌∙◌}
use Rattle.dia_breaking.proofs.OtherReadings.{flags_shared}
use Rattle.dia_breaking.proofs.meanings.share_flags.Goals as goal

pub returns-in-Some-Some : goal.returns-in-Some-Some
returns-in-Some-Some g c =
    flags_shared (g.A.Book.meaning c.args.a.now) (g.B.Book.meaning c.args.b.now) c.args.key c.in-Some-Some.sent c.in-Some-Some.read c.share_flag.result
    (sym c.m_rule_of.ensures ∙ c.in-Some-Some.is-0) (sym c.m_rule_of-2.ensures ∙ c.in-Some-Some.is-1) c.share_flag.ensures
