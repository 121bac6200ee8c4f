use Rattle.dia_breaking_avps.proofs.Alone.{key_alone}
use Rattle.dia_breaking_avps.proofs.avp.avp_breaks.Goals as goal

pub returns-clause-content : goal.returns-clause-content
returns-clause-content g c = c.data_break-data.ensures.content c.args.unknown

pub returns-clause-alone : goal.returns-clause-alone
returns-clause-alone g c =
    key_alone (g.A.Book.meaning c.args.a.now) (g.B.Book.meaning c.args.b.now) c.args.sends c.args.unknown c.args.key c.head_break-head.result c.data_break-data.result c.head_break-head.ensures
    (c.data_break-data.ensures.content c.args.unknown)
