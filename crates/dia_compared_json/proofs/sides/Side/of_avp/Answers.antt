use Rattle.dia_compared_json.proofs.Names.{avp_there}
use Rattle.dia_compared_json.proofs.sides.Side.of_avp.Goals as goal

pub returns-in-Some : goal.returns-in-Some
returns-in-Some g c = avp_there (g.B.Book.meaning c.args.book.now) c.in-Some.entry c.args.entry _ c.entry_key.result c.in-Some.is c.requires c.group_of.ensures c.entry_key.ensures
