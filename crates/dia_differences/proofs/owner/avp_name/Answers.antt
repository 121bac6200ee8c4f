use Rattle.std.proofs.Common.{arith}
use Rattle.dia_differences.proofs.Names.{avp_name}
use Rattle.dia_differences.proofs.owner.avp_name.Goals as goal

pub returns : goal.returns
returns g c = avp_name (g.B.Book.meaning c.args.book.now).entries c.args.index c.entry_at.result c.entry_name.result.now c.entry_at.ensures (omega arith) c.entry_name.ensures
