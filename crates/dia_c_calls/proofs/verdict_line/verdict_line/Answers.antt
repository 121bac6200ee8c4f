use Rattle.dia_captures.proofs.OneMessage.{named}
use Rattle.dia_c_calls.proofs.verdict_line.verdict_line.Goals as goal

pub push_checked-requires : goal.push_checked-requires
push_checked-requires g c = named c.args.unknown c.args.levels (g.B.Book.meaning c.args.book.now) c.args.message.now c.in_ok-verdict.verdict c.in_ok-verdict.ensures
