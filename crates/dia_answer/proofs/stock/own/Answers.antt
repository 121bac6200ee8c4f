use Rattle.dia_answer.proofs.Flags.{made_flags}
use Rattle.dia_answer.proofs.stock.own.Goals as goal

pub new-requires : goal.new-requires
new-requires g c = made_flags (g.B.Book.meaning c.args.book.now) c.base_key.result c.m_flag.result c.m_flag.ensures
