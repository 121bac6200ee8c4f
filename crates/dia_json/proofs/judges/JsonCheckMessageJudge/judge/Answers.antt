use Rattle.dia_captures.proofs.OneMessage.{named}
use Rattle.dia_json.proofs.judges.JsonCheckMessageJudge.judge.Goals as goal

pub push_placed-requires : goal.push_placed-requires
push_placed-requires g c = named c.args.self.now.check.unknown c.args.self.now.check.levels (g.B.Book.meaning c.args.self.now.check.book.now) c.args.message.now c.in_ok-verdict.verdict c.in_ok-verdict.ensures
