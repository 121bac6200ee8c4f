use Rattle.dia_captures.proofs.OneMessage.{line_named}
use Rattle.dia_json.proofs.judges.JsonCheckJudge.judge.Goals as goal

pub push_numbered-requires : goal.push_numbered-requires
push_numbered-requires g c = line_named c.args.self.now.check.unknown c.args.self.now.check.levels (g.B.Book.meaning c.args.self.now.check.book.now) c.args.line.now c.in_ok-verdict.verdict c.in_ok-verdict.ensures
