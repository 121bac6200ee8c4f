use Rattle.dia_captures.proofs.OneMessage.{line_named}
use Rattle.dia_captures.proofs.judges.CheckJudgeJudge.judge.Goals as goal

pub push-requires : goal.push-requires
push-requires g c = line_named c.args.self.now.unknown c.args.self.now.levels _ c.args.line.now c.in_ok-verdict.verdict c.in_ok-verdict.ensures
