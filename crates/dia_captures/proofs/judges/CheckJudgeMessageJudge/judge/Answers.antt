use Rattle.dia_captures.proofs.OneMessage.{named}
use Rattle.dia_captures.proofs.judges.CheckJudgeMessageJudge.judge.Goals as goal

pub push-requires : goal.push-requires
push-requires g c = named c.args.self.now.unknown c.args.self.now.levels _ c.args.message.now c.in_ok-verdict.verdict c.in_ok-verdict.ensures
