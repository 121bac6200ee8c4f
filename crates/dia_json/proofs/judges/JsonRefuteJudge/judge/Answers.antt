use Rattle.dia_captures.proofs.OneMessage.{line_named}
use Rattle.dia_json.proofs.judges.JsonRefuteJudge.judge.Goals as goal

pub push_numbered_refuted-requires-clause-first : goal.push_numbered_refuted-requires-clause-first
push_numbered_refuted-requires-clause-first g c =
    line_named c.args.self.now.refute.unknown c.args.self.now.refute.levels _ c.args.line.now c.in_ok-verdict.verdict.first c.in_ok-verdict.ensures.0

pub push_numbered_refuted-requires-clause-second : goal.push_numbered_refuted-requires-clause-second
push_numbered_refuted-requires-clause-second g c =
    line_named c.args.self.now.refute.unknown c.args.self.now.refute.levels _ c.args.line.now c.in_ok-verdict.verdict.second c.in_ok-verdict.ensures.1
