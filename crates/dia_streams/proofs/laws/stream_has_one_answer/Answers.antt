use Rattle.dia_streams.proofs.OneStream.{stream_once}
use Rattle.dia_streams.proofs.laws.stream_has_one_answer.Goals as goal

pub returns : goal.returns
returns g c = stream_once (g.J.MessageJudge.says c.args.judge.now)
