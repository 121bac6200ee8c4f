use Rattle.dia_streams.proofs.OneAnswer.{put_is_beginning}
use Rattle.dia_streams.proofs.laws.front_is_beginning.Goals as goal

pub returns : goal.returns
returns g c = λ once. put_is_beginning (g.J.Judge.says c.args.judge.now) once (g.J.Judge.recorded c.args.judge.now)
