use Rattle.dia_streams.proofs.OneAnswer.{text_once}
use Rattle.dia_streams.proofs.laws.text_has_one_answer.Goals as goal

pub returns : goal.returns
returns g c = text_once (g.J.Judge.says c.args.judge.now)
