use Rattle.dia_answer.proofs.Heads.{filled_by}
use Rattle.dia_answer.proofs.example.filled.Goals as goal

pub returns : goal.returns
returns c = filled_by c.args.level.now c.copy_from_slice.new.self c.min-count.result c.min-count.ensures c.copy_from_slice.ensures.after
