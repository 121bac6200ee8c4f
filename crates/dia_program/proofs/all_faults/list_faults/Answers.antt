use Rattle.dia_program.specs.Answers.{IsAllFaults}
use Rattle.dia_program.proofs.Runs.{runs_of_put}
use Rattle.dia_program.proofs.all_faults.list_faults.Goals as goal

pub returns : goal.returns
returns g c = runs_of_put (IsAllFaults c.args.unknown c.args.levels c.args.inputs.now) c.made_of.result _ c.put_answer.result c.made_of.ensures c.put_answer.ensures
