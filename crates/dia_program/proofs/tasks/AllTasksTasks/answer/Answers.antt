use Rattle.dia_program.proofs.TaskFailures.{task_fails}
use Rattle.dia_program.proofs.tasks.AllTasksTasks.answer.Goals as goal

pub returns-clause-failed : goal.returns-clause-failed
returns-clause-failed g c = task_fails c.args.task.now c.args.manner.json _ c.args.origins.now c.args.inputs.now _ c.answer.result c.answer.ensures
