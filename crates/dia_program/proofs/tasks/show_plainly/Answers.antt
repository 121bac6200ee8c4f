use Rattle.dia_program.proofs.tasks.show_plainly.Goals as goal
use Rattle.dia_program.proofs.Commands.{show_with_words}

pub returns-in-Nowhere : goal.returns-in-Nowhere
returns-in-Nowhere g c = rw c.in-Nowhere.is c.answer_plainly.ensures

pub returns-in_default : goal.returns-in_default
returns-in_default g c = show_with_words c.args.origins.now.table c.args.inputs.now _ _ c.in_default.not-Nowhere c.show_words.ensures
