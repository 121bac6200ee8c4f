use Rattle.dia_program.proofs.text.made.Goals as goal
use Rattle.dia_program.proofs.Commands.{make_with_words}

pub returns-in-Nowhere : goal.returns-in-Nowhere
returns-in-Nowhere g c = rw c.in-Nowhere.is c.make_all.ensures

pub returns-in_default : goal.returns-in_default
returns-in_default g c = make_with_words c.args.origins.now.table c.args.inputs.now _ _ c.in_default.not-Nowhere c.make_all-in_default.ensures
