use Rattle.dia_program.proofs.Commands.{text_is_outcome}
use Rattle.dia_program.proofs.tasks.run_whole.Goals as goal

pub returns-then-manner : goal.returns-then-manner
returns-then-manner g c = rw c.if-manner.true c.run_json.ensures

pub returns-in-Show : goal.returns-in-Show
returns-in-Show g c = rw c.if-manner.false (rw c.in-Show.is c.show_plainly.ensures)

pub returns-in_default : goal.returns-in_default
returns-in_default g c = rw c.if-manner.false (text_is_outcome c.args.origins.now.table c.args.command.now c.args.inputs.now _ _ c.in_default.not-Show c.answer_plainly.ensures)
