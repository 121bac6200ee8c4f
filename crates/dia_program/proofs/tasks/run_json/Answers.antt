use Rattle.dia_program.proofs.tasks.run_json.Goals as goal

pub returns-in-Show : goal.returns-in-Show
returns-in-Show g c = rw c.in-Show.is c.show_json.ensures
