use Rattle.dia_program.proofs.text.shown.Goals as goal

pub returns-in-Ok : goal.returns-in-Ok
returns-in-Ok g c = rw c.with_message.ensures (rw c.explained-reported.ensures c.in-Ok.ensures.ok)
