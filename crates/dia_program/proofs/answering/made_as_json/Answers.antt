use Rattle.dia_program.proofs.answering.made_as_json.Goals as goal

pub returns-in-Check : goal.returns-in-Check
returns-in-Check c = rw c.in-Check.is c.check.ensures.outcome

pub returns-in-Refute : goal.returns-in-Refute
returns-in-Refute c = rw c.in-Refute.is c.refute.ensures.outcome

pub returns-in-Propose : goal.returns-in-Propose
returns-in-Propose c = rw c.in-Propose.is (rw (← c.as_slice.ensures.value) c.propose.ensures.outcome)
