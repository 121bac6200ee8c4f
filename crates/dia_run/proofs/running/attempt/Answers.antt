use Rattle.dia_run.proofs.running.attempt.Goals as goal

pub returns-in-Propose-clause-outcome : goal.returns-in-Propose-clause-outcome
returns-in-Propose-clause-outcome c = let made = rw c.as_slice.ensures.value at c.propose.ensures.outcome in rw c.in-Propose.is made
