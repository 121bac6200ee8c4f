use Rattle.dia_run.proofs.commands.refute.checked.Goals as goal

pub returns-in_default-clause-valid : goal.returns-in_default-clause-valid
returns-in_default-clause-valid g c = ((λ h. absurd cc), (λ valid. absurd (c.in_default.not-NoMemory (c.in-Err.ensures.valid valid.0 valid.1))))
