use Rattle.dia_check.proofs.checking.apart.Goals as goal

pub returns-in-Err-clause-answer : goal.returns-in-Err-clause-answer
returns-in-Err-clause-answer c = c.in-Err.ensures.answer

pub refused-requires : goal.refused-requires
refused-requires c = c.requires c.in-Ok.ensures.whole.1

pub returns-in-Ok-clause-answer : goal.returns-in-Ok-clause-answer
returns-in-Ok-clause-answer c d u most = rw c.refused.ensures tt

pub returns-in-Ok-clause-no_memory : goal.returns-in-Ok-clause-no_memory
returns-in-Ok-clause-no_memory c memory = (c.requires c.in-Ok.ensures.whole.1, c.in-Ok.ensures.whole.1)
