use Rattle.dia_c_calls.proofs.feeding.begun.Goals as goal

pub returns-clause-paused : goal.returns-clause-paused
returns-clause-paused g c = c.pause.ensures.paused _ _ _ _ c.new.ensures.empty
