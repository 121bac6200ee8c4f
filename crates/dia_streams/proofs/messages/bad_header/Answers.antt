use Rattle.dia_streams.proofs.messages.bad_header.Goals as goal

pub returns-then-is_endless-clause-bad : goal.returns-then-is_endless-clause-bad
returns-then-is_endless-clause-bad c = c.is_endless.ensures.0 c.if-is_endless.true
