use Rattle.dia_check.proofs.HeaderAnswers.{has_length}
use Rattle.dia_c_calls.proofs.verdict.message_length.Goals as goal

pub returns-in-Ok-clause-length : goal.returns-in-Ok-clause-length
returns-in-Ok-clause-length c = has_length c.in-Ok.field-0-0 c.in-Ok.length c.args.bytes.now c.in-Ok.ensures.head c.in-Ok.ensures.sound
