use Rattle.dia_c_calls.proofs.FedStreams.{err_is, has_finished, has_no_answer}
use Rattle.dia_c_calls.proofs.streams.stream_finish.Goals as goal

pub returns-in-Ok-clause-done : goal.returns-in-Ok-clause-done
returns-in-Ok-clause-done c is = has_finished _ _ _ c.in-Some.ensures.some c.feeding_in.ensures _ _ c.finished.ensures.answer c.in-Ok.ensures.recorded

pub returns-in-Err-Spent-clause-nothing : goal.returns-in-Err-Spent-clause-nothing
returns-in-Err-Spent-clause-nothing c is =
    has_no_answer _ _ _ c.in-Some.ensures.some c.feeding_in.ensures _ c.finished.ensures.answer
    (c.verdict_of.ensures.spent.0 (err_is _ _ _ c.in-Err-Spent.is c.in-Err-Spent.field-0-is))
