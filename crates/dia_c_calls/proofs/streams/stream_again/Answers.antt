use Rattle.dia_c_calls.proofs.FedStreams.{begins_again, err_is, has_finished, has_no_answer}
use Rattle.dia_c_calls.proofs.streams.stream_again.Goals as goal

pub returns-in-Ok-clause-done : goal.returns-in-Ok-clause-done
returns-in-Ok-clause-done c is = has_finished _ _ _ c.in-Some.ensures.some c.feeding_in.ensures _ _ c.again-feeding.ensures.answer c.in-Ok.ensures.recorded

pub returns-in-Ok-clause-begins : goal.returns-in-Ok-clause-begins
returns-in-Ok-clause-begins c =
    begins_again _ _ _ c.in-Some.ensures.some c.feeding_in.ensures _ _ _ c.put.ensures c.replace.ensures.after c.again-feeding.ensures.begins

pub returns-in-Err-Spent-clause-begins : goal.returns-in-Err-Spent-clause-begins
returns-in-Err-Spent-clause-begins c =
    begins_again _ _ _ c.in-Some.ensures.some c.feeding_in.ensures _ _ _ c.put.ensures c.replace.ensures.after c.again-feeding.ensures.begins

pub returns-in-Err-Spent-clause-nothing : goal.returns-in-Err-Spent-clause-nothing
returns-in-Err-Spent-clause-nothing c is =
    has_no_answer _ _ _ c.in-Some.ensures.some c.feeding_in.ensures _ c.again-feeding.ensures.answer
    (c.verdict_of.ensures.spent.0 (err_is _ _ _ c.in-Err-Spent.is c.in-Err-Spent.field-0-is))
