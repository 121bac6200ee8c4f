use Rattle.dia_c_calls.proofs.FedStreams.{alike, has_levels}
use Rattle.dia_c_calls.proofs.streams.stream_levels.Goals as goal

pub returns-clause-done : goal.returns-clause-done
returns-clause-done c is = has_levels _ _ _ c.in-Some.ensures.some c.feeding_in.ensures _ c.counted-feeding.ensures.levels

pub returns-clause-alike : goal.returns-clause-alike
returns-clause-alike c = alike _ _ _ c.in-Some.ensures.some c.feeding_in.ensures _ _ _ c.put.ensures c.replace.ensures.after c.counted-feeding.ensures.alike
