use Rattle.dia_c_calls.proofs.FedStreams.{alike, err_is, has_fed, opens_in, occurs_for_none}
use Rattle.dia_c_calls.proofs.streams.stream_feed.Goals as goal

pub returns-in-Ok-clause-done : goal.returns-in-Ok-clause-done
returns-in-Ok-clause-done c is =
    has_fed _ _ _ c.in-Some.ensures.some c.feeding_in.ensures _ _ _ c.put.ensures c.replace.ensures.after c.fed-feeding.result.1 c.in-Ok.progress _ c.args.piece.now c.in-Ok.is c.fed_of.ensures
    c.fed-feeding.ensures.taken

pub returns-in-NoMemory-clause-no_memory : goal.returns-in-NoMemory-clause-no_memory
returns-in-NoMemory-clause-no_memory c is =
    opens_in _ _ _ c.in-Some.ensures.some c.feeding_in.ensures c.args.piece.now
    (c.fed-feeding.ensures.no_memory (err_is _ _ _ c.in-Err.is c.in-NoMemory.is))

pub returns-in-Spent-clause-nothing : goal.returns-in-Spent-clause-nothing
returns-in-Spent-clause-nothing c is =
    occurs_for_none _ _ _ c.in-Some.ensures.some c.feeding_in.ensures _ (err_is _ _ _ c.in-Err.is c.in-Spent.is) c.fed-feeding.ensures.never

pub returns-in-Ok-clause-alike : goal.returns-in-Ok-clause-alike
returns-in-Ok-clause-alike c = alike _ _ _ c.in-Some.ensures.some c.feeding_in.ensures _ _ _ c.put.ensures c.replace.ensures.after c.fed-feeding.ensures.alike

pub returns-in-NoMemory-clause-alike : goal.returns-in-NoMemory-clause-alike
returns-in-NoMemory-clause-alike c = alike _ _ _ c.in-Some.ensures.some c.feeding_in.ensures _ _ _ c.put.ensures c.replace.ensures.after c.fed-feeding.ensures.alike

pub returns-in-Spent-clause-alike : goal.returns-in-Spent-clause-alike
returns-in-Spent-clause-alike c = alike _ _ _ c.in-Some.ensures.some c.feeding_in.ensures _ _ _ c.put.ensures c.replace.ensures.after c.fed-feeding.ensures.alike
