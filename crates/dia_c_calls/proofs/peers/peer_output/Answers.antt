use Rattle.std.proofs.Common.{take, refl}
use Rattle.dia_peer.specs.Outputs.{SentBytes, ClosedFor}
use Rattle.dia_c_calls.proofs.PeerCalls.{takes_moved}
use Rattle.dia_c_calls.proofs.peers.peer_output.Goals as goal

pub returns-in-Sent-clause-done : goal.returns-in-Sent-clause-done
returns-in-Sent-clause-done c is =
    let message = SentBytes (take c.in-Sent.sent c.give_in-given.new.out) in
    let given = c.give_in-given.ensures.sent c.in-Sent.sent c.in-Sent.is in
    (message, takes_moved _ _ _ _ _ message c.in-Some.ensures.some c.put.ensures c.deref_mut.ensures.value given, (refl, refl, refl))

pub returns-in-Sent-clause-count : goal.returns-in-Sent-clause-count
returns-in-Sent-clause-count c is = c.give_in-given.ensures.count c.in-Sent.sent c.in-Sent.is

pub returns-in-Closed-clause-done : goal.returns-in-Closed-clause-done
returns-in-Closed-clause-done c is =
    let closed = ClosedFor c.in-Closed.reason in
    let given = c.give_in-given.ensures.closed c.in-Closed.reason c.in-Closed.is in
    (closed, takes_moved _ _ _ _ _ closed c.in-Some.ensures.some c.put.ensures c.deref_mut.ensures.value given, (refl, refl, c.why_number.ensures))
