use Rattle.std.proofs.Common.{List, ◌≡◌, length, Some, subst, ap, arith}
use Rattle.std.specs.Prelude.{slice_get}
use Rattle.dia_peer.specs.declared.event.Output.{Output}
use Rattle.dia_peer.specs.Outputs.{plain_output}
use Rattle.dia_c_calls.proofs.PeerCalls.{at_place, wants_room}
use Rattle.dia_c_calls.proofs.peer.Peer.give.Goals as goal

pub returns-then-not-copied_whole-clause-wanted : goal.returns-then-not-copied_whole-clause-wanted
returns-then-not-copied_whole-clause-wanted c count is =
    let peer = c.args.self.now in
    let output = c.in-Some-Send.field-0.now in
    let there = c.in-Some-Send.ensures.lookup in
    let at = subst (λ (outputs : List Output). slice_get outputs peer.taken ≡ Some output) c.deref.ensures.value
    (at_place c.deref.result.now peer.taken output there.3.0 there.1) in
    let long : c.len-count.result ≡ length c.in-Some-Send.bytes.items = omega (arith, c.len-count.ensures, c.in-Some-Send.bytes.ok.0) in
    wants_room peer output c.in-Some-Send.bytes.items count c.len-count.result at (ap plain_output c.in-Some-Send.field-0-is) long is
