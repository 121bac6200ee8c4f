use Rattle.std.proofs.Common.{◌≡◌, [], take, Some, refl, sym, subst, ◌∙◌}
use Rattle.std.specs.Prelude.{IsSome}
use Rattle.std.proofs.Math.Logic.{∥∥₁_elim}
use Rattle.dia_c_calls.specs.declared.held.Held.{Held}
use Rattle.dia_c_calls.specs.Held.{MayBePeer, peer_in}
use Rattle.dia_peer.specs.Outputs.{SentBytes, ClosedFor}
use Rattle.dia_c_calls.specs.PeerSteps.{PlainEnd, WantsRoom}
use Rattle.dia_c_calls.proofs.PeerCalls.{held_end, same_box, takes_held}
use Rattle.dia_c_calls.proofs.handle.end.give_in.Goals as goal

pub unreachable-requires : goal.unreachable-requires
unreachable-requires c = ∥∥₁_elim c.requires (λ a b. absurd a) (λ may. subst (λ (h : Held). MayBePeer (Some h)) c.in-Dict.is may)

pub unreachable-requires-in-Text : goal.unreachable-requires-in-Text
unreachable-requires-in-Text c = ∥∥₁_elim c.requires (λ a b. absurd a) (λ may. subst (λ (h : Held). MayBePeer (Some h)) c.in-Text.is may)

pub unreachable-requires-in-Faults : goal.unreachable-requires-in-Faults
unreachable-requires-in-Faults c = ∥∥₁_elim c.requires (λ a b. absurd a) (λ may. subst (λ (h : Held). MayBePeer (Some h)) c.in-Faults.is may)

pub unreachable-requires-in-Stream : goal.unreachable-requires-in-Stream
unreachable-requires-in-Stream c = ∥∥₁_elim c.requires (λ a b. absurd a) (λ may. subst (λ (h : Held). MayBePeer (Some h)) c.in-Stream.is may)

pub unreachable-requires-in-Nothing : goal.unreachable-requires-in-Nothing
unreachable-requires-in-Nothing c = ∥∥₁_elim c.requires (λ a b. absurd a) (λ may. subst (λ (h : Held). MayBePeer (Some h)) c.in-Nothing.is may)

pub returns-clause-sent : goal.returns-clause-sent
returns-clause-sent c count is =
    takes_held c.args.held.now c.in-Peer.peer c.deref_mut.result.now c.give.new.self (SentBytes (take count c.give.new.out)) c.in-Peer.is c.deref_mut.ensures.value (c.give.ensures.sent count is)

pub returns-clause-closed : goal.returns-clause-closed
returns-clause-closed c why is = takes_held c.args.held.now c.in-Peer.peer c.deref_mut.result.now c.give.new.self (ClosedFor why) c.in-Peer.is c.deref_mut.ensures.value (c.give.ensures.closed why is)

pub returns-clause-wanted : goal.returns-clause-wanted
returns-clause-wanted c count is = held_end (WantsRoom count) c.args.held.now c.in-Peer.peer c.deref_mut.result.now c.in-Peer.is c.deref_mut.ensures.value (c.give.ensures.wanted count is)

pub returns-clause-kept : goal.returns-clause-kept
returns-clause-kept c count is = same_box c.args.held.now c.in-Peer.peer c.give.new.self c.in-Peer.is (c.give.ensures.kept count is ∙ c.deref_mut.ensures.value)

pub returns-clause-nothing : goal.returns-clause-nothing
returns-clause-nothing c is =
    let given = c.give.ensures.nothing is in (
      same_box c.args.held.now c.in-Peer.peer c.give.new.self c.in-Peer.is (given.0 ∙ c.deref_mut.ensures.value),
      held_end (λ (old : PlainEnd). old.left ≡ []) c.args.held.now c.in-Peer.peer c.deref_mut.result.now c.in-Peer.is c.deref_mut.ensures.value given.1,
    )

pub returns-clause-was_peer : goal.returns-clause-was_peer
returns-clause-was_peer c = subst (λ (h : Held). IsSome (peer_in (Some h))) (sym c.in-Peer.is) refl
