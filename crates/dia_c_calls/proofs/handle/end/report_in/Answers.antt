use Rattle.std.proofs.Common.{Some, subst, ◌∙◌}
use Rattle.std.proofs.Math.Logic.{∥∥₁_elim}
use Rattle.dia_c_calls.specs.declared.held.Held.{Held}
use Rattle.dia_c_calls.specs.Held.{MayBePeer}
use Rattle.dia_c_calls.specs.PeerSteps.{PlainEnd, HasStepped, plain_end}
use Rattle.dia_c_calls.proofs.PeerCalls.{held_end, same_box}
use Rattle.dia_c_calls.proofs.handle.end.report_in.Goals as goal

pub unreachable-requires : goal.unreachable-requires
unreachable-requires c = ∥∥₁_elim c.requires (λ a b. absurd a) (λ may. subst (λ (h : Held). MayBePeer (Some h)) c.in-Dict.is may)

pub unreachable-requires-in-Text : goal.unreachable-requires-in-Text
unreachable-requires-in-Text c = ∥∥₁_elim c.requires (λ a b. absurd a) (λ may. subst (λ (h : Held). MayBePeer (Some h)) c.in-Text.is may)

pub unreachable-requires-in-Faults : goal.unreachable-requires-in-Faults
unreachable-requires-in-Faults c = ∥∥₁_elim c.requires (λ a b. absurd a) (λ may. subst (λ (h : Held). MayBePeer (Some h)) c.in-Faults.is may)

pub unreachable-requires-in-Stream : goal.unreachable-requires-in-Stream
unreachable-requires-in-Stream c = ∥∥₁_elim c.requires (λ a b. absurd a) (λ may. subst (λ (h : Held). MayBePeer (Some h)) c.in-Stream.is may)

pub unreachable-requires-in-Nothing : goal.unreachable-requires-in-Nothing
unreachable-requires-in-Nothing c = ∥∥₁_elim c.requires (λ a b. absurd a) (λ may. subst (λ (h : Held). MayBePeer (Some h)) c.in-Nothing.is may)

pub returns-clause-done : goal.returns-clause-done
returns-clause-done c is =
    held_end (λ (old : PlainEnd). HasStepped old.core c.args.event (plain_end c.deliver.new.self)) c.args.held.now c.in-Peer.peer c.deref_mut.result.now c.in-Peer.is c.deref_mut.ensures.value
    (c.deliver.ensures.done is)

pub returns-clause-kept : goal.returns-clause-kept
returns-clause-kept c not = same_box c.args.held.now c.in-Peer.peer c.deliver.new.self c.in-Peer.is (c.deliver.ensures.kept not ∙ c.deref_mut.ensures.value)
