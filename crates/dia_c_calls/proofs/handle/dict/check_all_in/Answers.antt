use Rattle.std.proofs.Common.{Some, subst}
use Rattle.std.proofs.Math.Logic.{∥∥₁_elim}
use Rattle.dia_c_calls.specs.declared.held.Held.{Held}
use Rattle.dia_c_calls.specs.Held.{MayBeDict}
use Rattle.dia_c_calls.proofs.handle.dict.check_all_in.Goals as goal

pub unreachable-requires : goal.unreachable-requires
unreachable-requires c = ∥∥₁_elim c.requires.dict (λ a b. absurd a) (λ may. subst (λ (h : Held). MayBeDict (Some h)) c.in-Text.is may)

pub unreachable-requires-in-Faults : goal.unreachable-requires-in-Faults
unreachable-requires-in-Faults c = ∥∥₁_elim c.requires.dict (λ a b. absurd a) (λ may. subst (λ (h : Held). MayBeDict (Some h)) c.in-Faults.is may)

pub unreachable-requires-in-Peer : goal.unreachable-requires-in-Peer
unreachable-requires-in-Peer c = ∥∥₁_elim c.requires.dict (λ a b. absurd a) (λ may. subst (λ (h : Held). MayBeDict (Some h)) c.in-Peer.is may)

pub unreachable-requires-in-Stream : goal.unreachable-requires-in-Stream
unreachable-requires-in-Stream c = ∥∥₁_elim c.requires.dict (λ a b. absurd a) (λ may. subst (λ (h : Held). MayBeDict (Some h)) c.in-Stream.is may)

pub unreachable-requires-in-Nothing : goal.unreachable-requires-in-Nothing
unreachable-requires-in-Nothing c = ∥∥₁_elim c.requires.dict (λ a b. absurd a) (λ may. subst (λ (h : Held). MayBeDict (Some h)) c.in-Nothing.is may)
