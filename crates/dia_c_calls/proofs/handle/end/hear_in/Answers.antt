use Rattle.std.proofs.Common.{◌≡◌, Some, subst}
use Rattle.std.proofs.Math.Logic.{∥∥₁_elim}
use Rattle.dia_c_calls.specs.declared.held.Held.{Held}
use Rattle.dia_c_calls.specs.Held.{MayBePeer}
use Rattle.dia_c_calls.proofs.handle.end.hear_in.Goals as goal

pub unreachable-requires : goal.unreachable-requires
unreachable-requires c = ∥∥₁_elim c.requires (λ a b. absurd a) (λ may. subst (λ (h : Held). MayBePeer (Some h)) c.in-Dict.is may)

pub unreachable-requires-in-Text : goal.unreachable-requires-in-Text
unreachable-requires-in-Text c = ∥∥₁_elim c.requires (λ a b. absurd a) (λ may. subst (λ (h : Held). MayBePeer (Some h)) c.in-Text.is may)

pub unreachable-requires-in-Faults : goal.unreachable-requires-in-Faults
unreachable-requires-in-Faults c = ∥∥₁_elim c.requires (λ a b. absurd a) (λ may. subst (λ (h : Held). MayBePeer (Some h)) c.in-Faults.is may)

pub unreachable-requires-in-Stream : goal.unreachable-requires-in-Stream
unreachable-requires-in-Stream c = ∥∥₁_elim c.requires (λ a b. absurd a) (λ may. subst (λ (h : Held). MayBePeer (Some h)) c.in-Stream.is may)

pub unreachable-requires-in-Nothing : goal.unreachable-requires-in-Nothing
unreachable-requires-in-Nothing c = ∥∥₁_elim c.requires (λ a b. absurd a) (λ may. subst (λ (h : Held). MayBePeer (Some h)) c.in-Nothing.is may)
