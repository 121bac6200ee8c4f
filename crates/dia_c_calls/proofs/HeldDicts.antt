-- What a handle of a dictionary holds.
use Rattle.std.proofs.Common.{Some, refl}
use Rattle.std.specs.Prelude.{IsSome}
use Rattle.std.proofs.Math.Logic.{∥∥₁_elim}
use Rattle.dia_c_calls.specs.declared.held.Held.{Held}
use Rattle.dia_c_calls.specs.declared.held.Held.TheVariants.{Dict, Text, Faults, Peer, Stream, Nothing}
use Rattle.dia_c_calls.specs.Held.{MayBeDict, dict_in}

pub is_dict : (held : Held) → ∥ MayBeDict (Some held) ∥₁ → IsSome (dict_in (Some held))
is_dict (Dict owner room) may = refl
is_dict (Text text) may = absurd (∥∥₁_elim may (λ a b. absurd a) (λ is. is))
is_dict (Faults faults) may = absurd (∥∥₁_elim may (λ a b. absurd a) (λ is. is))
is_dict (Peer peer) may = absurd (∥∥₁_elim may (λ a b. absurd a) (λ is. is))
is_dict (Stream feeding) may = absurd (∥∥₁_elim may (λ a b. absurd a) (λ is. is))
is_dict Nothing may = absurd (∥∥₁_elim may (λ a b. absurd a) (λ is. is))
