-- Results that are no errors.
use Rattle.std.proofs.Common.{◌≡◌}
use Rattle.std.specs.Prelude.{Ok, Err, ◌↔◌, ◌⊎◌}
use Rattle.std.proofs.Common.{arith}

-- what holds just where there is an error doesn't hold
pub sound_at_ok : {A E : Type 0} (x : A) (e : E) (P : Type 0) → ((Ok x ≡ Err e) ↔ P) → P → ⊥
sound_at_ok x e P same p = grind (arith, same, p)

pub sound_sink_at_ok : {A E : Type 0} (x : A) (e : E) (P Q : Type 0) → ((Ok x ≡ Err e) ↔ (P ⊎ Q)) → Q → ⊥
sound_sink_at_ok x e P Q same q = grind (arith, same, q)
