-- Keys that an answer never copies.
use Rattle.std.proofs.Common.{◌≡◌, ℕ, Bool, false, sym, ap}
use Rattle.std.specs.Prelude.{◌==◌, ◌&&◌}
use Rattle.std.proofs.lemmas.Bool.{ne_eqb, eq-eqb}

pub not_own : (n : ℕ) (c : Bool) → (n ≡ 0 → ⊥) → false ≡ ((n == 0) && c)
not_own n c h = sym (ap (λ (b : Bool). b && c) (ne_eqb n 0 h))

pub are_own : (n : ℕ) (c : Bool) → n ≡ 0 → c ≡ ((n == 0) && c)
are_own n c h = sym (ap (λ (b : Bool). b && c) (eq-eqb n 0 h))
