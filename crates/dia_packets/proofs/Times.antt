-- Powers that fit.
use Rattle.std.proofs.Common.{◌≡◌, ℕ, ◌^◌, ◌<◌, ◌≤◌, subst, sym, inl, inr, arith}
use Rattle.std.specs.Prelude.{◌⊎◌}
use Rattle.std.proofs.Math.Nat.{one-le-pow, pow-le-pow_right}

pub power_within : (base exponent : ℕ) → ((base ≡ 10) × (exponent ≤ 9)) ⊎ ((base ≡ 2) × (exponent ≤ 32)) → (0 < base ^ exponent) × (base ^ exponent ≤ 2 ^ 32)
power_within base exponent (inl (is, few)) =
    subst (λ (b : ℕ). (0 < b ^ exponent) × (b ^ exponent ≤ 2 ^ 32)) (sym is)
    (let low = one-le-pow exponent 10 (omega arith) in let high = pow-le-pow_right {n = 10} (omega arith) few in (omega (arith, low), omega (arith, high)))
power_within base exponent (inr (is, few)) =
    subst (λ (b : ℕ). (0 < b ^ exponent) × (b ^ exponent ≤ 2 ^ 32)) (sym is)
    (let low = one-le-pow exponent 2 (omega arith) in let high = pow-le-pow_right {n = 2} (omega arith) few in (omega (arith, low), omega (arith, high)))
