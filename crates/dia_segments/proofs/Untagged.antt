-- Tags that are passed over one by one.
use Rattle.std.proofs.Common.{◌≡◌, ℕ, ◌+◌, ◌*◌, ◌<◌, ◌≤◌, true, false, List, [], ◌∷◌, length, drop, refl, ap, arith}
use Rattle.dia_segments.specs.Links.{is_tag, untagged}
use Rattle.dia_segments.specs.Numbers.{number_at}

pub untagged_tag : (kind : ℕ) (bytes : List ℕ) → is_tag kind ≡ true → 4 ≤ length bytes → untagged kind bytes ≡ untagged (number_at 2 2 bytes) (drop 4 bytes)
untagged_tag kind [] is enough = absurd (omega (arith, enough))
untagged_tag kind (a ∷ []) is enough = absurd (omega (arith, enough))
untagged_tag kind (a ∷ b ∷ []) is enough = absurd (omega (arith, enough))
untagged_tag kind (a ∷ b ∷ c ∷ []) is enough = absurd (omega (arith, enough))
untagged_tag kind (a ∷ b ∷ c ∷ d ∷ rest) is enough =
    let same : c * 256 + d ≡ number_at 2 2 (a ∷ b ∷ c ∷ d ∷ rest) = omega arith in
    rw is (ap (λ (k : ℕ). untagged k rest) same)

pub untagged_none : (kind : ℕ) (bytes : List ℕ) → is_tag kind ≡ false → untagged kind bytes ≡ (kind, bytes)
untagged_none kind [] is = refl
untagged_none kind (a ∷ []) is = refl
untagged_none kind (a ∷ b ∷ []) is = refl
untagged_none kind (a ∷ b ∷ c ∷ []) is = refl
untagged_none kind (a ∷ b ∷ c ∷ d ∷ rest) is = rw is refl

pub untagged_short : (kind : ℕ) (bytes : List ℕ) → length bytes < 4 → untagged kind bytes ≡ (kind, bytes)
untagged_short kind [] few = refl
untagged_short kind (a ∷ []) few = refl
untagged_short kind (a ∷ b ∷ []) few = refl
untagged_short kind (a ∷ b ∷ c ∷ []) few = refl
untagged_short kind (a ∷ b ∷ c ∷ d ∷ rest) few = absurd (omega (arith, few))
