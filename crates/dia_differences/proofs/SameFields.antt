-- Whether the entries at two places have the same field.
use Rattle.std.proofs.Common.{◌≡◌, ℕ, ◌<◌, List, length, sym, subst}
use Rattle.std.specs.Prelude.{◌↔◌, IfSome, slice_get}
use Rattle.dia_valid.proofs.Members.{at_some, there_is}
use Rattle.dia_differences.specs.Matching.{At}
use Rattle.dia_differences.proofs.Paired.{at_both, both_at}

-- a test of values that are read at two places is one of the fields there
pub field_iff : {X V : Type 0} (field : X → V) (R : V → V → Type 0) (xs ys : List X) (i j : ℕ) (u v : V) (test : Type 0) → i < length xs → j < length ys
    → IfSome (slice_get xs i) (λ x. u ≡ field x) → IfSome (slice_get ys j) (λ y. v ≡ field y) → test ↔ R u v → test ↔ At (λ x y. R (field x) (field y)) xs ys i j
field_iff {X} {V} field R xs ys i j u v test own other first second iff =
    let (x, at) = there_is xs i own in
    let (y, there) = there_is ys j other in
    let left : u ≡ field x = at_some (λ (z : X). u ≡ field z) (slice_get xs i) x first at in
    let right : v ≡ field y = at_some (λ (z : X). v ≡ field z) (slice_get ys j) y second there in
    let S : X → X → Type 0 = λ z w. R (field z) (field w) in
    let into : R u v → S x y = λ r. subst (λ (w : V). R (field x) w) right (subst (λ (w : V). R w v) left r) in
    let back : S x y → R u v = λ r. subst (λ (w : V). R w v) (sym left) (subst (λ (w : V). R (field x) w) (sym right) r) in
    (λ t. both_at S xs ys i j x y at there (into (iff.0 t)), λ h. iff.1 (back (at_both S xs ys i j x y at there h)))
