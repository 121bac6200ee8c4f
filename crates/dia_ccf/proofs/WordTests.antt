-- Tests of words, in the code's terms and in the machine's.
use Rattle.std.proofs.Common.{◌≡◌, ℕ, Bool, true, false, List, refl}
use Rattle.std.specs.Prelude.{IsTrue}
use Rattle.dia_ccf.specs.Names.{same_bytes}
use Rattle.dia_ccf.proofs.TokenTests.{same_bytes-is}
use lib.Pointwise.{bytes_decides}

pub same_bytes_equal : (a b : List ℕ) → a ≡ b → same_bytes a b ≡ true
same_bytes_equal a b = (bytes_decides a b).1

pub same_bytes_apart : (a b : List ℕ) → (a ≡ b → ⊥) → same_bytes a b ≡ false
same_bytes_apart a b h = by_test (same_bytes a b) refl
  where
    by_test : (c : Bool) → same_bytes a b ≡ c → same_bytes a b ≡ false
    by_test false e = e
    by_test true e = absurd (h (same_bytes-is a b e))

pub same_bytes_iff : (a b : List ℕ) (r : Bool) → (IsTrue r → a ≡ b) → (a ≡ b → IsTrue r) → same_bytes a b ≡ r
same_bytes_iff a b true h k = same_bytes_equal a b (h refl)
same_bytes_iff a b false h k = same_bytes_apart a b (λ e. let f : false ≡ true = k e in absurd cc)
