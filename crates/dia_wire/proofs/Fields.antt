-- Numbers in fields, as they are read.
use Rattle.std.proofs.Common.{◌≡◌, ℕ, zero, suc, ◌+◌, ◌*◌, ◌^◌, ◌≤◌, List, [], ◌∷◌, length, take, get_or, refl, sym, ap, arith}
use Rattle.std.proofs.lemmas.List.{length-take}
use Rattle.byteorder.specs.Endian.{big_from}
use Rattle.dia_wire.specs.Number.{number, IsField}

big_from-front : (i n a : ℕ) (xs : List ℕ) → big_from (suc i) n (a ∷ xs) ≡ big_from i n xs
big_from-front i zero a xs = refl
big_from-front i (suc n) a xs = ap (λ (r : ℕ). get_or xs i 0 * 256 ^ n + r) (big_from-front (suc i) n a xs)

pub big_from-number : (n : ℕ) (xs : List ℕ) → n ≤ length xs → big_from 0 n xs ≡ number (take n xs)
big_from-number zero xs h = refl
big_from-number (suc n) [] h = omega arith
big_from-number (suc n) (x ∷ xs) h =
    let len : length (take n xs) ≡ n = omega (arith, length-take n xs) in
    rw (big_from-front 0 n x xs, big_from-number n xs (omega arith), len) refl

-- the field at the front of bytes that hold it
pub field : (n : ℕ) (xs : List ℕ) → n ≤ length xs → IsField n (big_from 0 n xs) (take n xs)
field n xs h = record { width = omega (arith, length-take n xs); value = sym (big_from-number n xs h) }
