-- Numbers, as they are read from the front of bytes.
use Rattle.std.proofs.Common.{◌≡◌, ℕ, zero, suc, ◌+◌, ◌*◌, ◌^◌, ◌≤◌, List, [], ◌∷◌, length, take, get_or, refl, ap, arith}
use Rattle.std.proofs.lemmas.List.{length-take}
use Rattle.byteorder.specs.Endian.{big_from}
use Rattle.dia_data.specs.Number.{number}

big_from-rest : (i n a : ℕ) (xs : List ℕ) → big_from (suc i) n (a ∷ xs) ≡ big_from i n xs
big_from-rest i zero a xs = refl
big_from-rest i (suc n) a xs = ap (λ (r : ℕ). get_or xs i 0 * 256 ^ n + r) (big_from-rest (suc i) n a xs)

pub big_from-number : (n : ℕ) (xs : List ℕ) → n ≤ length xs → big_from 0 n xs ≡ number (take n xs)
big_from-number zero xs h = refl
big_from-number (suc n) [] h = omega arith
big_from-number (suc n) (x ∷ xs) h =
    let len : length (take n xs) ≡ n = omega (arith, length-take n xs) in
    rw (big_from-rest 0 n x xs, big_from-number n xs (omega arith), len) refl
