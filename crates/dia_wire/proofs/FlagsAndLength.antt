-- The AVP Flags and the AVP Length lie in one word.
use Rattle.std.proofs.Common.{◌≡◌, ℕ, ◌/◌, ◌%◌, ◌<◌, ◌≤◌, List, ◌∷◌, length, drop, get_or, arith}
use Rattle.byteorder.specs.Endian.{big_from}

pub flags_of_word : (xs : List ℕ) → 8 ≤ length xs → ((k : ℕ) → get_or xs k 0 < 256) → big_from 0 4 (drop 4 xs) / 16777216 ≡ get_or xs 4 0
flags_of_word (a ∷ b ∷ c ∷ d ∷ e ∷ f ∷ g ∷ h ∷ xs) long small =
    let f5 = small 5 in let f6 = small 6 in let f7 = small 7 in omega (arith, f5, f6, f7)
flags_of_word xs long small = omega (arith, long)

pub length_of_word : (xs : List ℕ) → 8 ≤ length xs → ((k : ℕ) → get_or xs k 0 < 256) → big_from 0 4 (drop 4 xs) % 16777216 ≡ big_from 0 3 (drop 5 xs)
length_of_word (a ∷ b ∷ c ∷ d ∷ e ∷ f ∷ g ∷ h ∷ xs) long small =
    let f5 = small 5 in let f6 = small 6 in let f7 = small 7 in omega (arith, f5, f6, f7)
length_of_word xs long small = omega (arith, long)
