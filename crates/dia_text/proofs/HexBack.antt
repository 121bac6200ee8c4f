-- Hexadecimal digits, read back.
use Rattle.std.proofs.Common.{◌≡◌, ℕ, ◌+◌, ◌*◌, ◌/◌, ◌%◌, ◌<◌, ◌≤◌, List, [], ◌∷◌, length, Some, Ok, flat_map, refl, ap, ◌∙◌, arith, inl, inr}
use Rattle.std.proofs.lemmas.Bool.{cases_lt, lt-ltb, le-ltb}
use Rattle.std.proofs.lemmas.Bool.Decides.{nat_tests}
use Rattle.hex.specs.Hex.{hex_digit_value, decode_pairs, decode_of}
use Rattle.hex.proofs.HexLemmas.{decode_of-even}
use Rattle.dia_data.specs.Shown.{hex_digit, hex_byte, hexadecimal}
use Rattle.dia_text.specs.Numbers.{hex_byte_of}
use Rattle.dia_text.specs.Fields.{bytes_of, decoded}
use Rattle.dia_text.proofs.Bytes.{AreBytes}

low_digit : (n : ℕ) → n < 10 → hex_digit_value (48 + n) ≡ Some n
low_digit n low = grind (arith, nat_tests)

high_digit : (n : ℕ) → 10 ≤ n → n < 16 → hex_digit_value (87 + n) ≡ Some n
high_digit n high small = grind (arith, nat_tests)

digit_back : (n : ℕ) → n < 16 → hex_digit_value (hex_digit n) ≡ Some n
digit_back n small = elim (cases_lt n 10) [
  | inl low ↦ rw (lt-ltb n 10 low) (low_digit n low)
  | inr high ↦ rw (le-ltb n 10 high) (high_digit n high small)
]

pub pairs_back : (i : ℕ) (bytes : List ℕ) → AreBytes bytes → decode_pairs i (flat_map hex_byte bytes) ≡ Ok bytes
unfolding decode_pairs
pairs_back i [] h = refl
pairs_back i (b ∷ bytes) (small, rest) =
    let high = digit_back (b / 16) (omega (arith, small)) in
    let low = digit_back (b % 16) (omega arith) in
    let sum : b / 16 * 16 + b % 16 ≡ b = omega arith in
    rw (high, low, pairs_back (i + 2) bytes rest, sum) refl

even : (bytes : List ℕ) → length (flat_map hex_byte bytes) % 2 ≡ 0
even [] = refl
even (b ∷ bytes) = omega (arith, even bytes)

pub digits_back : (bytes : List ℕ) → AreBytes bytes → decode_of (flat_map hex_byte bytes) ≡ Ok bytes
digits_back bytes h = decode_of-even (flat_map hex_byte bytes) (even bytes) ∙ pairs_back 0 bytes h

pub bytes_back : (bytes : List ℕ) → AreBytes bytes → bytes_of (hexadecimal bytes) ≡ Ok bytes
bytes_back bytes h = ap decoded (digits_back bytes h)

pub hex_byte_back : (b : ℕ) → b < 256 → hex_byte_of (hex_byte b) ≡ Some b
unfolding decode_pairs
hex_byte_back b small =
    let high = digit_back (b / 16) (omega (arith, small)) in
    let low = digit_back (b % 16) (omega arith) in
    let sum : b / 16 * 16 + b % 16 ≡ b = omega arith in
    rw (high, low, sum) refl
