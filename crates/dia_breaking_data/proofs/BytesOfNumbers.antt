-- Numbers and their 4 bytes.
use Rattle.std.proofs.Common.{◌≡◌, ℕ, ◌+◌, ◌*◌, ◌<◌, ◌≤◌, List, [], ◌∷◌, length, take, refl, ap, ◌∙◌, arith, inl, inr, ◌⊎◌, Bool, true, false}
use Rattle.std.specs.Prelude.{◌/◌, ◌%◌, nat_lt}
use Rattle.std.proofs.lemmas.Bool.{ltb-true, ltb-false}
use Rattle.std.proofs.Math.Nat.{mod-lt, div-add-mod}
use Rattle.dia_data.specs.Number.{number}
use Rattle.dia_data.specs.Leaf.{IsAddress, IsWithin}
use Rattle.dia_data.proofs.Addresses.{long_from_address, address_from_long}
use Rattle.dia_breaking_data.specs.Shortest.{AreBytes}
use Rattle.dia_breaking_data.specs.Kinds.{four_bytes}

pub number_four : (n : ℕ) → number (four_bytes n) ≡ n
number_four n =
    let first = div-add-mod n 256 in
    let second = div-add-mod (n / 256) 256 in
    let third = div-add-mod (n / 256 / 256) 256 in
    let all : n / 256 / 256 / 256 * 16777216 + (n / 256 / 256 % 256 * 65536 + (n / 256 % 256 * 256 + (n % 256 * 1 + 0))) ≡ n = omega (arith, first, second, third) in all

pub four_are_bytes : (n : ℕ) → n < 4294967296 → AreBytes (four_bytes n)
four_are_bytes n small =
    let first = div-add-mod n 256 in
    let second = div-add-mod (n / 256) 256 in
    let third = div-add-mod (n / 256 / 256) 256 in
    let top : n / 256 / 256 / 256 < 256 = omega (arith, first, second, third, small) in
    (top, (mod-lt (n / 256 / 256) (omega arith), (mod-lt (n / 256) (omega arith), (mod-lt n (omega arith), tt))))

quotient : (q r p s : ℕ) → r < 256 → s < 256 → 256 * q + r ≡ 256 * p + s → q ≡ p
quotient q r p s low less e = omega (arith, low, less, e)

remainder : (q r p s : ℕ) → r < 256 → s < 256 → 256 * q + r ≡ 256 * p + s → r ≡ s
remainder q r p s low less e = omega (arith, low, less, e)

quotient_of : (n q r : ℕ) → r < 256 → n ≡ 256 * q + r → n / 256 ≡ q
quotient_of n q r low e = quotient (n / 256) (n % 256) q r (mod-lt n (omega arith)) low (div-add-mod n 256 ∙ e)

remainder_of : (n q r : ℕ) → r < 256 → n ≡ 256 * q + r → n % 256 ≡ r
remainder_of n q r low e = remainder (n / 256) (n % 256) q r (mod-lt n (omega arith)) low (div-add-mod n 256 ∙ e)

four_of_parts : (n a b c d : ℕ) → b < 256 → c < 256 → d < 256 → n ≡ a * 16777216 + (b * 65536 + (c * 256 + (d * 1 + 0))) → four_bytes n ≡ a ∷ b ∷ c ∷ d ∷ []
four_of_parts n a b c d second third fourth e =
    let one : n / 256 ≡ a * 65536 + b * 256 + c = quotient_of n (a * 65536 + b * 256 + c) d fourth (omega (arith, e)) in
    let last : n % 256 ≡ d = remainder_of n (a * 65536 + b * 256 + c) d fourth (omega (arith, e)) in
    let two : n / 256 / 256 ≡ a * 256 + b = quotient_of (n / 256) (a * 256 + b) c third (omega (arith, one)) in
    let more : n / 256 % 256 ≡ c = remainder_of (n / 256) (a * 256 + b) c third (omega (arith, one)) in
    let three : n / 256 / 256 / 256 ≡ a = quotient_of (n / 256 / 256) a b second (omega (arith, two)) in
    let most : n / 256 / 256 % 256 ≡ b = remainder_of (n / 256 / 256) a b second (omega (arith, two)) in
    ap (λ (x : ℕ). x ∷ n / 256 / 256 % 256 ∷ n / 256 % 256 ∷ n % 256 ∷ []) three ∙ ap (λ (x : ℕ). a ∷ x ∷ n / 256 % 256 ∷ n % 256 ∷ []) most
    ∙ ap (λ (x : ℕ). a ∷ b ∷ x ∷ n % 256 ∷ []) more ∙ ap (λ (x : ℕ). a ∷ b ∷ c ∷ x ∷ []) last

pub four_number : (bytes : List ℕ) → AreBytes bytes → length bytes ≡ 4 → four_bytes (number bytes) ≡ bytes
four_number (a ∷ b ∷ c ∷ d ∷ []) are size = four_of_parts (number (a ∷ b ∷ c ∷ d ∷ [])) a b c d are.1.0 are.1.1.0 are.1.1.1.0 refl
four_number [] are size = absurd (omega (arith, size))
four_number (a ∷ []) are size = absurd (omega (arith, size))
four_number (a ∷ b ∷ []) are size = absurd (omega (arith, size))
four_number (a ∷ b ∷ c ∷ []) are size = absurd (omega (arith, size))
four_number (a ∷ b ∷ c ∷ d ∷ e ∷ bs) are size = absurd (omega (arith, size))

below_top : (a b c d : ℕ) → a < 256 → b < 256 → c < 256 → d < 256 → a * 16777216 + (b * 65536 + (c * 256 + (d * 1 + 0))) < 4294967296
below_top a b c d p q r s = omega (arith, p, q, r, s)

pub small_number : (bytes : List ℕ) → AreBytes bytes → length bytes ≡ 4 → number bytes < 4294967296
small_number (a ∷ b ∷ c ∷ d ∷ []) are size = below_top a b c d are.0 are.1.0 are.1.1.0 are.1.1.1.0
small_number [] are size = absurd (omega (arith, size))
small_number (a ∷ []) are size = absurd (omega (arith, size))
small_number (a ∷ b ∷ []) are size = absurd (omega (arith, size))
small_number (a ∷ b ∷ c ∷ []) are size = absurd (omega (arith, size))
small_number (a ∷ b ∷ c ∷ d ∷ e ∷ bs) are size = absurd (omega (arith, size))

-- ---- addresses of 4 bytes

family_low : (n k : ℕ) → n / 256 / 256 / 256 * 256 + (n / 256 / 256 % 256 * 1 + 0) ≡ k → (k * 65536 ≤ n) × (n < k * 65536 + 65536)
family_low n k e =
    let first = div-add-mod n 256 in
    let second = div-add-mod (n / 256) 256 in
    let third = div-add-mod (n / 256 / 256) 256 in
    let low : n % 256 < 256 = mod-lt n (omega arith) in
    let less : n / 256 % 256 < 256 = mod-lt (n / 256) (omega arith) in
    (omega (arith, first, second, third, low, less, e), omega (arith, first, second, third, low, less, e))

family_is : (n : ℕ) → 65536 ≤ n → n ≤ 196607 → (number (take 2 (four_bytes n)) ≡ 1) ⊎ (number (take 2 (four_bytes n)) ≡ 2)
family_is n low high = by (nat_lt n 131072) refl
  where
    first : 256 * (n / 256) + n % 256 ≡ n
    first = div-add-mod n 256

    second : 256 * (n / 256 / 256) + n / 256 % 256 ≡ n / 256
    second = div-add-mod (n / 256) 256

    third : 256 * (n / 256 / 256 / 256) + n / 256 / 256 % 256 ≡ n / 256 / 256
    third = div-add-mod (n / 256 / 256) 256

    by : (b : Bool) → nat_lt n 131072 ≡ b → (number (take 2 (four_bytes n)) ≡ 1) ⊎ (number (take 2 (four_bytes n)) ≡ 2)
    by true e =
        let less = ltb-true n 131072 e in let a : n % 256 < 256 = mod-lt n (omega arith) in let b : n / 256 % 256 < 256 = mod-lt (n / 256) (omega arith) in
        inl (let p : n / 256 / 256 / 256 * 256 + (n / 256 / 256 % 256 * 1 + 0) ≡ 1 = omega (arith, first, second, third, a, b, low, less) in p)
    by false e =
        let more = ltb-false n 131072 e in let a : n % 256 < 256 = mod-lt n (omega arith) in let b : n / 256 % 256 < 256 = mod-lt (n / 256) (omega arith) in
        inr (let p : n / 256 / 256 / 256 * 256 + (n / 256 / 256 % 256 * 1 + 0) ≡ 2 = omega (arith, first, second, third, a, b, high, more) in p)

pub host_four : (n : ℕ) → ¬ IsWithin n (65536, 196607) → IsAddress (four_bytes n)
host_four n other = address_from_long (four_bytes n) (record {
  family = omega arith;
  ipv4 = λ e. let w = family_low n 1 e in let low = w.0 in let high = w.1 in absurd (other (omega (arith, low), omega (arith, high)));
  ipv6 = λ e. let w = family_low n 2 e in let low = w.0 in let high = w.1 in absurd (other (omega (arith, low), omega (arith, high)));
})

pub short_family : (n : ℕ) → IsWithin n (65536, 196607) → ¬ IsAddress (four_bytes n)
short_family n w h =
    let long = long_from_address (four_bytes n) h in
    elim (family_is n w.0 w.1) [
      | inl one ↦ (let p : 4 ≡ 6 = long.ipv4 one in omega (arith, p))
      | inr two ↦ (let p : 4 ≡ 18 = long.ipv6 two in omega (arith, p))
    ]
