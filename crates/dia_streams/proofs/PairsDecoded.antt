-- Pairs of digits that are decoded with one test at the end.
use Rattle.std.proofs.Common.{◌≡◌, ℕ, zero, suc, ◌+◌, ◌*◌, ◌%◌, ◌<◌, ◌≤◌, ◌==◌, ◌&&◌, Bool, true, ◌⊎◌, List, length, take, drop, slice_index, slice_set, Option, None, Some, Result, Ok, Err, refl, sym, ap, ap₂, subst, ◌∙◌, arith, inl, inr}
use Rattle.std.specs.Prelude.{IsOk, unwrap_or, bit_or, nat_lt, if◌then◌else◌}
use Rattle.std.proofs.lemmas.Bool.{and_parts, cases_lt, eqb-true, false≢true, le-ltb, lt-ltb}
use Rattle.std.proofs.lemmas.Bool.Decides.{nat_tests}
use Rattle.std.proofs.lemmas.List.{append-nil, drop_all}
use Rattle.std.proofs.lemmas.Nat.{le_or_l, le_or_r, or_lt}
use Rattle.hex.specs.declared.error.FromHexError.{FromHexError}
use Rattle.hex.specs.declared.error.FromHexError.TheVariants.{InvalidHexCharacter}
use Rattle.hex.specs.Hex.{decode_pairs, digit_or_error, hex_digit_value, pair_value, ◌>>=◌}
use Rattle.hex.proofs.Pairs.{prepend, decode_step, decode_err, decode_start}
use Rattle.dia_streams.specs.StreamUnderWay.{value_or_none}

-- ---- a pair

abbrev joined : (high low i : ℕ) → Option ℕ → Option ℕ → Result ℕ FromHexError
joined high low i x y = digit_or_error high i x >>= (λ p. digit_or_error low (i + 1) y >>= (λ q. Ok (p * 16 + q)))

is_digit : (o : Option ℕ) → unwrap_or o 255 < 16 → o ≡ Some (unwrap_or o 255)
is_digit (Some v) small = refl
is_digit None small = absurd (omega (arith, small))

read : (high low i : ℕ) → value_or_none high < 16 → value_or_none low < 16 → pair_value high low i ≡ Ok (value_or_none high * 16 + value_or_none low)
read high low i h l = ap₂ (λ (x y : Option ℕ). joined high low i x y) (is_digit (hex_digit_value high) h) (is_digit (hex_digit_value low) l)

refused : (high low i : ℕ) (x y : Option ℕ) → ((v : ℕ) → x ≡ Some v → v < 16) → ((v : ℕ) → y ≡ Some v → v < 16)
    → (16 ≤ unwrap_or x 255) ⊎ (16 ≤ unwrap_or y 255) → (e : FromHexError) × (joined high low i x y ≡ Err e)
refused high low i None y small_x small_y bad = (InvalidHexCharacter high i, refl)
refused high low i (Some p) None small_x small_y bad = (InvalidHexCharacter low (i + 1), refl)
refused high low i (Some p) (Some q) small_x small_y (inl large) = absurd (omega (arith, large, small_x p refl))
refused high low i (Some p) (Some q) small_x small_y (inr large) = absurd (omega (arith, large, small_y q refl))

small : (c v : ℕ) → hex_digit_value c ≡ Some v → v < 16
small c v h = grind (arith, nat_tests)

-- ---- the value of a digit, each character in turn

abbrev of_ranges : (digit letter : ℕ) → ℕ
of_ranges digit letter = if nat_lt digit 10 then digit else if nat_lt letter 6 then letter + 10 else 255

abbrev is_right : ℕ → Bool
is_right c = of_ranges ((c + 208) % 256) ((bit_or c 32 + 159) % 256) == value_or_none c

abbrev all_right : ℕ → Bool
all_right zero = true
all_right (suc n) = is_right n && all_right n

each_right : (n c : ℕ) → all_right n ≡ true → c < n → is_right c ≡ true
each_right zero c h less = absurd (omega arith)
each_right (suc n) c h less =
    let parts = and_parts (is_right n) (all_right n) h in
    elim (cases_lt c n) [
      | inl below ↦ each_right n c parts.1 below
      | inr top ↦
          let e : c ≡ n = omega arith in
          rw e parts.0
    ]

module _ (c : ℕ) (byte : c < 256) where
  abbrev digit : ℕ
  digit = (c + 208) % 256

  abbrev letter : ℕ
  letter = (bit_or c 32 + 159) % 256

  by_ranges : of_ranges digit letter ≡ value_or_none c
  by_ranges = eqb-true (of_ranges digit letter) (value_or_none c) (each_right 256 c refl byte)

  by_letter : 10 ≤ digit → (if nat_lt letter 6 then letter + 10 else 255) ≡ value_or_none c
  by_letter other = sym (ap (λ (b : Bool). if b then digit else if nat_lt letter 6 then letter + 10 else 255) (le-ltb digit 10 other)) ∙ by_ranges

  pub letter_value : 10 ≤ digit → letter < 6 → letter + 10 ≡ value_or_none c
  letter_value other is = sym (ap (λ (b : Bool). if b then letter + 10 else 255) (lt-ltb letter 6 is)) ∙ by_letter other

  pub no_value : 10 ≤ digit → 6 ≤ letter → 255 ≡ value_or_none c
  no_value other none = sym (ap (λ (b : Bool). if b then letter + 10 else 255) (le-ltb letter 6 none)) ∙ by_letter other

-- ---- all pairs

-- the pairs before the i-th are decoded, unless one of them is refused
pub record AreDecoded (digits bytes : List ℕ) (i seen : ℕ) : Type 0 where
  pub good : seen < 16 → decode_pairs 0 digits ≡ prepend (take i bytes) (decode_pairs (2 * i) (drop (2 * i) digits))
  pub bad : 16 ≤ seen → ¬ IsOk (decode_pairs 0 digits)

err_isnt_ok : (r : Result (List ℕ) FromHexError) (e : FromHexError) → r ≡ Err e → ¬ IsOk r
err_isnt_ok (Ok bytes) e is ok = cc
err_isnt_ok (Err f) e is ok = false≢true ok

in_none : (a b : ℕ) → a < 16 → b < 16 → ¬ (16 ≤ bit_or a b)
in_none a b x y large = absurd (omega (arith, large, or_lt 4 a b x y))

which : (a b : ℕ) → 16 ≤ bit_or a b → (16 ≤ a) ⊎ (16 ≤ b)
which a b large = by (cases_lt a 16) (cases_lt b 16)
  where
    by : (a < 16) ⊎ (16 ≤ a) → (b < 16) ⊎ (16 ≤ b) → (16 ≤ a) ⊎ (16 ≤ b)
    by (inr x) y = inl x
    by (inl x) (inr y) = inr y
    by (inl x) (inl y) = absurd (in_none a b x y large)

module _ (digits bytes : List ℕ) (i seen byte : ℕ) (fits : 2 * i + 1 < length digits) (room : i < length bytes) where
  abbrev high : ℕ
  high = value_or_none (slice_index digits (2 * i))

  abbrev low : ℕ
  low = value_or_none (slice_index digits (2 * i + 1))

  abbrev now : ℕ
  now = bit_or seen (bit_or high low)

  still_good : (high < 16 → low < 16 → byte ≡ high * 16 + low) → AreDecoded digits bytes i seen → now < 16
      → decode_pairs 0 digits ≡ prepend (take (i + 1) (slice_set bytes i byte)) (decode_pairs (2 * (i + 1)) (drop (2 * (i + 1)) digits))
  still_good is h less =
      let both : bit_or high low < 16 = omega (arith, less, le_or_r seen (bit_or high low)) in
      let first : high < 16 = omega (arith, both, le_or_l high low) in
      let second : low < 16 = omega (arith, both, le_or_r high low) in
      decode_step digits bytes i byte fits room (read (slice_index digits (2 * i)) (slice_index digits (2 * i + 1)) (2 * i) first second ∙ ap (λ (b : ℕ). Ok b) (sym (is first second)))
      (h.good (omega (arith, less, le_or_l seen (bit_or high low))))

  bad_now : AreDecoded digits bytes i seen → seen < 16 → (16 ≤ high) ⊎ (16 ≤ low) → ¬ IsOk (decode_pairs 0 digits)
  bad_now h less bad =
      let (e, is) = refused (slice_index digits (2 * i)) (slice_index digits (2 * i + 1)) (2 * i) (hex_digit_value (slice_index digits (2 * i)))
      (hex_digit_value (slice_index digits (2 * i + 1))) (small (slice_index digits (2 * i))) (small (slice_index digits (2 * i + 1))) bad in
      err_isnt_ok (decode_pairs 0 digits) e (decode_err digits bytes i e fits is (h.good less))

  still_bad : AreDecoded digits bytes i seen → (16 ≤ seen) ⊎ (16 ≤ bit_or high low) → ¬ IsOk (decode_pairs 0 digits)
  still_bad h (inl before) = h.bad before
  still_bad h (inr following) = by (cases_lt seen 16)
    where
      by : (seen < 16) ⊎ (16 ≤ seen) → ¬ IsOk (decode_pairs 0 digits)
      by (inl less) = bad_now h less (which high low following)
      by (inr before) = h.bad before

  -- one more
  pub AreDecoded-more : (high < 16 → low < 16 → byte ≡ high * 16 + low) → AreDecoded digits bytes i seen → AreDecoded digits (slice_set bytes i byte) (i + 1) now
  AreDecoded-more is h = record {
    good = still_good is h;
    bad = λ large. still_bad h (which seen (bit_or high low) large);
  }

-- the same by what `value` answers
pub AreDecoded-step : (digits bytes : List ℕ) (i seen high low : ℕ) → 2 * i + 1 < length digits → i < length bytes → high ≡ value_or_none (slice_index digits (2 * i))
    → low ≡ value_or_none (slice_index digits (2 * i + 1)) → AreDecoded digits bytes i seen
    → AreDecoded digits (slice_set bytes i ((high * 16 % 256 + low) % 256)) (i + 1) (bit_or seen (bit_or high low))
AreDecoded-step digits bytes i seen high low fits room is_high is_low h =
    let x : ℕ = value_or_none (slice_index digits (2 * i)) in
    let y : ℕ = value_or_none (slice_index digits (2 * i + 1)) in
    let one = AreDecoded-more digits bytes i seen ((x * 16 % 256 + y) % 256) fits room (λ a b. omega (arith, a, b)) h in
    subst (λ (a : ℕ). AreDecoded digits (slice_set bytes i ((a * 16 % 256 + low) % 256)) (i + 1) (bit_or seen (bit_or a low))) (sym is_high)
    (subst (λ (b : ℕ). AreDecoded digits (slice_set bytes i ((x * 16 % 256 + b) % 256)) (i + 1) (bit_or seen (bit_or x b))) (sym is_low) one)

-- none yet
pub AreDecoded-none : (digits bytes : List ℕ) → AreDecoded digits bytes 0 0
AreDecoded-none digits bytes = record {
  good = λ _. decode_start digits bytes;
  bad = λ large. absurd (omega (arith, large));
}

-- all of them
pub AreDecoded-all : (digits bytes : List ℕ) (i seen : ℕ) → length digits ≤ 2 * i → AreDecoded digits bytes i seen → seen < 16 → decode_pairs 0 digits ≡ Ok (take i bytes)
unfolding decode_pairs
AreDecoded-all digits bytes i seen end h less =
    h.good less ∙ ap (prepend (take i bytes)) (ap (decode_pairs (2 * i)) (drop_all (2 * i) digits end)) ∙ ap (λ (b : List ℕ). Ok b) (append-nil (take i bytes))
