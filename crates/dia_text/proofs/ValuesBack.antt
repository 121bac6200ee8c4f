-- Values that are written, read back by the format.
use Rattle.std.proofs.Common.{◌≡◌, ℕ, suc, ◌+◌, ◌-◌, ◌^◌, ◌<◌, ◌≤◌, ◌==◌, nat_lt, Bool, true, false, cond, pos, negsuc, if◌then◌else◌, List, [], ◌∷◌, length, Option, Some, None, Ok, refl, sym, ap, subst, ◌∙◌, arith, inl, inr}
use Rattle.std.specs.List.{list_all}
use Rattle.std.specs.Option.{option_map, option_or}
use Rattle.std.specs.Int.{w32, w64, cast_signed}
use Rattle.std.specs.Char.{is_ascii_digit}
use Rattle.std.specs.Fmt.{decimal, signed_decimal}
use Rattle.std.proofs.lemmas.Bool.{and_parts, and_left, cases_lt, lt-ltb, le-ltb, ne_eqb, ltb-true, ltb-false}
use Rattle.std.proofs.lemmas.Bool.Decides.{nat_tests}
use Rattle.std.proofs.lemmas.Fmt.{digits_decimal, decimal_nonempty}
use Rattle.byteorder.specs.Endian.{big_bytes}
use Rattle.dia_terms.specs.Number.{number}
use Rattle.dia_data.specs.declared.Reading.{Reading}
use Rattle.dia_data.specs.declared.Reading.TheVariants.{Signed, Unsigned, Bits}
use Rattle.dia_data.specs.Plain.{PlainFormat, AnyBytes, FourBytes, Integer32, Unsigned32, Float32, Time, EightBytes, Grouped, Address, Utf8String, DiameterIdentity, DiameterUri, Enumerated, eight_reading}
use Rattle.dia_data.specs.Leaf.{IsLeaf}
use Rattle.dia_data.specs.Shown.{number_text, value_text}
use Rattle.dia_text.specs.Numbers.{any_below, any_number, complement, signed_below}
use Rattle.dia_text.specs.Values.{number_bytes, formatted, four_read, eight_read}
use Rattle.dia_text.specs.Dates.{time_of}
use Rattle.dia_text.specs.LineTexts.{IsValueWord}
use Rattle.dia_text.proofs.NumbersOfWords.{digits_model}
use Rattle.dia_text.proofs.Bytes.{AreBytes, number_back as bytes_of_number, number_small}
use Rattle.dia_text.proofs.WordsBack.{IsWord, decimal_word}
use Rattle.dia_text.proofs.FieldsBack.{number_back, any_back, any_number_back}
use Rattle.dia_text.proofs.ValueWords.{ReadsBack, IsValue, from_word, hexadecimal_reads}
use Rattle.dia_text.proofs.QuotedBack.{quoted_reads}
use Rattle.dia_text.proofs.AddressesBack.{address_reads}

-- ---- numbers without a sign

digit_other : (c k : ℕ) → is_ascii_digit c ≡ true → 58 ≤ k → (c == k) ≡ false
digit_other c k digit high = grind (arith, nat_tests)

digit_no_dash : (c : ℕ) → is_ascii_digit c ≡ true → (c == 45) ≡ false
digit_no_dash c digit = grind (arith, nat_tests)

by_digits : (format : Option PlainFormat) (bytes w : List ℕ) → IsWord w → list_all is_ascii_digit w ≡ true → formatted format w ≡ Ok bytes → IsValue format bytes w
by_digits format bytes [] word all reads = absurd (let some = word.some in omega (arith, some))
by_digits format bytes (c ∷ w) word all reads =
    let digit = (and_parts (is_ascii_digit c) (list_all is_ascii_digit w) all).0 in
    record {
      word = word;
      flags = and_left _ _ (digit_other c 102 digit (omega arith));
      len = and_left _ _ (digit_other c 108 digit (omega arith));
      brace = and_left _ _ (digit_other c 123 digit (omega arith));
      family = and_left _ _ (digit_other c 102 digit (omega arith));
      reads = rw (digit_other c 120 digit (omega arith)) reads;
    }

decimal_reads : (format : Option PlainFormat) (bytes : List ℕ) (n : ℕ) → n < 2 ^ 64 → formatted format (decimal n) ≡ Ok bytes → IsValue format bytes (decimal n)
decimal_reads format bytes n fits reads = by_digits format bytes (decimal n) (decimal_word n fits) (digits_decimal digits_model n fits) reads

-- ---- numbers with a sign

-- a number in two's complement: half of all numbers stand for those below zero
abbrev signed_text : ℕ → ℕ → List ℕ
signed_text half n = if nat_lt n half then decimal n else 45 ∷ decimal ((half + half) - n)

shown_32 : (n : ℕ) → n < 2 ^ 32 → signed_decimal (cast_signed w32 n) ≡ signed_text (2 ^ 31) n
shown_32 n small = by (nat_lt n (2 ^ 31)) refl
  where
    by : (b : Bool) → nat_lt n (2 ^ 31) ≡ b → signed_decimal (cond b (pos n) (negsuc (2 ^ 32 - suc n))) ≡ (if b then decimal n else 45 ∷ decimal ((2 ^ 31 + 2 ^ 31) - n))
    by true e = refl
    by false e = let same : suc (2 ^ 32 - suc n) ≡ (2 ^ 31 + 2 ^ 31) - n = omega (arith, small) in ap (λ (k : ℕ). 45 ∷ decimal k) same

shown_64 : (n : ℕ) → n < 2 ^ 64 → signed_decimal (cast_signed w64 n) ≡ signed_text (2 ^ 63) n
shown_64 n small = by (nat_lt n (2 ^ 63)) refl
  where
    by : (b : Bool) → nat_lt n (2 ^ 63) ≡ b → signed_decimal (cond b (pos n) (negsuc (2 ^ 64 - suc n))) ≡ (if b then decimal n else 45 ∷ decimal ((2 ^ 63 + 2 ^ 63) - n))
    by true e = refl
    by false e = let same : suc (2 ^ 64 - suc n) ≡ (2 ^ 63 + 2 ^ 63) - n = omega (arith, small) in ap (λ (k : ℕ). 45 ∷ decimal k) same

not_negative : (half n : ℕ) (w : List ℕ) → list_all is_ascii_digit w ≡ true → 0 < length w → any_below half w ≡ Some n → signed_below half w ≡ Some n
not_negative half n [] all some h = absurd (omega (arith, some))
not_negative half n (c ∷ w) all some h =
    let digit = (and_parts (is_ascii_digit c) (list_all is_ascii_digit w) all).0 in
    rw (digit_no_dash c digit) h

complement_back : (half n : ℕ) → half ≤ n → n < half + half → complement half ((half + half) - n) ≡ n
complement_back half n high small =
    let some : ((half + half) - n == 0) ≡ false = ne_eqb ((half + half) - n) 0 (λ e. omega (arith, e, small)) in
    rw some (omega (arith, high, small))

signed_back : (half n : ℕ) → half ≤ 2 ^ 63 → n < half + half → signed_below half (signed_text half n) ≡ Some n
signed_back half n large small = elim (cases_lt n half) [
  | inl low ↦
      let fits : n < 2 ^ 64 = omega (arith, low, large) in
      rw (lt-ltb n half low) (not_negative half n (decimal n) (digits_decimal digits_model n fits) (decimal_nonempty n fits) (any_back half n low fits))
  | inr high ↦
      let below : (half + half) - n < half + 1 = omega (arith, high, small) in
      let fits : (half + half) - n < 2 ^ 64 = omega (arith, high, large) in
      rw (le-ltb n half high) (ap (option_map (complement half)) (number_back (half + 1) ((half + half) - n) below fits) ∙ ap (λ (k : ℕ). Some k) (complement_back half n high small))
]

signed_reads : (format : Option PlainFormat) (half n : ℕ) (bytes : List ℕ) → half ≤ 2 ^ 63 → n < half + half → ((w : List ℕ) → signed_below half w ≡ Some n → formatted format w ≡ Ok bytes)
    → IsValue format bytes (signed_text half n)
signed_reads format half n bytes large small reads = by (nat_lt n half) refl
  where
    all : formatted format (signed_text half n) ≡ Ok bytes
    all = reads (signed_text half n) (signed_back half n large small)

    by : (b : Bool) → nat_lt n half ≡ b → IsValue format bytes (if b then decimal n else 45 ∷ decimal ((half + half) - n))
    by true e =
        let low : n < half = ltb-true n half e in
        let fits : n < 2 ^ 64 = omega (arith, low, large) in
        decimal_reads format bytes n fits (reads (decimal n) (not_negative half n (decimal n) (digits_decimal digits_model n fits) (decimal_nonempty n fits) (any_back half n low fits)))
    by false e =
        let high : half ≤ n = ltb-false n half e in
        let fits : (half + half) - n < 2 ^ 64 = omega (arith, high, large) in
        let word = decimal_word ((half + half) - n) fits in
        record {
          word = record { some = omega arith; signs = word.signs };
          flags = refl;
          len = refl;
          brace = refl;
          family = refl;
          reads = ap (λ (b : Bool). formatted format (if b then decimal n else 45 ∷ decimal ((half + half) - n))) (sym e) ∙ all;
        }

-- ---- by the format

as_bytes : (width n : ℕ) (bytes : List ℕ) (o : Option ℕ) → o ≡ Some n → big_bytes width n ≡ bytes → number_bytes width o ≡ Ok bytes
as_bytes width n bytes o is same = ap (number_bytes width) is ∙ ap Ok same

unsigned_32 : (format : Option PlainFormat) (bytes : List ℕ) → length bytes ≡ 4 → AreBytes bytes → ((w : List ℕ) → formatted format w ≡ number_bytes 4 (any_below (2 ^ 32) w)) → ReadsBack format bytes (decimal (number bytes))
unsigned_32 format bytes width h read =
    let small : number bytes < 2 ^ 32 = omega (arith, number_small 4 bytes width h) in
    let fits : number bytes < 2 ^ 64 = omega (arith, small) in
    from_word format bytes (decimal (number bytes))
    (decimal_reads format bytes (number bytes) fits
    (read (decimal (number bytes)) ∙ as_bytes 4 (number bytes) bytes _ (any_back (2 ^ 32) (number bytes) small fits) (bytes_of_number 4 bytes width h)))

signed_32 : (format : Option PlainFormat) (bytes : List ℕ) → length bytes ≡ 4 → AreBytes bytes → ((w : List ℕ) → formatted format w ≡ number_bytes 4 (signed_below (2 ^ 31) w))
    → ReadsBack format bytes (signed_decimal (cast_signed w32 (number bytes)))
signed_32 format bytes width h read =
    let small : number bytes < 2 ^ 32 = omega (arith, number_small 4 bytes width h) in
    subst (ReadsBack format bytes) (sym (shown_32 (number bytes) small))
    (from_word format bytes (signed_text (2 ^ 31) (number bytes))
    (signed_reads format (2 ^ 31) (number bytes) bytes (omega arith) (omega (arith, small))
    (λ w is. read w ∙ as_bytes 4 (number bytes) bytes _ is (bytes_of_number 4 bytes width h))))

unsigned_64 : (format : Option PlainFormat) (bytes : List ℕ) → length bytes ≡ 8 → AreBytes bytes → ((w : List ℕ) → formatted format w ≡ number_bytes 8 (any_number w)) → ReadsBack format bytes (decimal (number bytes))
unsigned_64 format bytes width h read =
    let fits : number bytes < 2 ^ 64 = omega (arith, number_small 8 bytes width h) in
    from_word format bytes (decimal (number bytes))
    (decimal_reads format bytes (number bytes) fits
    (read (decimal (number bytes)) ∙ as_bytes 8 (number bytes) bytes _ (any_number_back (number bytes) fits) (bytes_of_number 8 bytes width h)))

signed_64 : (format : Option PlainFormat) (bytes : List ℕ) → length bytes ≡ 8 → AreBytes bytes → ((w : List ℕ) → formatted format w ≡ number_bytes 8 (signed_below (2 ^ 63) w))
    → ReadsBack format bytes (signed_decimal (cast_signed w64 (number bytes)))
signed_64 format bytes width h read =
    let small : number bytes < 2 ^ 64 = omega (arith, number_small 8 bytes width h) in
    subst (ReadsBack format bytes) (sym (shown_64 (number bytes) small))
    (from_word format bytes (signed_text (2 ^ 63) (number bytes))
    (signed_reads format (2 ^ 63) (number bytes) bytes (omega arith) (omega (arith, small))
    (λ w is. read w ∙ as_bytes 8 (number bytes) bytes _ is (bytes_of_number 8 bytes width h))))

-- how a format has words of 4 or 8 bytes
four_reads : (format : PlainFormat) (r : Reading) (bytes : List ℕ) → length bytes ≡ 4 → AreBytes bytes → ((w : List ℕ) → formatted (Some format) w ≡ four_read r w)
    → ReadsBack (Some format) bytes (number_text w32 r bytes)
four_reads format Signed bytes width h read = signed_32 (Some format) bytes width h read
four_reads format Unsigned bytes width h read = unsigned_32 (Some format) bytes width h read
four_reads format Bits bytes width h read = hexadecimal_reads (Some format) bytes h

eight_reads : (format : PlainFormat) (r : Reading) (bytes : List ℕ) → length bytes ≡ 8 → AreBytes bytes → ((w : List ℕ) → formatted (Some format) w ≡ eight_read r w)
    → ReadsBack (Some format) bytes (number_text w64 r bytes)
eight_reads format Signed bytes width h read = signed_64 (Some format) bytes width h read
eight_reads format Unsigned bytes width h read = unsigned_64 (Some format) bytes width h read
eight_reads format Bits bytes width h read = hexadecimal_reads (Some format) bytes h

time_reads : (bytes : List ℕ) → length bytes ≡ 4 → AreBytes bytes → ReadsBack (Some (FourBytes Time)) bytes (number_text w32 Unsigned bytes)
time_reads bytes width h =
    let small : number bytes < 2 ^ 32 = omega (arith, number_small 4 bytes width h) in
    let fits : number bytes < 2 ^ 64 = omega (arith, small) in
    from_word (Some (FourBytes Time)) bytes (decimal (number bytes))
    (decimal_reads (Some (FourBytes Time)) bytes (number bytes) fits
    (ap (λ (o : Option ℕ). number_bytes 4 (option_or o (time_of (decimal (number bytes))))) (any_back (2 ^ 32) (number bytes) small fits) ∙ ap Ok (bytes_of_number 4 bytes width h)))

accepted : (format : PlainFormat) (bytes : List ℕ) → IsLeaf format bytes → AreBytes bytes → ReadsBack (Some format) bytes (value_text format bytes)
accepted (AnyBytes name) bytes leaf h = hexadecimal_reads (Some (AnyBytes name)) bytes h
accepted (FourBytes Integer32) bytes leaf h = four_reads (FourBytes Integer32) Signed bytes leaf h (λ w. refl)
accepted (FourBytes Unsigned32) bytes leaf h = four_reads (FourBytes Unsigned32) Unsigned bytes leaf h (λ w. refl)
accepted (FourBytes Float32) bytes leaf h = four_reads (FourBytes Float32) Bits bytes leaf h (λ w. refl)
accepted (FourBytes Time) bytes leaf h = time_reads bytes leaf h
accepted (EightBytes name) bytes leaf h = eight_reads (EightBytes name) (eight_reading name) bytes leaf h (λ w. refl)
accepted (Enumerated ranges) bytes leaf h = signed_32 (Some (Enumerated ranges)) bytes leaf.0 h (λ w. refl)
accepted Address bytes leaf h = address_reads bytes leaf h
accepted Utf8String bytes leaf h = quoted_reads (Some Utf8String) bytes refl h
accepted DiameterIdentity bytes leaf h = quoted_reads (Some DiameterIdentity) bytes refl h
accepted DiameterUri bytes leaf h = quoted_reads (Some DiameterUri) bytes refl h
accepted Grouped bytes leaf h = hexadecimal_reads (Some Grouped) bytes h

pub value_back : (format : Option PlainFormat) (bytes w : List ℕ) → AreBytes bytes → IsValueWord format bytes w → ReadsBack format bytes w
value_back None bytes w h is = subst (ReadsBack None bytes) (sym is) (hexadecimal_reads None bytes h)
value_back (Some format) bytes w h (inl (leaf, is)) = subst (ReadsBack (Some format) bytes) (sym is) (accepted format bytes leaf h)
value_back (Some format) bytes w h (inr (no_leaf, is)) = subst (ReadsBack (Some format) bytes) (sym is) (hexadecimal_reads (Some format) bytes h)
