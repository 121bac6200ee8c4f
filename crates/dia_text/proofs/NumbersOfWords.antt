-- What a word of digits is parsed as.
use Rattle.std.proofs.Common.{◌≡◌, ℕ, ◌<◌, ◌^◌, true, List, [], ◌∷◌, length, Result, Ok, Err, refl, arith, inl, inr, rules}
use Rattle.std.specs.List.{list_all}
use Rattle.std.specs.Result.{result_ok}
use Rattle.std.specs.Char.{is_ascii_digit}
use Rattle.std.specs.Str.{IsAscii, IsUtf8}
use Rattle.std.specs.Str.Parse.{digits_value, ParsesUnsigned}
use Rattle.std.proofs.lemmas.Bool.{and_parts, lt-ltb, le-ltb, cases_lt}
use Rattle.std.proofs.lemmas.Bool.Decides.{nat_tests}
use Rattle.std.proofs.lemmas.Str.{IsUtf8-from_ascii}
use Rattle.std.proofs.lemmas.Str.Ascii.{IsAscii-nil, IsAscii-cons}
use Rattle.std.proofs.lemmas.Str.Parse.{IsDigitsTest, IsNumeralModel, numerals_by_value, parse_digits}
use Rattle.dia_text.specs.Numbers.{number_of}

digits_test : IsDigitsTest (λ ds. list_all is_ascii_digit ds ≡ true)
digits_test = search rules

pub digits_model : IsNumeralModel (λ ds. list_all is_ascii_digit ds ≡ true) (digits_value 10)
digits_model = numerals_by_value _ digits_test

digit_is_ascii : (c : ℕ) → is_ascii_digit c ≡ true → c < 128
digit_is_ascii c digit = grind (arith, nat_tests)

digits_are_ascii : (ds : List ℕ) → list_all is_ascii_digit ds ≡ true → IsAscii ds
digits_are_ascii [] all = IsAscii-nil
digits_are_ascii (c ∷ cs) all =
    let parts = and_parts (is_ascii_digit c) (list_all is_ascii_digit cs) all in
    IsAscii-cons c cs (digit_is_ascii c parts.0) (digits_are_ascii cs parts.1)

pub digits_are_text : (ds : List ℕ) → list_all is_ascii_digit ds ≡ true → IsUtf8 ds
digits_are_text ds all = IsUtf8-from_ascii ds (digits_are_ascii ds all)

by_ok : {E : Type 0} (word : List ℕ) (r : Result ℕ E) → 0 < length word → list_all is_ascii_digit word ≡ true → ParsesUnsigned 64 10 word r → result_ok r ≡ number_of word
by_ok {E = E} word (Ok n) some all h =
    let (fits, is) = parse_digits digits_model {E = E} 64 word (Ok n) h all in
    rw (lt-ltb 0 (length word) some, all, lt-ltb (digits_value 10 word) (2 ^ 64) fits.1, is) refl
by_ok {E = E} word (Err e) some all h =
    let no = parse_digits digits_model {E = E} 64 word (Err e) h all in
    elim (cases_lt (digits_value 10 word) (2 ^ 64)) [
      | inl small ↦ absurd (no (some, small))
      | inr great ↦ rw (lt-ltb 0 (length word) some, all, le-ltb (digits_value 10 word) (2 ^ 64) great) refl
    ]

pub parsed : {E : Type 0} (word : List ℕ) (r : Result ℕ E) → 0 < length word → list_all is_ascii_digit word ≡ true → ParsesUnsigned 64 10 word r → result_ok r ≡ number_of word
parsed word r some all h = by_ok word r some all h
