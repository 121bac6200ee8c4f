-- Numbers in decimal, and bytes in hexadecimal.
use Rattle.std.specs.Prelude.{ℕ, ◌^◌, ◌+◌, ◌-◌, nat_lt, nat_le, ◌==◌, ◌&&◌, if◌then◌else◌, List, [], ◌∷◌, ◌++◌, length, take, codes, slice_index, Option, Some, None, option_and_then, Result, Ok, Err}
use Rattle.std.specs.Option.{option_map, option_or}
use Rattle.std.specs.List.{list_all}
use Rattle.std.specs.Char.{is_ascii_digit}
use Rattle.std.specs.Str.Parse.{digits_value}
use Rattle.byteorder.specs.Endian.{big_from}
use Rattle.hex.specs.Hex.{decode_sized}
use Rattle.hex.specs.declared.error.FromHexError.{FromHexError}
use Rattle.dia_text.specs.Words.{after_letter}

-- one decimal digit or more that write a number below 2 ^ 64
abbrev pub number_of : List ℕ → Option ℕ
number_of word =
    if nat_lt 0 (length word) && list_all is_ascii_digit word && nat_lt (digits_value 10 word) (2 ^ 64) then Some (digits_value 10 word) else None

abbrev pub within : ℕ → ℕ → Option ℕ
within limit n = if nat_lt n limit then Some n else None

-- a number below the limit
abbrev pub number_below : ℕ → List ℕ → Option ℕ
number_below limit word = option_and_then (within limit) (number_of word)

-- a number below zero as two's complement, of which half are numbers from zero on
abbrev pub complement : ℕ → ℕ → ℕ
complement half n = if n == 0 then 0 else (half - n) + half

-- ---- numbers in hexadecimal

abbrev pub if_decoded : Result (List ℕ) FromHexError → Option (List ℕ)
if_decoded (Ok bytes) = Some bytes
if_decoded (Err e) = None

-- sixteen digits, with zeros before fewer
abbrev pub sixteen : List ℕ → List ℕ
sixteen digits = take (16 - length digits) (codes "0000000000000000") ++ digits

-- 1 to 16 hexadecimal digits
abbrev pub hex_number : List ℕ → Option ℕ
hex_number digits = if nat_lt 0 (length digits) && nat_le (length digits) 16 then option_map (λ bytes. big_from 0 8 bytes) (if_decoded (decode_sized (sixteen digits) 8)) else None

-- such digits after `0x`
abbrev pub prefixed : List ℕ → Option ℕ
prefixed word = option_and_then hex_number (option_and_then (after_letter 120) (after_letter 48 word))

-- a number in decimal, or in hexadecimal after `0x`
abbrev pub any_number : List ℕ → Option ℕ
any_number word = option_or (number_of word) (prefixed word)

-- such a number below the limit
abbrev pub any_below : ℕ → List ℕ → Option ℕ
any_below limit word = option_and_then (within limit) (any_number word)

-- a number from -half up to half, in two's complement
abbrev pub signed_below : ℕ → List ℕ → Option ℕ
signed_below half [] = None
signed_below half (c ∷ cs) = if c == 45 then option_map (complement half) (number_below (half + 1) cs) else any_below half (c ∷ cs)

-- ---- parts of values

abbrev pub first_byte : Result (List ℕ) FromHexError → Option ℕ
first_byte (Ok bytes) = Some (slice_index bytes 0)
first_byte (Err e) = None

-- two hexadecimal digits
abbrev pub hex_byte_of : List ℕ → Option ℕ
hex_byte_of word = first_byte (decode_sized word 1)
