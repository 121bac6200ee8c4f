-- How a value is printed (our profile).
use Rattle.std.specs.Prelude.{◌≡◌, ℕ, ◌+◌, ◌/◌, ◌%◌, ◌&&◌, nat_lt, nat_le, ◌==◌, not, if◌then◌else◌, List, [], ◌∷◌, ◌++◌, map, take, drop, codes}
use Rattle.std.specs.List.{flat_map, join_with_byte}
use Rattle.std.specs.Int.{Width, w32, w64, cast_signed}
use Rattle.std.specs.Fmt.{decimal, signed_decimal}
use Rattle.dia_data.specs.Plain.{PlainFormat, FourBytes, EightBytes, Address, Utf8String, DiameterIdentity, DiameterUri, Enumerated, four_reading, eight_reading}
use Rattle.dia_data.specs.declared.format.Reading.{Reading}
use Rattle.dia_data.specs.declared.format.Reading.TheVariants.{Signed, Unsigned, Bits}
use Rattle.dia_data.specs.Number.{number}
use Rattle.dia_data.specs.Leaf.{IsLeaf}

-- `0` to `9`, `a` to `f`
abbrev pub hex_digit : ℕ → ℕ
hex_digit n = if nat_lt n 10 then 48 + n else 87 + n

-- two lower-case digits a byte
abbrev pub hex_byte : ℕ → List ℕ
hex_byte byte = hex_digit (byte / 16) ∷ hex_digit (byte % 16) ∷ []

-- `x`, then the bytes
abbrev pub hexadecimal : List ℕ → List ℕ
hexadecimal bytes = 120 ∷ flat_map hex_byte bytes

-- a printing character other than the quote and the backslash is written as it is, each other byte is `\x` and two digits
abbrev pub quoted_byte : ℕ → List ℕ
quoted_byte byte = if nat_le 32 byte && nat_le byte 126 && not (byte == 34) && not (byte == 92) then byte ∷ [] else codes "\\x" ++ hex_byte byte

-- between double quotes
abbrev pub quoted : List ℕ → List ℕ
quoted bytes = 34 ∷ flat_map quoted_byte bytes ++ 34 ∷ []

-- two bytes a group
abbrev pub groups : List ℕ → List (List ℕ)
groups (a ∷ b ∷ bytes) = (hex_byte a ++ hex_byte b) ∷ groups bytes
groups bytes = []

-- four decimals with dots for IPv4, eight groups of four digits with colons for IPv6, the family and the bytes for others
abbrev pub address : List ℕ → List ℕ
address bytes =
    let family = number (take 2 bytes) in
    let rest = drop 2 bytes in
    if family == 1 then join_with_byte 46 (map decimal rest)
    else (if family == 2 then join_with_byte 58 (groups rest)
    else codes "family " ++ decimal family ++ codes " " ++ hexadecimal rest)

-- the text of bytes that are as wide as a number
abbrev pub number_text : Width → Reading → List ℕ → List ℕ
number_text width Signed bytes = signed_decimal (cast_signed width (number bytes))
number_text width Unsigned bytes = decimal (number bytes)
number_text width Bits bytes = hexadecimal bytes

-- the text of data that the format accepts
abbrev pub value_text : PlainFormat → List ℕ → List ℕ
value_text (FourBytes name) bytes = number_text w32 (four_reading name) bytes
value_text (EightBytes name) bytes = number_text w64 (eight_reading name) bytes
value_text (Enumerated ranges) bytes = signed_decimal (cast_signed w32 (number bytes))
value_text Address bytes = address bytes
value_text Utf8String bytes = quoted bytes
value_text DiameterIdentity bytes = quoted bytes
value_text DiameterUri bytes = quoted bytes
value_text format bytes = hexadecimal bytes

-- data that the format does not accept is shown in hexadecimal
pub record IsValueText (format : PlainFormat) (bytes text : List ℕ) : Type 0 where
  pub accepted : IsLeaf format bytes → text ≡ value_text format bytes
  pub refused : ¬ IsLeaf format bytes → text ≡ hexadecimal bytes

-- the text of the data was added
abbrev pub AddsValueText : PlainFormat → List ℕ → List ℕ → List ℕ → Type 0
AddsValueText format bytes old new = (text : List ℕ) × IsValueText format bytes text × (new ≡ old ++ text)
