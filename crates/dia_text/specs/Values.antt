-- The data that a value writes, by the format of its AVP.
use Rattle.std.specs.Prelude.{ℕ, ◌+◌, ◌^◌, ◌==◌, ◌&&◌, ◌||◌, Bool, true, false, not, if◌then◌else◌, List, [], ◌∷◌, ◌++◌, length, take, drop, Option, Some, None, is_some, option_and_then, Result, Ok, Err, codes}
use Rattle.std.specs.Option.{option_map, option_map_or, option_or}
use Rattle.std.specs.List.{prefix_len, slice_split, list_any}
use Rattle.std.specs.Char.{is_ascii_alphabetic}
use Rattle.byteorder.specs.Endian.{big_bytes}
use Rattle.hex.specs.Hex.{decode_sized}
use Rattle.dia_terms.specs.Names.{same_bytes}
use Rattle.dia_data.specs.declared.FormatKind.{FormatKind}
use Rattle.dia_data.specs.declared.FormatKind.TheVariants as of_format
use Rattle.dia_data.specs.declared.Reading.{Reading}
use Rattle.dia_data.specs.declared.Reading.TheVariants.{Signed, Unsigned, Bits}
use Rattle.dia_data.specs.Plain.{PlainFormat, Address, FourBytes, Time, kind_of}
use Rattle.dia_text.specs.declared.fault.Kind.{Kind}
use Rattle.dia_text.specs.declared.fault.Kind.TheVariants.{Syntax, Value}
use Rattle.dia_text.specs.declared.fault.Wanted.{Wanted}
use Rattle.dia_text.specs.declared.fault.Wanted.TheVariants as want
use Rattle.dia_text.specs.declared.fault.Misfit.{Misfit}
use Rattle.dia_text.specs.Words.{unblanked, first_word, after_word, after_letter}
use Rattle.dia_text.specs.Numbers.{any_number, any_below, number_below, signed_below, hex_byte_of, if_decoded}
use Rattle.dia_text.specs.Reading.{◌>>=◌, some_or, at_word}
use Rattle.dia_text.specs.Dates.{time_of}
use Rattle.dia_text.specs.Fields.{bytes_of}

-- the bytes of all parts, if each has some
abbrev pub each : (List ℕ → Option (List ℕ)) → List (List ℕ) → Option (List ℕ)
each bytes [] = Some []
each bytes (p ∷ ps) = option_and_then (λ front. option_map (λ rest. front ++ rest) (each bytes ps)) (bytes p)

-- ---- numbers

-- a number in that many bytes
abbrev pub number_bytes : ℕ → Option ℕ → Result (List ℕ) Kind
number_bytes width o = some_or (option_map (big_bytes width) o) Value

-- ---- addresses (RFC 6733 section 4.3.1)

-- a number below 256
abbrev pub decimal_byte : List ℕ → Option (List ℕ)
decimal_byte part = option_map (λ n. n ∷ []) (number_below 256 part)

-- four hexadecimal digits
abbrev pub byte_pair : List ℕ → Option (List ℕ)
byte_pair part = if_decoded (decode_sized part 2)

abbrev pub in_family : ℕ → Option (List ℕ) → Option (List ℕ)
in_family family address = option_map (λ bytes. 0 ∷ family ∷ bytes) address

-- four numbers with dots between them (IPv4), or eight groups of four hexadecimal digits with colons (IPv6)
abbrev pub address_of : List ℕ → Option (List ℕ)
address_of word =
    let numbers = slice_split (λ c. c == 46) word in
    let groups = slice_split (λ c. c == 58) word in
    if length numbers == 4 then in_family 1 (each decimal_byte numbers)
    else if length groups == 8 then in_family 2 (each byte_pair groups)
    else None

-- the number of a family, and the bytes of an address in it
unfoldable pub family_at : List ℕ → Result (List ℕ × List ℕ) Misfit
family_at text = do
  family ← at_word text want.Family (number_bytes 2 (number_below (2 ^ 16) (first_word text)))
  address ← at_word (after_word text) want.Bytes (bytes_of (first_word (after_word text)))
  Ok (family ++ address, after_word (after_word text))

-- ---- texts

-- what is between a backslash and the next one: `x` and two digits for a byte, and bytes that mean themselves
abbrev pub escaped : List ℕ → Option (List ℕ)
escaped text = option_and_then (λ rest. option_map (λ byte. byte ∷ drop 2 rest) (hex_byte_of (take 2 rest))) (after_letter 120 text)

-- the parts between backslashes: in the first one each byte means itself
abbrev pub unescaped : List (List ℕ) → Option (List ℕ)
unescaped [] = Some []
unescaped (p ∷ ps) = option_map (λ rest. p ++ rest) (each escaped ps)

abbrev pub is_no_quote : ℕ → Bool
is_no_quote c = not (c == 34)

-- the bytes up to the closing quote, and what follows it
abbrev pub text_at : List ℕ → Option (List ℕ × List ℕ)
text_at text =
    let at = prefix_len is_no_quote text in
    if at == length text then None
    else option_map (λ bytes. (bytes, drop (at + 1) text)) (unescaped (slice_split (λ c. c == 92) (take at text)))

-- ---- values

-- formats of texts, and of bytes that may be text
abbrev pub is_text : FormatKind → Bool
is_text of_format.AnyBytes = true
is_text of_format.Utf8String = true
is_text of_format.DiameterIdentity = true
is_text of_format.DiameterUri = true
is_text kind = false

abbrev pub may_be_text : Option PlainFormat → Bool
may_be_text (Some format) = is_text (kind_of format)
may_be_text None = true

abbrev pub is_address : Option PlainFormat → Bool
is_address (Some Address) = true
is_address format = false

-- a number of 4 bytes, or of 8
abbrev pub four_read : Reading → List ℕ → Result (List ℕ) Kind
four_read Signed word = number_bytes 4 (signed_below (2 ^ 31) word)
four_read Unsigned word = number_bytes 4 (any_below (2 ^ 32) word)
four_read Bits word = Err Value

abbrev pub eight_read : Reading → List ℕ → Result (List ℕ) Kind
eight_read Signed word = number_bytes 8 (signed_below (2 ^ 63) word)
eight_read Unsigned word = number_bytes 8 (any_number word)
eight_read Bits word = Err Value

-- a number, or an address
abbrev pub formatted_as : FormatKind → List ℕ → Result (List ℕ) Kind
formatted_as (of_format.FourBytes reading) word = four_read reading word
formatted_as (of_format.EightBytes reading) word = eight_read reading word
formatted_as of_format.Enumerated word = number_bytes 4 (signed_below (2 ^ 31) word)
formatted_as of_format.Address word = some_or (address_of word) Value
formatted_as kind word = Err Value

-- of a Time also a date
abbrev pub formatted : Option PlainFormat → List ℕ → Result (List ℕ) Kind
formatted (Some (FourBytes Time)) word = number_bytes 4 (option_or (any_below (2 ^ 32) word) (time_of word))
formatted (Some format) word = formatted_as (kind_of format) word
formatted None word = Err Value

-- `x` and hexadecimal digits for any AVP, or what the format has
abbrev pub value_of : Option PlainFormat → List ℕ → Result (List ℕ) Kind
value_of format [] = Err Syntax
value_of format (c ∷ cs) = if c == 120 then bytes_of (c ∷ cs) else formatted format (c ∷ cs)

-- what could be in place of a value that its format can't have
abbrev pub kind_wanted : FormatKind → Wanted
kind_wanted of_format.AnyBytes = want.TextOrBytes
kind_wanted of_format.Utf8String = want.Text
kind_wanted of_format.DiameterIdentity = want.Text
kind_wanted of_format.DiameterUri = want.Text
kind_wanted (of_format.FourBytes Unsigned) = want.Unsigned32
kind_wanted (of_format.FourBytes Signed) = want.Signed32
kind_wanted (of_format.FourBytes Bits) = want.Bytes
kind_wanted (of_format.EightBytes Unsigned) = want.Unsigned64
kind_wanted (of_format.EightBytes Signed) = want.Signed64
kind_wanted (of_format.EightBytes Bits) = want.Bytes
kind_wanted of_format.Enumerated = want.Signed32
kind_wanted of_format.Grouped = want.Group
kind_wanted of_format.Address = want.Address

abbrev pub format_wanted : Option PlainFormat → Wanted
format_wanted (Some format) = kind_wanted (kind_of format)
format_wanted None = want.BytesOfUnknown

-- the same of a word, which may be missing
abbrev pub value_wanted : Option PlainFormat → List ℕ → Wanted
value_wanted format [] = want.AnyValue
value_wanted format (c ∷ cs) = format_wanted format

-- a value of words, and what follows it
unfoldable pub words_at : Option PlainFormat → List ℕ → Result (List ℕ × List ℕ) Misfit
words_at format text =
    if is_address format && same_bytes (first_word text) (codes "family") then family_at (after_word text)
    else (at_word text (value_wanted format (first_word text)) (value_of format (first_word text)) >>= λ bytes. Ok (bytes, after_word text))

-- a value of words, or of what follows an opening quote
abbrev pub value_or_text : Option PlainFormat → List ℕ → Option (List ℕ) → Result (List ℕ × List ℕ) Misfit
value_or_text format text None = words_at format text
value_or_text format text (Some rest) = at_word text (format_wanted format) (if may_be_text format then some_or (text_at rest) Value else Err Value)

-- a value, and what follows it
unfoldable pub value_at : Option PlainFormat → List ℕ → Result (List ℕ × List ℕ) Misfit
value_at format text = value_or_text format text (after_letter 34 (unblanked text))

-- ---- the date after the number of a Time

abbrev pub is_time : Option PlainFormat → Bool
is_time (Some (FourBytes Time)) = true
is_time format = false

-- the word is the date of this data
abbrev pub is_date_of : List ℕ → List ℕ → Bool
is_date_of bytes word = option_map_or (λ n. same_bytes (big_bytes 4 n) bytes) (time_of word) false

-- what follows the date, where there is one
abbrev pub after_date : Option PlainFormat → List ℕ → List ℕ → List ℕ
after_date format bytes text = if is_time format && is_date_of bytes (first_word text) then after_word text else text

-- ---- the word after a number

abbrev pub is_number : FormatKind → Bool
is_number (of_format.FourBytes Signed) = true
is_number (of_format.FourBytes Unsigned) = true
is_number (of_format.EightBytes Signed) = true
is_number (of_format.EightBytes Unsigned) = true
is_number of_format.Enumerated = true
is_number kind = false

-- formats of numbers but Time, whose number a date may follow
abbrev pub takes_remark : Option PlainFormat → Bool
takes_remark (Some (FourBytes Time)) = false
takes_remark (Some format) = is_number (kind_of format)
takes_remark None = false

-- bytes, or a text
abbrev pub begins_value : List ℕ → Bool
begins_value [] = false
begins_value (c ∷ cs) = c == 120 || c == 34

abbrev pub is_keyword : List ℕ → Bool
is_keyword word = (same_bytes word (codes "flags") || same_bytes word (codes "length")) || same_bytes word (codes "pad")

-- bytes, a text, a number, or a date
abbrev pub is_value : List ℕ → Bool
is_value word = (begins_value word || is_some (any_number word)) || is_some (time_of word)

-- a word for the reader of a text: it has a letter, and is neither a value nor a keyword
abbrev pub is_remark : List ℕ → Bool
is_remark word = list_any is_ascii_alphabetic word && not (is_value word || is_keyword word)

-- what follows the word after a number, where there is one
abbrev pub after_remark : Option PlainFormat → List ℕ → List ℕ
after_remark format text = if takes_remark format && is_remark (first_word text) then after_word text else text

-- what follows the data's word and date
abbrev pub after_note : Option PlainFormat → List ℕ → List ℕ → List ℕ
after_note format bytes text = after_date format bytes (after_remark format text)
