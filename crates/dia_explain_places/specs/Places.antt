-- Places of a text as a reader looks for them. A place is the offset of a byte.
use Rattle.std.specs.Prelude.{◌≡◌, ℕ, ◌+◌, ◌-◌, ◌*◌, ◌==◌, ◌&&◌, nat_lt, not, if◌then◌else◌, Bool, false, List, ◌++◌, length, take, drop, replicate, count_by}
use Rattle.std.specs.Prelude.{Option, Some, None, slice_get, find, flat_map, unwrap_or, codes}
use Rattle.std.specs.Option.{option_map}
use Rattle.std.specs.List.{prefix_len, suffix_len, take_while}
use Rattle.std.specs.Char.{encode_utf8}
use Rattle.std.specs.Str.{chars}
use Rattle.std.specs.Str.Lossy.{utf8_lossy}
use Rattle.std.specs.Fmt.{decimal}
use Rattle.dia_ccf.specs.LexerTokens.{tokens_from}
use Rattle.dia_ccf.specs.Lexemes.{is_named}
pub use Rattle.dia_terms.specs.Texts.{is_white}

-- ---- lines and columns

-- the line of a place: 1 and the line feeds before it
abbrev pub line_at : List ℕ → ℕ → ℕ
line_at text at = 1 + count_by (λ c. c == 10) (take at text)

-- how many bytes of its line precede a place
abbrev pub bytes_in_line : List ℕ → ℕ → ℕ
bytes_in_line text at = suffix_len (λ c. not (c == 10)) (take at text)

-- the part of its line before a place
abbrev pub line_front : List ℕ → ℕ → List ℕ
line_front text at = drop (length (take at text) - bytes_in_line text at) (take at text)

-- the part of its line from a place on, without the carriage return or the line feed that ends it
abbrev pub line_rest : List ℕ → ℕ → List ℕ
line_rest text at = take_while (λ c. not (c == 10) && not (c == 13)) (drop at text)

-- a byte that continues a character of UTF-8
abbrev pub is_inner : ℕ → Bool
is_inner c = not (nat_lt c 128) && nat_lt c 192

-- how many characters begin in these bytes
abbrev pub characters : List ℕ → ℕ
characters bytes = count_by (λ c. not (is_inner c)) bytes

-- the column of a place: 1 and the characters of its line before it
abbrev pub column_at : List ℕ → ℕ → ℕ
column_at text at = 1 + characters (line_front text at)

-- a place as it is reported: its line and its column, both in decimal
abbrev pub line_column : List ℕ → ℕ → List ℕ
line_column text at = decimal (line_at text at) ++ codes ":" ++ decimal (column_at text at)

-- how a diagnostic begins: the word that names the text, and the place
abbrev pub place_text : List ℕ → List ℕ → ℕ → List ℕ
place_text name text at = name ++ codes ":" ++ line_column text at ++ codes ": "

-- how a line begins that is about a place of a text, or about the whole text
abbrev pub start_text : List ℕ → List ℕ → Option ℕ → List ℕ
start_text name text None = name ++ codes ": "
start_text name text (Some at) = place_text name text at

-- the place of the first name from a place on, or that place where there is none
abbrev pub name_place : List ℕ → ℕ → ℕ
name_place text at = unwrap_or (option_map (λ p. p.at) (find is_named (tokens_from text at))) at

-- ---- what is shown of a line

-- at most the last n bytes, from the start of a character on
abbrev pub whole_end : ℕ → List ℕ → List ℕ
whole_end n bytes = drop (prefix_len is_inner (drop (length bytes - n) bytes)) (drop (length bytes - n) bytes)

-- a character as it is shown: for a control character a space
abbrev pub shown_char : ℕ → List ℕ
shown_char c = encode_utf8 (if nat_lt c 32 then 32 else c)

-- bytes as they are shown: each character of their text
abbrev pub shown : List ℕ → List ℕ
shown bytes = flat_map shown_char (chars (utf8_lossy bytes))

-- what is shown of the line before a place
abbrev pub shown_front : List ℕ → ℕ → List ℕ
shown_front text at = whole_end 70 (line_front text at)

-- a line of a text, and below it a caret, indented by as many spaces as characters are shown before the place
abbrev pub excerpt : List ℕ → ℕ → List ℕ
excerpt text at = codes "  " ++ shown (shown_front text at) ++ shown (take 50 (line_rest text at)) ++ codes "\n  "
    ++ replicate (characters (shown_front text at)) 32 ++ codes "^\n"

-- ---- the digits of messages

-- how many bytes that aren't white space precede a place
abbrev pub digits_before : List ℕ → ℕ → ℕ
digits_before text at = count_by (λ c. not (is_white c)) (take at text)

-- the first digit of a byte is at a place: two digits precede it for each byte before
pub record IsAtByte (text : List ℕ) (byte at : ℕ) : Type 0 where
  pub digit : ℕ
  pub occurs : slice_get text at ≡ Some digit
  pub is_digit : is_white digit ≡ false
  pub before : digits_before text at ≡ byte * 2
