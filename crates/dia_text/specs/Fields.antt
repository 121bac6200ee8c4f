-- The parts of a line after its first word: a keyword and its value, which may be left out.
use Rattle.std.specs.Prelude.{ℕ, ◌+◌, ◌^◌, ◌==◌, if◌then◌else◌, List, [], ◌∷◌, Option, Some, None, option_and_then, Result, Ok, Err, codes}
use Rattle.std.specs.Option.{option_map, option_or}
use Rattle.hex.specs.Hex.{decode_of}
use Rattle.hex.specs.declared.error.FromHexError.{FromHexError}
use Rattle.dia_terms.specs.Names.{same_bytes}
use Rattle.dia_text.specs.declared.fault.Kind.{Kind}
use Rattle.dia_text.specs.declared.fault.Kind.TheVariants.{Syntax, Value}
use Rattle.dia_text.specs.declared.fault.Wanted.{Wanted}
use Rattle.dia_text.specs.declared.fault.Wanted.TheVariants.{Number, AvpLength, Bytes}
use Rattle.dia_text.specs.declared.fault.Misfit.{Misfit}
use Rattle.dia_text.specs.Words.{first_word, after_word, after_letter}
use Rattle.dia_text.specs.Numbers.{any_below, hex_byte_of, within}
use Rattle.dia_text.specs.Reading.{◌>>=◌, some_or, at_word}

-- a number below 2 ^ 32 after its keyword; without a default the keyword has to be there
unfoldable pub number_field : List ℕ → Option ℕ → Wanted → List ℕ → Result (ℕ × List ℕ) Misfit
number_field keyword default wanted text =
    if same_bytes (first_word text) keyword
    then (at_word (after_word text) Number (some_or (any_below (2 ^ 32) (first_word (after_word text))) Value) >>= λ n. Ok (n, after_word (after_word text)))
    else (at_word text wanted (some_or default Syntax) >>= λ n. Ok (n, text))

abbrev pub letter_then : ℕ → (List ℕ → Option ℕ) → List ℕ → Option (List ℕ) → Option ℕ
letter_then flag more word None = more word
letter_then flag more word (Some rest) = option_map (λ n. flag + n) (more rest)

-- the sum of the flags of letters, in the order of the table, each at most once
abbrev pub letters_value : List (ℕ × ℕ) → List ℕ → Option ℕ
letters_value [] [] = Some 0
letters_value [] (c ∷ cs) = None
letters_value (l ∷ ls) word = letter_then l.1 (letters_value ls) word (after_letter l.0 word)

-- the bits without a name, where one is set: `+` (43) and two hexadecimal digits
abbrev pub reserved_value : List ℕ → Option ℕ
reserved_value [] = Some 0
reserved_value (c ∷ cs) = if c == 43 then hex_byte_of cs else None

-- the flag of the first sign, and what follows: the letter, or a dash (45) where the flag is clear
abbrev pub column : ℕ × ℕ → List ℕ → Option (ℕ × List ℕ)
column l [] = None
column l (c ∷ cs) = if c == l.0 then Some (l.1, cs) else if c == 45 then Some (0, cs) else None

-- the sum of the flags of a word that has a sign for each letter of the table, in this order
abbrev pub columns_value : List (ℕ × ℕ) → List ℕ → Option ℕ
columns_value [] word = reserved_value word
columns_value (l ∷ ls) word = option_and_then (λ first. option_map (λ n. first.0 + n) (columns_value ls first.1)) (column l word)

-- letters as `show --names` prints them, or those that are set alone
abbrev pub by_letters : List (ℕ × ℕ) → List ℕ → Option ℕ
by_letters letters word = option_or (letters_value letters word) (columns_value letters word)

-- flags: a dash for none, two hexadecimal digits, or letters
abbrev pub flags_of : List (ℕ × ℕ) → List ℕ → Option ℕ
flags_of letters [] = None
flags_of letters (c ∷ cs) =
    if same_bytes (c ∷ cs) (codes "-") then Some 0 else option_or (hex_byte_of (c ∷ cs)) (option_and_then (within 256) (by_letters letters (c ∷ cs)))

-- flags after their keyword; without a default the keyword has to be there
unfoldable pub flags_field : List (ℕ × ℕ) → Wanted → Option ℕ → Wanted → List ℕ → Result (ℕ × List ℕ) Misfit
flags_field letters flags default wanted text =
    if same_bytes (first_word text) (codes "flags")
    then (at_word (after_word text) flags (some_or (flags_of letters (first_word (after_word text))) Value) >>= λ n. Ok (n, after_word (after_word text)))
    else (at_word text wanted (some_or default Syntax) >>= λ n. Ok (n, text))

-- an AVP Length within the limit of its field
unfoldable pub length_field : List ℕ → Result (Option ℕ × List ℕ) Misfit
length_field text =
    if same_bytes (first_word text) (codes "length")
    then (at_word (after_word text) AvpLength (some_or (any_below (2 ^ 24) (first_word (after_word text))) Value) >>= λ n. Ok (Some n, after_word (after_word text)))
    else Ok (None, text)

abbrev pub decoded : Result (List ℕ) FromHexError → Result (List ℕ) Kind
decoded (Ok bytes) = Ok bytes
decoded (Err e) = Err Value

-- `x` and two hexadecimal digits a byte
abbrev pub bytes_of : List ℕ → Result (List ℕ) Kind
bytes_of [] = Err Syntax
bytes_of (c ∷ cs) = if c == 120 then decoded (decode_of cs) else Err Value

unfoldable pub padding_field : List ℕ → Result (Option (List ℕ) × List ℕ) Misfit
padding_field text =
    if same_bytes (first_word text) (codes "pad")
    then (at_word (after_word text) Bytes (bytes_of (first_word (after_word text))) >>= λ bytes. Ok (Some bytes, after_word (after_word text)))
    else Ok (None, text)
