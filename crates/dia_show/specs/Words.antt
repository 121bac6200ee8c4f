-- The words of values: their text, and what it says (our profile).
use Rattle.std.specs.Prelude.{◌≡◌, ℕ, ◌+◌, nat_lt, ◌==◌, ◌||◌, ◌&&◌, Bool, false, not, if◌then◌else◌, List, [], ◌∷◌, ◌++◌, length, take, map, is_some, Option, Some, None, codes}
use Rattle.std.specs.Borrow.{Bor}
use Rattle.std.specs.Char.{is_ascii_digit, is_ascii_graphic}
use Rattle.std.specs.List.{after_first, flat_map, list_all, prefix_len}
use Rattle.std.specs.Map.{lookup}
use Rattle.std.specs.Option.{option_or}
use Rattle.std.specs.Str.{IsUtf8, bytes_eq}
use Rattle.std.specs.Str.Lines.{lines}
use Rattle.std.specs.Str.Lossy.{utf8_valid_len}
use Rattle.dia_io.specs.declared.Input.{Input}
use Rattle.dia_io.specs.Inputs.{Holds, IsOver}
use Rattle.dia_report.specs.Refusals.{fault_at}
use Rattle.dia_terms.specs.Names.{is_run_byte}
use Rattle.dia_show.specs.declared.words.Words.{Words}
use Rattle.dia_show.specs.declared.words.ValuesFault.{ValuesFault}
use Rattle.dia_show.specs.declared.words.ValuesFault.TheVariants as fault
use Rattle.dia_show.specs.declared.reading.BadValues.{BadValues}
use Rattle.dia_show.specs.declared.reading.BadValues.TheVariants.{TooLong, NotText, Syntax, Duplicate, Limit}

-- the most bytes of the text
abbrev pub max_values : ℕ
max_values = 4194304

-- the most lines of the text
abbrev pub max_lines : ℕ
max_lines = 65536

-- an AVP's name and a number, and the word for this number
abbrev pub Word : Type 0
Word = (List ℕ × List ℕ) × List ℕ

-- ---- a line: `NAME NUMBER WORD`

-- what precedes the first blank (32), and what follows it
abbrev pub front_part : List ℕ → List ℕ
front_part text = take (prefix_len (λ c. not (c == 32)) text) text

abbrev pub after_part : List ℕ → List ℕ
after_part text = after_first (λ c. c == 32) text

-- letters, digits and dashes
abbrev pub is_name : List ℕ → Bool
is_name text = nat_lt 0 (length text) && list_all is_run_byte text

-- decimal digits, of which the first is no `0` (48)
abbrev pub is_positive : List ℕ → Bool
is_positive [] = false
is_positive (c ∷ cs) = not (c == 48) && list_all is_ascii_digit (c ∷ cs)

-- a number as it is printed: with a `-` (45) where it is negative, and without leading zeros
abbrev pub is_number : List ℕ → Bool
is_number [] = false
is_number (c ∷ cs) = if c == 45 then is_positive cs else (is_positive (c ∷ cs) || bytes_eq (c ∷ cs) (codes "0"))

-- printing ASCII without blanks
abbrev pub is_word : List ℕ → Bool
is_word text = nat_lt 0 (length text) && list_all is_ascii_graphic text

abbrev pub has_form : List ℕ → Bool
has_form line = is_name (front_part line) && (is_number (front_part (after_part line)) && is_word (after_part (after_part line)))

abbrev pub key_of_line : List ℕ → List ℕ × List ℕ
key_of_line line = (front_part line, front_part (after_part line))

-- spaces and tabs alone, or a comment, which `#` (35) begins
abbrev pub is_blank : ℕ → Bool
is_blank c = c == 32 || c == 9

abbrev pub is_comment : List ℕ → Bool
is_comment [] = false
is_comment (c ∷ cs) = c == 35

abbrev pub is_skipped : List ℕ → Bool
is_skipped line = is_comment line || list_all is_blank line

-- ---- the words

abbrev pub is_key : List ℕ → List ℕ → List ℕ × List ℕ → Bool
is_key name number key = bytes_eq name key.0 && bytes_eq number key.1

-- the word for a number of an AVP, as it is printed
abbrev pub word_of : List Word → List ℕ → List ℕ → Option (List ℕ)
word_of words name number = lookup (is_key name number) words

-- what a line adds
abbrev pub words_by : List ℕ → List Word
words_by line = if is_skipped line then [] else (key_of_line line, after_part (after_part line)) ∷ []

-- the words of a text: those of its lines, in order
abbrev pub words_of : List ℕ → List Word
words_of text = flat_map words_by (lines text)

-- ---- what is wrong with a text

-- with the line of this number, after lines that have these words
abbrev pub line_fault : ℕ → List Word → List ℕ → Option ValuesFault
line_fault n before line =
    if nat_lt max_lines n then Some (fault.Limit n)
    else (if is_skipped line then None
    else (if not (has_form line) then Some (fault.Syntax n)
    else (if is_some (word_of before (front_part line) (front_part (after_part line))) then Some (fault.Duplicate n) else None)))

-- with lines that are numbered from n on: the first fault
abbrev pub fault_from : ℕ → List Word → List (List ℕ) → Option ValuesFault
fault_from n before [] = None
fault_from n before (line ∷ rest) = option_or (line_fault n before line) (fault_from (n + 1) (before ++ words_by line) rest)

abbrev pub values_fault : List ℕ → Option ValuesFault
values_fault text = fault_from 1 [] (lines text)

-- ---- the input

-- the input is the text of these words
abbrev pub IsValuesText : Input → List Word → Type 0
IsValuesText input words = (text : List ℕ) × Holds input max_values text × IsUtf8 text × (values_fault text ≡ None) × (words ≡ words_of text)

abbrev pub HasFault : Input → ValuesFault → Type 0
HasFault input f = (text : List ℕ) × Holds input max_values text × IsUtf8 text × (values_fault text ≡ Some f)

-- the input is no such text, and this is why
abbrev pub IsNoValuesText : Input → BadValues → Type 0
IsNoValuesText input TooLong = IsOver input max_values
IsNoValuesText input (NotText at) = (text : List ℕ) × Holds input max_values text × (¬ IsUtf8 text) × (at ≡ utf8_valid_len text)
IsNoValuesText input (Syntax n) = HasFault input (fault.Syntax n)
IsNoValuesText input (Duplicate n) = HasFault input (fault.Duplicate n)
IsNoValuesText input (Limit n) = HasFault input (fault.Limit n)

abbrev pub bad_values_text : BadValues → List ℕ
bad_values_text TooLong = codes "too long"
bad_values_text (NotText at) = codes "not text"
bad_values_text (Syntax n) = fault_at (codes "syntax") n
bad_values_text (Duplicate n) = fault_at (codes "duplicate") n
bad_values_text (Limit n) = fault_at (codes "limit") n

-- what is reported of it
abbrev pub values_line : BadValues → List ℕ
values_line bad = codes "values: " ++ bad_values_text bad

-- ---- what a table holds

abbrev pub plain_word : (Bor (List ℕ) × Bor (List ℕ)) × Bor (List ℕ) → Word
plain_word e = ((e.0.0.now, e.0.1.now), e.1.now)

abbrev pub plain_words : Words → List Word
plain_words words = map plain_word words.words.entries
