-- The text of a list of accepted lines, and what its entries accept.
use Rattle.std.specs.Prelude.{◌≡◌, ℕ, ◌+◌, ◌-◌, ◌==◌, nat_lt, ◌&&◌, ◌||◌, Bool, if◌then◌else◌, List, [], ◌∷◌, ◌++◌, length, Option, Some, None, option_and_then, unwrap_or, flat_map, codes, is_some, ⊤}
use Rattle.std.specs.Char.{encode_utf8, is_ascii_alphanumeric, is_ascii_digit}
use Rattle.std.specs.List.{after_first, before_first, list_all, position_or_len}
use Rattle.std.specs.Option.{option_map, option_map_or, option_or}
use Rattle.std.specs.Fmt.{decimal}
use Rattle.std.specs.Str.{IsUtf8, bytes_eq, chars}
use Rattle.std.specs.Str.Lines.{lines}
use Rattle.std.specs.Str.Lossy.{utf8_valid_len}
use Rattle.dia_accepted.specs.Accepted.{PlainEntry, max_lines, max_list}
use Rattle.dia_accepted.specs.Words.{entry_text}
use Rattle.dia_io.specs.declared.Input.{Input}
use Rattle.dia_io.specs.Inputs.{Holds, IsOver}
use Rattle.dia_explain_places.specs.Places.{column_at, line_at}
use Rattle.dia_explain_places.specs.Tables.{start_of_line}
use Rattle.dia_lint.specs.Words.{rule_named, rule_word}
use Rattle.dia_lint.specs.declared.rule.Rule.{Rule}
use Rattle.dia_lint_text.specs.declared.accepted.BadList.{BadList}
use Rattle.dia_lint_text.specs.declared.accepted.BadList.TheVariants.{TooLong, NotText, Syntax, Limit}

-- ---- the form of an entry: `RULE SUBJECT: DETAIL`, or `FILE:LINE:COLUMN: ` and this

pub record Form : Type 0 where
  pub rule : Rule
  pub subject : List ℕ
  pub detail : List ℕ

-- what precedes and what follows the first such byte
abbrev pub split_at : ℕ → List ℕ → Option (List ℕ × List ℕ)
split_at c text = if nat_lt (position_or_len (λ b. b == c) text) (length text) then Some (before_first (λ b. b == c) text, after_first (λ b. b == c) text) else None

-- a text without the space (32) that it begins with
abbrev pub after_space : List ℕ → Option (List ℕ)
after_space [] = None
after_space (c ∷ cs) = if c == 32 then Some cs else None

abbrev pub is_number : List ℕ → Bool
is_number text = nat_lt 0 (length text) && list_all is_ascii_digit text

-- what follows `NUMBER:NUMBER: `
abbrev pub after_column : List ℕ → List ℕ × List ℕ → Option (List ℕ)
after_column line rest = if is_number line && is_number rest.0 then after_space rest.1 else None

abbrev pub after_place : List ℕ → Option (List ℕ)
after_place text = option_and_then (λ first. option_and_then (after_column first.0) (split_at 58 first.1)) (split_at 58 text)

-- what follows the first `:NUMBER:NUMBER: `
abbrev pub after_first_place : List ℕ → Option (List ℕ)
after_first_place [] = None
after_first_place (c ∷ cs) = if c == 58 then option_or (after_place cs) (after_first_place cs) else after_first_place cs

abbrev pub without_place : List ℕ → List ℕ
without_place entry = unwrap_or (after_first_place entry) entry

-- a letter, a digit, a dash (45) or a slash (47)
abbrev pub is_of_subject : ℕ → Bool
is_of_subject c = is_ascii_alphanumeric c || (c == 45 || c == 47)

abbrev pub is_subject : List ℕ → Bool
is_subject text = bytes_eq text (codes "*") || (nat_lt 0 (length text) && list_all is_of_subject text)

abbrev pub rule_and_rest : List ℕ → Option (Rule × List ℕ)
rule_and_rest words = option_and_then (λ parts. option_map (λ rule. (rule, parts.1)) (rule_named parts.0)) (split_at 32 words)

abbrev pub subject_and_detail : List ℕ → Option (List ℕ × List ℕ)
subject_and_detail rest =
    option_and_then (λ parts. if is_subject parts.0 then option_map (λ detail. (parts.0, detail)) (after_space parts.1) else None) (split_at 58 rest)

abbrev pub form_by : Rule → List ℕ × List ℕ → Option Form
form_by rule parts = if nat_lt 0 (length parts.1) then Some (record { rule = rule; subject = parts.0; detail = parts.1 }) else None

abbrev pub form_of : List ℕ → Option Form
form_of entry = option_and_then (λ found. option_and_then (form_by found.0) (subject_and_detail found.1)) (rule_and_rest (without_place entry))

-- of an entry without a form, the rest from the fault on
abbrev pub faulty_rest : List ℕ → List ℕ
faulty_rest entry =
    option_map_or (λ found. if is_some (subject_and_detail found.1) then [] else found.1) (rule_and_rest (without_place entry)) (without_place entry)

-- ---- entries

-- a subject with a dot (46) for each slash
abbrev pub dotted_char : ℕ → List ℕ
dotted_char c = encode_utf8 (if c == 47 then 46 else c)

abbrev pub dotted : List ℕ → List ℕ
dotted text = flat_map dotted_char (chars text)

-- what counts of a line, in the order of lines of `breaking`
abbrev pub counted_words : Rule → List ℕ → List ℕ → List ℕ
counted_words rule subject detail = dotted subject ++ (codes ": " ++ rule_word rule ++ codes ": " ++ detail)

abbrev pub entry_by : ℕ → List ℕ → Form → PlainEntry
entry_by n words form = record { line = n; words = words; counted = counted_words form.rule form.subject form.detail }

-- the entry of a form, if its rule is one that is asked for
abbrev pub asked_entry : (Rule → Bool) → ℕ → List ℕ → Form → List PlainEntry
asked_entry is n words form = if is form.rule then entry_by n words form ∷ [] else []

-- the line has no entry: it is empty, or a comment alone
abbrev pub is_skipped : List ℕ → Bool
is_skipped line = length (entry_text line) == 0

abbrev pub entries_by : (Rule → Bool) → ℕ → List ℕ → List PlainEntry
entries_by is n line = if is_skipped line then [] else option_map_or (asked_entry is n (entry_text line)) (form_of (entry_text line)) []

-- those of lines that are numbered from n on
abbrev pub entries_from : (Rule → Bool) → ℕ → List (List ℕ) → List PlainEntry
entries_from is n [] = []
entries_from is n (line ∷ rest) = entries_by is n line ++ entries_from is (n + 1) rest

-- ---- texts that are refused

-- what is wrong with the line of this number in the text
abbrev pub line_fault : List ℕ → ℕ → List ℕ → Option BadList
line_fault text n line =
    if nat_lt max_lines n then Some (Limit n)
    else if is_skipped line then None
    else if is_some (form_of (entry_text line)) then None
    else Some (Syntax n (start_of_line text n + (length (entry_text line) - length (faulty_rest (entry_text line)))))

-- the first fault of lines that are numbered from n on
abbrev pub fault_from : List ℕ → ℕ → List (List ℕ) → Option BadList
fault_from text n [] = None
fault_from text n (line ∷ rest) = option_or (line_fault text n line) (fault_from text (n + 1) rest)

-- the input is the text of a list with these entries
abbrev pub IsListText : (Rule → Bool) → Input → List PlainEntry → Type 0
IsListText is input list = (text : List ℕ) × Holds input max_list text × IsUtf8 text × (fault_from text 1 (lines text) ≡ None) × (list ≡ entries_from is 1 (lines text))

-- the text has this fault
abbrev pub HasFault : Input → BadList → Type 0
HasFault input bad = (text : List ℕ) × Holds input max_list text × IsUtf8 text × (fault_from text 1 (lines text) ≡ Some bad)

-- the input is the text of no list, and this is why
abbrev pub IsNoListText : Input → BadList → Type 0
IsNoListText input TooLong = IsOver input max_list
IsNoListText input (NotText at) = (text : List ℕ) × Holds input max_list text × (¬ IsUtf8 text) × (at ≡ utf8_valid_len text)
IsNoListText input (Syntax n at) = HasFault input (Syntax n at)
IsNoListText input (Limit n) = HasFault input (Limit n)

-- it is a line that is at fault
abbrev pub HasLine : BadList → Type 0
HasLine TooLong = ⊥
HasLine (NotText at) = ⊥
HasLine (Syntax n at) = ⊤
HasLine (Limit n) = ⊤

-- ---- what is reported of one

abbrev pub bad_list_word : BadList → List ℕ
bad_list_word TooLong = codes "too long"
bad_list_word (NotText at) = codes "not text"
bad_list_word (Syntax n at) = codes "syntax"
bad_list_word (Limit n) = codes "limit"

abbrev pub bad_list_text : BadList → List ℕ
bad_list_text TooLong = codes "too long"
bad_list_text (NotText at) = codes "not text"
bad_list_text (Syntax n at) = codes "syntax at line " ++ decimal n
bad_list_text (Limit n) = codes "limit at line " ++ decimal n

abbrev pub line_column_json : List ℕ → ℕ → List ℕ
line_column_json text at = codes ",\"line\":" ++ decimal (line_at text at) ++ codes ",\"column\":" ++ decimal (column_at text at)

abbrev pub fault_place_json : List ℕ → BadList → List ℕ
fault_place_json text TooLong = []
fault_place_json text (NotText at) = line_column_json text at
fault_place_json text (Syntax n at) = line_column_json text at
fault_place_json text (Limit n) = codes ",\"line\":" ++ decimal n

abbrev pub bad_list_json : List ℕ → BadList → List ℕ
bad_list_json text bad = codes "{\"error\":\"accepted\",\"kind\":\"" ++ bad_list_word bad ++ codes "\"" ++ fault_place_json text bad ++ codes "}\n"
