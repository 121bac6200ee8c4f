-- Where a line of a table is refused.
use Rattle.std.specs.Prelude.{ℕ, ◌+◌, ◌-◌, ◌==◌, not, if◌then◌else◌, List, length, take, drop, Option, Some, None, slice_get, unwrap_or}
use Rattle.std.specs.List.{prefix_len, take_while, range_with_len}
use Rattle.dia_compat.specs.Words.{PlainWords, limit_part, word_of, words_in, wrong_part}
use Rattle.dia_compat.specs.declared.PairPart.{PairPart}
use Rattle.dia_compat.specs.declared.PairPart.TheVariants.{After}
use Rattle.dia_explain_places.specs.Places.{line_at}

-- ---- lines

-- a line without the carriage return at its end
abbrev pub unreturned : List ℕ → Option ℕ → List ℕ
unreturned line None = line
unreturned line (Some c) = if c == 13 then take (length line - 1) line else line

-- the rest of a line from a place on
abbrev pub line_from : List ℕ → ℕ → List ℕ
line_from text at = let line = take_while (λ c. not (c == 10)) (drop at text) in unreturned line (slice_get line (length line - 1))

-- where the line of a number begins: at the end of the text where there is none
abbrev pub start_of_line : List ℕ → ℕ → ℕ
start_of_line text n = prefix_len (λ at. not (line_at text at == n)) (range_with_len 0 (length text))

-- ---- the word that is refused

abbrev pub words_of_line : List ℕ → ℕ → PlainWords
words_of_line text n = words_in (line_from text (start_of_line text n))

-- the place of the word in the place of a part, on the line of a number
abbrev pub place_on_line : List ℕ → ℕ → PairPart → ℕ
place_on_line text n part = start_of_line text n + (word_of (words_of_line text n) part).at

-- the first part of a line that is no pair whose word isn't allowed there
abbrev pub syntax_part : List ℕ → ℕ → PairPart
syntax_part text n = unwrap_or (wrong_part (words_of_line text n)) After

-- the place of a line that is no pair, and of one that passes a limit
abbrev pub syntax_place : List ℕ → ℕ → ℕ
syntax_place text n = place_on_line text n (syntax_part text n)

abbrev pub limit_place : List ℕ → ℕ → ℕ
limit_place text n = place_on_line text n (limit_part (words_of_line text n))
