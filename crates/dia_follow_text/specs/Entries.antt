-- The lines of a connection: `END [TIME] HEX`, with blanks between and around the words.
use Rattle.std.specs.Prelude.{ℕ, ◌==◌, ◌||◌, Bool, false, not, if◌then◌else◌, List, ◌++◌, length, take, drop, position, Option, Some, None, Result, Ok, Err, codes, unwrap_or, slice_get}
use Rattle.std.specs.Fmt.{decimal}
use Rattle.std.specs.Option.{option_map_or}
use Rattle.std.specs.Str.{bytes_eq}
use Rattle.dia_follow.specs.declared.End.{End}
use Rattle.dia_follow.specs.declared.End.TheVariants.{Initiator, Responder}
use Rattle.dia_follow_text.specs.declared.entry.BadLine.{BadLine}
use Rattle.dia_follow_text.specs.declared.entry.BadLine.TheVariants.{TooLong, Syntax, Time, NotHexadecimal}
use Rattle.dia_follow_text.specs.Times.{time_of}

-- what a line says of its message
pub record PlainEntry : Type 0 where
  pub end : End
  pub time : Option ℕ
  pub digits : List ℕ

-- a byte between words: a space, a tab or a carriage return
abbrev pub is_blank : ℕ → Bool
is_blank byte = (byte == 32) || (byte == 9) || (byte == 13)

-- a text that begins with a word: the word, and what follows it
abbrev pub cut_word : List ℕ → List ℕ × List ℕ
cut_word text = (take (unwrap_or (position is_blank text) (length text)) text, drop (unwrap_or (position is_blank text) (length text)) text)

-- the first word of a text, and what follows it
abbrev pub next_word : List ℕ → Option (List ℕ × List ℕ)
next_word text = elim (position (λ byte. not (is_blank byte)) text) [ None ↦ None | Some from ↦ Some (cut_word (drop from text)) ]

abbrev pub end_of : List ℕ → Result End BadLine
end_of word = if bytes_eq word (codes ">") then Ok Initiator else (if bytes_eq word (codes "<") then Ok Responder else Err Syntax)

-- three words and no more
abbrev pub with_time : End → List ℕ → List ℕ → Option (List ℕ × List ℕ) → Result (Option PlainEntry) BadLine
with_time e time digits (Some more) = Err Syntax
with_time e time digits None = elim (time_of time) [ None ↦ Err Time | Some t ↦ Ok (Some (record { end = e; time = Some t; digits = digits })) ]

-- two words, or three
abbrev pub after_second : End → List ℕ → Option (List ℕ × List ℕ) → Result (Option PlainEntry) BadLine
after_second e word None = Ok (Some (record { end = e; time = None; digits = word }))
after_second e word (Some third) = with_time e word third.0 (next_word third.1)

abbrev pub after_end : End → Option (List ℕ × List ℕ) → Result (Option PlainEntry) BadLine
after_end e None = Err Syntax
after_end e (Some second) = after_second e second.0 (next_word second.1)

abbrev pub after_first : Result End BadLine → List ℕ → Result (Option PlainEntry) BadLine
after_first (Err bad) rest = Err bad
after_first (Ok e) rest = after_end e (next_word rest)

abbrev pub words_of : Option (List ℕ × List ℕ) → Result (Option PlainEntry) BadLine
words_of None = Ok None
words_of (Some first) = after_first (end_of first.0) first.1

-- the line begins with `#`
abbrev pub is_comment : List ℕ → Bool
is_comment line = option_map_or (λ byte. byte == 35) (slice_get line 0) false

-- what a line says. None: nothing
abbrev pub entry_of : List ℕ → Result (Option PlainEntry) BadLine
entry_of line = if is_comment line then Ok None else words_of (next_word line)

-- why a line is refused
abbrev pub bad_word : BadLine → List ℕ
bad_word TooLong = codes "too long"
bad_word Syntax = codes "syntax"
bad_word Time = codes "time"
bad_word NotHexadecimal = codes "not hexadecimal"

-- the line of a line that is refused, as text
abbrev pub bad_line_text : ℕ → BadLine → List ℕ
bad_line_text number bad = codes "connection: " ++ bad_word bad ++ codes " at line " ++ decimal number ++ codes "\n"
