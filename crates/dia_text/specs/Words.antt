-- The words of a line, which blanks and marks separate and a comment ends; and what follows a letter.
use Rattle.std.specs.Prelude.{ℕ, ◌==◌, ◌||◌, Bool, not, if◌then◌else◌, List, [], ◌∷◌, Option, Some, None, take, drop}
use Rattle.std.specs.List.{prefix_len}

-- a space, a tab or a carriage return
abbrev pub is_blank : ℕ → Bool
is_blank c = c == 32 || c == 9 || c == 13

-- `{` (123), `}` (125) or `,` (44), each of which is a word
abbrev pub is_mark : ℕ → Bool
is_mark c = (c == 123 || c == 125) || c == 44

-- no blank, no mark, and neither `#` nor `;`, with which a comment begins
abbrev pub is_word_byte : ℕ → Bool
is_word_byte c = not (((is_blank c || is_mark c) || c == 35) || c == 59)

abbrev pub unblanked : List ℕ → List ℕ
unblanked text = drop (prefix_len is_blank text) text

-- how many bytes the word at the front has
abbrev pub word_length : List ℕ → ℕ
word_length [] = 0
word_length (c ∷ cs) = if is_mark c then 1 else prefix_len is_word_byte (c ∷ cs)

-- the first word; empty where there is none
abbrev pub first_word : List ℕ → List ℕ
first_word text = take (word_length (unblanked text)) (unblanked text)

abbrev pub after_word : List ℕ → List ℕ
after_word text = drop (word_length (unblanked text)) (unblanked text)

-- what follows the letter at the front
abbrev pub after_letter : ℕ → List ℕ → Option (List ℕ)
after_letter letter [] = None
after_letter letter (c ∷ cs) = if c == letter then Some cs else None
