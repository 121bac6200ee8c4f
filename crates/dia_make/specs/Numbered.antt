-- The text that `make` reads with words of values: the given one, with a number in front of each word that lacks it.
use Rattle.std.specs.Prelude.{ℕ, ◌-◌, ◌==◌, ◌||◌, ◌&&◌, Bool, false, not, if◌then◌else◌, List, [], ◌∷◌, ◌++◌, length, map, take, Option, Some, None, codes}
use Rattle.std.specs.Char.{is_ascii_alphabetic}
use Rattle.std.specs.List.{list_any, flat_map}
use Rattle.std.specs.Map.{lookup}
use Rattle.std.specs.Option.{option_map, option_map_or}
use Rattle.dia_terms.specs.Names.{same_bytes}
use Rattle.dia_text.specs.Words.{is_mark, unblanked, first_word, after_word}
use Rattle.dia_text.specs.Values.{begins_value, is_keyword}
use Rattle.dia_show.specs.Words.{Word, is_key, is_number, word_of}

-- ---- the number of a word

-- an AVP's name and a word, and the number that has this word
abbrev pub by_word : Word → Word
by_word entry = ((entry.0.0, entry.1), entry.0.1)

-- the number of an AVP that has the word: the first one
abbrev pub number_of : List Word → List ℕ → List ℕ → Option (List ℕ)
number_of words name word = lookup (is_key name word) (map by_word words)

-- `0x`, with which a number begins (48, 120)
abbrev pub begins_digits : List ℕ → Bool
begins_digits (c ∷ e ∷ cs) = c == 48 && e == 120
begins_digits cs = false

abbrev pub is_header_field : List ℕ → Bool
is_header_field word = (same_bytes word (codes "app") || same_bytes word (codes "hop")) || same_bytes word (codes "end")

-- the words of a header and of an AVP's fields
abbrev pub is_field_word : List ℕ → Bool
is_field_word word = is_keyword word || is_header_field word

-- bytes, a text, a number, or a date, which has a colon (58)
abbrev pub is_value_word : List ℕ → Bool
is_value_word word = (begins_value word || begins_digits word) || list_any (λ c. c == 58) word

-- a word that may stand for a number: it has a letter, and is neither a value nor a word of a line's fields
abbrev pub may_be_word : List ℕ → Bool
may_be_word word = list_any is_ascii_alphabetic word && not (is_value_word word || is_field_word word)

-- the number for a word in the place of a value
abbrev pub number_alone : List Word → List ℕ → List ℕ → Option (List ℕ)
number_alone words name word = if may_be_word word then number_of words name word else None

abbrev pub is_word_of : List Word → List ℕ → List ℕ → List ℕ → Bool
is_word_of words name number word = option_map_or (λ w. same_bytes w word) (word_of words name number) false

-- the number for a word after another number, whose word it isn't
abbrev pub number_after : List Word → List ℕ → List ℕ → List ℕ → Option (List ℕ)
number_after words name number word = if is_word_of words name number word then None else number_alone words name word

-- ---- the AVP of a piece of a line

-- what follows a field, where the text begins with it
abbrev pub after_field : List ℕ → List ℕ → List ℕ
after_field field text = if same_bytes (first_word text) field then after_word (after_word text) else text

-- what follows the name, the flags and the length of an AVP
abbrev pub after_head : List ℕ → List ℕ
after_head piece = after_field (codes "length") (after_field (codes "flags") (after_word piece))

-- the number that a piece lacks, and the piece from the word for it on
abbrev pub at_rest : List ℕ → Option (List ℕ) → Option (List ℕ × List ℕ)
at_rest rest number = option_map (λ n. (n, rest)) number

abbrev pub lacked_at : List Word → List ℕ → List ℕ → Option (List ℕ × List ℕ)
lacked_at words name text =
    if is_number (first_word text)
    then at_rest (unblanked (after_word text)) (number_after words name (first_word text) (first_word (after_word text)))
    else at_rest (unblanked text) (number_alone words name (first_word text))

abbrev pub lacked : List Word → List ℕ → Option (List ℕ × List ℕ)
lacked words piece = lacked_at words (first_word piece) (after_head piece)

-- the piece with this number and a blank (32) in front of the word
abbrev pub with_lacked : List ℕ → Option (List ℕ × List ℕ) → List ℕ
with_lacked piece None = piece
with_lacked piece (Some found) = take (length piece - length found.1) piece ++ (found.0 ++ 32 ∷ found.1)

-- ---- the pieces of a text

-- a line feed (10), or a mark that isn't between quotes
abbrev pub ends_piece : Bool → ℕ → Bool
ends_piece quoted c = c == 10 || (not quoted && is_mark c)

-- whether a quote (34) is open after a byte
abbrev pub quoted_after : Bool → ℕ → Bool
quoted_after quoted c = if ends_piece quoted c then false else (if c == 34 then not quoted else quoted)

abbrev pub piece_after : List ℕ → Bool → ℕ → List ℕ
piece_after piece quoted c = if ends_piece quoted c then [] else piece ++ c ∷ []

abbrev pub ended_by : List ℕ → Bool → ℕ → List (List ℕ × List ℕ)
ended_by piece quoted c = if ends_piece quoted c then (piece, c ∷ []) ∷ [] else []

-- the pieces, each with the byte that ends it, if one does. `piece` is what the first one has before these bytes
abbrev pub pieces : List ℕ → Bool → List ℕ → List (List ℕ × List ℕ)
pieces piece quoted [] = (piece, []) ∷ []
pieces piece quoted (c ∷ cs) = ended_by piece quoted c ++ pieces (piece_after piece quoted c) (quoted_after quoted c) cs

abbrev pub numbered_piece : List Word → List ℕ × List ℕ → List ℕ
numbered_piece words part = with_lacked part.0 (lacked words part.0) ++ part.1

-- the text with the numbers
abbrev pub numbered : List Word → List ℕ → List ℕ
numbered words text = flat_map (numbered_piece words) (pieces [] false text)
