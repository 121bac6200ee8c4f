-- The words of a line of a table's text, which blanks separate and a comment ends.
use Rattle.std.specs.Prelude.{◌≡◌, ℕ, ◌-◌, ◌==◌, ◌||◌, nat_lt, if◌then◌else◌, Bool, not, IsTrue, List, [], ◌∷◌, length, drop, find, Option, codes}
use Rattle.std.specs.List.{prefix_len, take_while}
use Rattle.std.specs.Str.{bytes_eq}
use Rattle.dia_compat.specs.declared.table.words.Word.{Word}
use Rattle.dia_compat.specs.declared.table.words.PairWords.{PairWords}
use Rattle.dia_compat.specs.declared.table.words.PairPart.{PairPart}
use Rattle.dia_compat.specs.declared.table.words.PairPart.TheVariants.{Kind, First, Sign, Second, After}
use Rattle.dia_compat.specs.TableText.{is_blank, is_name_run, max_name}

-- ---- words

-- no blank, and not where a comment begins
abbrev pub is_word_byte : ℕ → Bool
is_word_byte c = not (is_blank c || c == 59)

abbrev pub unblanked : List ℕ → List ℕ
unblanked text = drop (prefix_len is_blank text) text

-- the first word; empty where there is none
abbrev pub first_word : List ℕ → List ℕ
first_word text = take_while is_word_byte (unblanked text)

abbrev pub after_word : List ℕ → List ℕ
after_word text = drop (prefix_len is_word_byte (unblanked text)) (unblanked text)

-- the words are `A = B`, where A and B are names of any length
pub record ArePairWords (a b text : List ℕ) : Type 0 where
  pub first : first_word text ≡ a
  pub sign : first_word (after_word text) ≡ codes "="
  pub second : first_word (after_word (after_word text)) ≡ b
  pub more : first_word (after_word (after_word (after_word text))) ≡ []
  pub names : IsTrue (is_name_run a) × IsTrue (is_name_run b)

-- ---- the words of a line, with their places

-- a word, and how many bytes of its line precede it
pub record PlainWord : Type 0 where
  pub at : ℕ
  pub text : List ℕ

-- the words of a line: those of a pair, and the first after them
pub record PlainWords : Type 0 where
  pub kind : PlainWord
  pub first : PlainWord
  pub sign : PlainWord
  pub second : PlainWord
  pub more : PlainWord

abbrev pub word_at : ℕ → List ℕ → PlainWord
word_at at text = record { at = at; text = text }

abbrev pub plain_word : Word → PlainWord
plain_word word = word_at word.at word.text.now

abbrev pub plain_words : PairWords → PlainWords
plain_words words = record {
  kind = plain_word words.kind;
  first = plain_word words.first;
  sign = plain_word words.sign;
  second = plain_word words.second;
  more = plain_word words.more;
}

-- the first word of the rest of a line, after its blanks
abbrev pub word_in : List ℕ → List ℕ → PlainWord
word_in line rest = word_at (length line - length (unblanked rest)) (first_word rest)

abbrev pub words_in : List ℕ → PlainWords
words_in line =
    let after_kind = after_word line in
    let after_first = after_word after_kind in
    let after_sign = after_word after_first in
    record {
      kind = word_in line line;
      first = word_in line after_kind;
      sign = word_in line after_first;
      second = word_in line after_sign;
      more = word_in line (after_word after_sign);
    }

-- ---- which word is refused

abbrev pub word_of : PlainWords → PairPart → PlainWord
word_of words Kind = words.kind
word_of words First = words.first
word_of words Sign = words.sign
word_of words Second = words.second
word_of words After = words.more

-- the word fits in the place of this part of `command A = B` or `avp A = B`, where names have any length
abbrev pub fits : PlainWords → PairPart → Bool
fits words Kind = bytes_eq words.kind.text (codes "command") || bytes_eq words.kind.text (codes "avp")
fits words First = is_name_run words.first.text
fits words Sign = bytes_eq words.sign.text (codes "=")
fits words Second = is_name_run words.second.text
fits words After = length words.more.text == 0

-- the first part whose word doesn't fit there
abbrev pub wrong_part : PlainWords → Option PairPart
wrong_part words = find (λ part. not (fits words part)) (Kind ∷ First ∷ Sign ∷ Second ∷ After ∷ [])

-- the first name that is too long. Where none is, the pair is one too many
abbrev pub limit_part : PlainWords → PairPart
limit_part words =
    if nat_lt max_name (length words.first.text) then First
    else (if nat_lt max_name (length words.second.text) then Second
    else Kind)
