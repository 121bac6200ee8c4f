-- A text that is masked character by character (our profile).
use Rattle.std.specs.Prelude.{◌≡◌, ℕ, List, [], ◌++◌, length, map, Some, unwrap_or, encode_utf8_all, string_bytes}
use Rattle.dia_mask.specs.declared.texts.Masking.{Masking}
use Rattle.dia_mask.specs.declared.words.Words.{Words}
use Rattle.dia_mask.specs.Kinds.{character_at}
use Rattle.dia_mask.specs.Replaced.{Numbering, kinds_of, new_text, new_word}
use Rattle.dia_mask.specs.Words.{Grows, byte_number, text_number}

-- the first word of the same kinds of characters
abbrev pub first_word : List ℕ → List ℕ
first_word word = map (λ k. character_at k 0) (kinds_of word)

-- the numbers are those that the words have
pub record Agrees (words : Words) (numbers : Numbering) : Type 0 where
  pub texts : (word : List ℕ) (n : ℕ) → text_number words (encode_utf8_all (first_word word)) (encode_utf8_all word) ≡ Some n → numbers.texts word ≡ n
  pub bytes : (word : List ℕ) (n : ℕ) → byte_number words word ≡ Some n → numbers.bytes word ≡ n

-- those that the words have; 0 of a word that didn't come
abbrev pub numbers_of : Words → Numbering
numbers_of words = record {
  texts = λ word. unwrap_or (text_number words (encode_utf8_all (first_word word)) (encode_utf8_all word)) 0;
  bytes = λ word. unwrap_or (byte_number words word) 0;
}

-- the word under way
pub record IsWord (m : Masking) (word : List ℕ) : Type 0 where
  pub text : string_bytes m.word ≡ encode_utf8_all word
  pub pattern : string_bytes m.pattern ≡ encode_utf8_all (first_word word)
  pub kinds : m.kinds.items ≡ kinds_of word
  pub whole : length (kinds_of word) ≡ length word

-- no number is lost, and nothing but the text under way changes
abbrev pub GoesOn : Masking → Masking → Type 0
GoesOn old new = Grows old.words new.words × (new.data ≡ old.data)

-- the word under way is at its end
pub record EndsWord (old new : Masking) : Type 0 where
  pub goes_on : GoesOn old new
  pub none : (word : List ℕ) → IsWord old word → IsWord new []
  pub text : (numbers : Numbering) (word : List ℕ) → Agrees new.words numbers → IsWord old word → string_bytes new.masked ≡ string_bytes old.masked ++ encode_utf8_all (new_word numbers word)

-- what was masked before and what takes the place of the rest of a text are what takes the place of all of it
abbrev pub Continues : Numbering → Masking → List ℕ → List ℕ → Type 0
Continues numbers m before whole = (word : List ℕ) × IsWord m word
    × ((rest : List ℕ) → string_bytes m.masked ++ encode_utf8_all (new_text numbers word rest) ≡ before ++ encode_utf8_all (new_text numbers [] (whole ++ rest)))

-- such data were added
abbrev pub Puts : (Numbering → List ℕ → Type 0) → Masking → Masking → Type 0
Puts P old new = Grows old.words new.words
    × ((numbers : Numbering) → Agrees new.words numbers → (more : List ℕ) × P numbers more × (new.data.items ≡ old.data.items ++ more))
