-- The words of a run by their patterns: of a text the first word of the same kinds, and how many bytes (our profile).
use Rattle.std.specs.Prelude.{◌≡◌, ℕ, ◌⊎◌, List, length, Option, Some, None, nat_eq, option_and_then}
use Rattle.std.specs.Option.{option_map_or}
use Rattle.std.specs.HashMap.{get, get_by_text}
use Rattle.dia_mask.specs.declared.words.Numbered.{Numbered}
use Rattle.dia_mask.specs.declared.words.Words.{Words}
use Rattle.dia_mask.specs.Numbers.{AreNumbers, count_of, number_in}

abbrev pub number_at : Option Numbered → List ℕ → Option ℕ
number_at numbered word = option_and_then (λ m. number_in m word) numbered

abbrev pub count_at : Option Numbered → ℕ
count_at numbered = option_map_or count_of numbered 0

-- the words of texts that have this pattern, and the bytes of which there are so many
abbrev pub texts_at : Words → List ℕ → Option Numbered
texts_at words pattern = get_by_text words.texts pattern

abbrev pub bytes_at : Words → ℕ → Option Numbered
bytes_at words size = get nat_eq words.bytes size

abbrev pub text_number : Words → (pattern word : List ℕ) → Option ℕ
text_number words pattern word = number_at (texts_at words pattern) word

abbrev pub byte_number : Words → List ℕ → Option ℕ
byte_number words word = number_at (bytes_at words (length word)) word

-- two words of one pattern have different numbers, each below how many of them came
pub record AreAllNumbers (words : Words) : Type 0 where
  pub texts : (pattern : List ℕ) (m : Numbered) → texts_at words pattern ≡ Some m → AreNumbers m
  pub bytes : (size : ℕ) (m : Numbered) → bytes_at words size ≡ Some m → AreNumbers m

-- no word loses its number, and different words of one pattern still have different ones
pub record Grows (old new : Words) : Type 0 where
  pub texts : (pattern word : List ℕ) (n : ℕ) → text_number old pattern word ≡ Some n → text_number new pattern word ≡ Some n
  pub bytes : (word : List ℕ) (n : ℕ) → byte_number old word ≡ Some n → byte_number new word ≡ Some n
  pub sound : AreAllNumbers old → AreAllNumbers new

-- the number of a word: its own if it came before, else how many of its pattern came
abbrev pub IsNext : Option Numbered → List ℕ → ℕ → Type 0
IsNext numbered word n = (number_at numbered word ≡ Some n) ⊎ ((number_at numbered word ≡ None) × (n ≡ count_at numbered))

-- a word of this pattern has this number, and each other one keeps its own
pub record IsNumbered (old new : Words) (before after : Option Numbered) (word : List ℕ) (n : ℕ) : Type 0 where
  pub number : number_at after word ≡ Some n
  pub next : IsNext before word n
  pub grows : Grows old new
