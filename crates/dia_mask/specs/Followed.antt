-- Which words of a run are replaced by the same word.
use Rattle.std.specs.Prelude.{◌≡◌, ℕ, ◌<◌, List, Some, reverse, encode_utf8_all}
use Rattle.dia_mask.specs.declared.words.Words.{Words}
use Rattle.dia_mask.specs.Kinds.{capacity}
use Rattle.dia_mask.specs.Replaced.{Numbering, kinds_of, new_word}
use Rattle.dia_mask.specs.Texts.{first_word}
use Rattle.dia_mask.specs.Words.{text_number}

-- the word of a text came, and has this number
abbrev pub HasNumber : Words → List ℕ → ℕ → Type 0
HasNumber words word n = text_number words (encode_utf8_all (first_word word)) (encode_utf8_all word) ≡ Some n

-- two words of the same kinds of characters are replaced by the same word only if they are the same, as long as no more came than there are of these kinds
abbrev pub AreFollowed : Words → Numbering → Type 0
AreFollowed words numbers = (v w : List ℕ) (n m : ℕ) → HasNumber words v n → HasNumber words w m → kinds_of v ≡ kinds_of w
    → n < capacity (reverse (kinds_of v)) → m < capacity (reverse (kinds_of v)) → new_word numbers v ≡ new_word numbers w → encode_utf8_all v ≡ encode_utf8_all w
