-- Words that are replaced by the same word.
use Rattle.std.proofs.Common.{◌≡◌, ℕ, List, Option, Some, map, sym, ap, ◌∙◌, encode_utf8_all}
use Rattle.std.proofs.lemmas.Option.{option_and_then_some}
use Rattle.dia_mask.specs.declared.kinds.Kind.{Kind}
use Rattle.dia_mask.specs.declared.words.Numbered.{Numbered}
use Rattle.dia_mask.specs.declared.words.Words.{Words}
use Rattle.dia_mask.specs.Kinds.{character_at, word_at}
use Rattle.dia_mask.specs.Numbers.{number_in}
use Rattle.dia_mask.specs.Replaced.{Numbering, kinds_of}
use Rattle.dia_mask.specs.Texts.{Agrees, first_word}
use Rattle.dia_mask.specs.Words.{AreAllNumbers, number_at, texts_at}
use Rattle.dia_mask.specs.Followed.{AreFollowed, HasNumber}
use Rattle.dia_mask.proofs.Backwards.{other_word}

-- words of one pattern with one number
one_word : (words : Words) (v w : List ℕ) (n : ℕ) → AreAllNumbers words → HasNumber words v n → HasNumber words w n → kinds_of v ≡ kinds_of w → encode_utf8_all v ≡ encode_utf8_all w
one_word words v w n sound at_v at_w kinds =
    let pattern : encode_utf8_all (first_word w) ≡ encode_utf8_all (first_word v) = ap (λ (ks : List Kind). encode_utf8_all (map (λ (k : Kind). character_at k 0) ks)) (sym kinds) in
    option_and_then_some (λ (m : Numbered). number_in m (encode_utf8_all v)) (texts_at words (encode_utf8_all (first_word v))) n at_v (λ m there here.
    (sound.texts (encode_utf8_all (first_word v)) m there).apart (encode_utf8_all v) (encode_utf8_all w) n here
    (sym (ap (λ (o : Option Numbered). number_at o (encode_utf8_all w)) (ap (texts_at words) pattern ∙ there)) ∙ at_w))

pub followed : (words : Words) (numbers : Numbering) → AreAllNumbers words → Agrees words numbers → AreFollowed words numbers
followed words numbers sound agrees v w n m at_v at_w kinds few few' same =
    let e : n ≡ m = other_word (kinds_of v) n m few few'
    (ap (word_at (kinds_of v)) (sym (agrees.texts v n at_v)) ∙ same ∙ ap (λ (ks : List Kind). word_at ks (numbers.texts w)) (sym kinds) ∙ ap (word_at (kinds_of v)) (agrees.texts w m at_w)) in
    one_word words v w n sound at_v (at_w ∙ ap (λ (k : ℕ). Some k) (sym e)) kinds
