-- Values that are written, read back: of one word, and in general.
use Rattle.std.proofs.Common.{◌≡◌, ℕ, ◌==◌, ◌&&◌, Bool, true, false, if◌then◌else◌, List, [], ◌∷◌, ◌++◌, Option, Some, None, Ok, codes, refl, ap, ◌∙◌, arith}
use Rattle.std.specs.List.{list_all}
use Rattle.std.proofs.lemmas.Bool.{and_parts, and_right}
use Rattle.std.proofs.lemmas.Bool.Decides.{nat_tests}
use Rattle.dia_terms.specs.Names.{same_bytes}
use Rattle.dia_data.specs.Plain.{PlainFormat}
use Rattle.dia_data.specs.Shown.{hexadecimal}
use Rattle.dia_text.specs.Words.{unblanked, first_word, after_word, after_letter}
use Rattle.dia_text.specs.Values.{is_address, value_of, words_at, value_or_text, value_at}
use Rattle.dia_text.specs.LineTexts.{spaced}
use Rattle.dia_text.proofs.Bytes.{AreBytes}
use Rattle.dia_text.proofs.HexBack.{bytes_back}
use Rattle.dia_text.proofs.WordsBack.{is_sign, IsWord, HasNoFeed, blank_first, unblanked_word, next_is, after_next, no_feed_word, hexadecimal_word}

-- no keyword is taken for it, and it is read as these bytes, whatever follows
pub record ReadsBack (format : Option PlainFormat) (bytes w : List ℕ) : Type 0 where
  pub feeds : HasNoFeed w
  pub flags : (ws : List (List ℕ)) → same_bytes (first_word (spaced (w ∷ ws))) (codes "flags") ≡ false
  pub len : (ws : List (List ℕ)) → same_bytes (first_word (spaced (w ∷ ws))) (codes "length") ≡ false
  pub brace : (ws : List (List ℕ)) → same_bytes (first_word (spaced (w ∷ ws))) (codes "{") ≡ false
  pub reads : (ws : List (List ℕ)) → value_at format (spaced (w ∷ ws)) ≡ Ok (bytes, spaced ws)

-- a word that no keyword is taken for, and that is read as these bytes
pub record IsValue (format : Option PlainFormat) (bytes w : List ℕ) : Type 0 where
  pub word : IsWord w
  pub flags : same_bytes w (codes "flags") ≡ false
  pub len : same_bytes w (codes "length") ≡ false
  pub brace : same_bytes w (codes "{") ≡ false
  pub family : same_bytes w (codes "family") ≡ false
  pub reads : value_of format w ≡ Ok bytes

sign_no_quote : (c : ℕ) → is_sign c ≡ true → (c == 34) ≡ false
sign_no_quote c sign = grind (arith, nat_tests)

first_no_quote : (w rest : List ℕ) → IsWord w → after_letter 34 (w ++ rest) ≡ None
first_no_quote [] rest h = absurd (let some = h.some in omega (arith, some))
first_no_quote (c ∷ w) rest h =
    let other : (c == 34) ≡ false = sign_no_quote c (and_parts (is_sign c) (list_all is_sign w) h.signs).0 in
    ap (λ (b : Bool). if b then Some (w ++ rest) else None) other

-- a word doesn't begin with a quote
pub no_quote : (w : List ℕ) (ws : List (List ℕ)) → IsWord w → after_letter 34 (unblanked (spaced (w ∷ ws))) ≡ None
no_quote w ws h = ap (after_letter 34) (blank_first (w ++ spaced ws) ∙ unblanked_word w (spaced ws) h) ∙ first_no_quote w (spaced ws) h

pub words_read : (format : Option PlainFormat) (text rest w bytes : List ℕ) → first_word text ≡ w → after_word text ≡ rest → same_bytes w (codes "family") ≡ false → value_of format w ≡ Ok bytes
    → words_at format text ≡ Ok (bytes, rest)
unfolding words_at
words_read format text rest w bytes first following other is =
    let no : (is_address format && same_bytes (first_word text) (codes "family")) ≡ false = and_right _ _ (ap (λ (t : List ℕ). same_bytes t (codes "family")) first ∙ other) in
    rw (no, first, following, is) refl

pub value_of_words : (format : Option PlainFormat) (text : List ℕ) → after_letter 34 (unblanked text) ≡ None → value_at format text ≡ words_at format text
unfolding value_at
value_of_words format text none = ap (value_or_text format text) none

pub from_word : (format : Option PlainFormat) (bytes w : List ℕ) → IsValue format bytes w → ReadsBack format bytes w
from_word format bytes w v = record {
  feeds = no_feed_word w v.word.signs;
  flags = λ ws. ap (λ (t : List ℕ). same_bytes t (codes "flags")) (next_is w ws v.word) ∙ v.flags;
  len = λ ws. ap (λ (t : List ℕ). same_bytes t (codes "length")) (next_is w ws v.word) ∙ v.len;
  brace = λ ws. ap (λ (t : List ℕ). same_bytes t (codes "{")) (next_is w ws v.word) ∙ v.brace;
  reads = λ ws. value_of_words format (spaced (w ∷ ws)) (no_quote w ws v.word)
      ∙ words_read format (spaced (w ∷ ws)) (spaced ws) w bytes (next_is w ws v.word) (after_next w ws v.word) v.family v.reads;
}

pub hexadecimal_reads : (format : Option PlainFormat) (bytes : List ℕ) → AreBytes bytes → ReadsBack format bytes (hexadecimal bytes)
hexadecimal_reads format bytes h =
    from_word format bytes (hexadecimal bytes)
    (record { word = hexadecimal_word bytes h; flags = refl; len = refl; brace = refl; family = refl; reads = bytes_back bytes h })
