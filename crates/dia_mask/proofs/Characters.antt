-- A text that is masked character by character.
use Rattle.std.proofs.Common.{◌≡◌, ℕ, ◌+◌, ◌%◌, List, [], ◌∷◌, ◌++◌, length, map, Option, Some, None, is_some, if◌then◌else◌, refl, sym, ap, subst, ◌∙◌, append_assoc, append-nil, arith, encode_utf8, encode_utf8_all, string_bytes, chars, unwrap_or}
use Rattle.std.specs.List.{cons_option}
use Rattle.std.proofs.lemmas.List.{length-append, map-append}
use Rattle.std.proofs.lemmas.List.Elements.{filter_map-append}
use Rattle.std.proofs.lemmas.Str.{encodes-append}
use Rattle.dia_mask.specs.declared.kinds.Kind.{Kind}
use Rattle.dia_mask.specs.declared.kinds.Kind.TheVariants.{Digit, Small, Capital, Two, Three, Four}
use Rattle.dia_mask.specs.declared.texts.Masking.{Masking}
use Rattle.dia_mask.specs.Kinds.{character_at, kind_of, size_of}
use Rattle.dia_mask.specs.Replaced.{Numbering, kinds_of, new_text, new_utf8, new_word}
use Rattle.dia_mask.specs.declared.words.Words.{Words}
use Rattle.dia_mask.specs.Texts.{Agrees, Continues, EndsWord, GoesOn, IsWord, first_word, numbers_of}
use Rattle.dia_mask.specs.Words.{Grows}

-- ---- characters

pub encodes_more : (word : List ℕ) (c : ℕ) → encode_utf8_all (word ++ c ∷ []) ≡ encode_utf8_all word ++ encode_utf8 c
encodes_more word c = encodes-append word (c ∷ []) ∙ ap (λ (t : List ℕ). encode_utf8_all word ++ t) (append-nil (encode_utf8 c))

one_kind : (c : ℕ) (k : Kind) → kind_of c ≡ Some k → kinds_of (c ∷ []) ≡ k ∷ []
one_kind c k is = ap (λ (o : Option Kind). cons_option o []) is

pub kinds_more : (word : List ℕ) (c : ℕ) (k : Kind) → kind_of c ≡ Some k → kinds_of (word ++ c ∷ []) ≡ kinds_of word ++ k ∷ []
kinds_more word c k is = filter_map-append kind_of word (c ∷ []) ∙ ap (λ (ks : List Kind). kinds_of word ++ ks) (one_kind c k is)

first_place : (k : Kind) → 0 % size_of k ≡ 0
first_place Digit = refl
first_place Small = refl
first_place Capital = refl
first_place Two = refl
first_place Three = refl
first_place Four = refl

first_more : (word : List ℕ) (c : ℕ) (k : Kind) → kind_of c ≡ Some k → first_word (word ++ c ∷ []) ≡ first_word word ++ character_at k (0 % size_of k) ∷ []
first_more word c k is =
    ap (map (λ (x : Kind). character_at x 0)) (kinds_more word c k is) ∙ map-append (λ (x : Kind). character_at x 0) (kinds_of word) (k ∷ [])
    ∙ ap (λ (n : ℕ). first_word word ++ character_at k n ∷ []) (sym (first_place k))

pub word_extended : (old new : Masking) (word : List ℕ) (c : ℕ) (k : Kind) → kind_of c ≡ Some k → new.kinds.items ≡ old.kinds.items ++ k ∷ []
    → string_bytes new.word ≡ string_bytes old.word ++ encode_utf8 c → string_bytes new.pattern ≡ string_bytes old.pattern ++ encode_utf8 (character_at k (0 % size_of k))
    → IsWord old word → IsWord new (word ++ c ∷ [])
word_extended old new word c k is kinds text pattern w = record {
  text = text ∙ ap (λ (t : List ℕ). t ++ encode_utf8 c) w.text ∙ sym (encodes_more word c);
  pattern = pattern ∙ ap (λ (t : List ℕ). t ++ encode_utf8 (character_at k (0 % size_of k))) w.pattern
      ∙ sym (ap encode_utf8_all (first_more word c k is) ∙ encodes_more (first_word word) (character_at k (0 % size_of k)));
  kinds = kinds ∙ ap (λ (ks : List Kind). ks ++ k ∷ []) w.kinds ∙ sym (kinds_more word c k is);
  whole = ap length (kinds_more word c k is) ∙ length-append (kinds_of word) (k ∷ []) ∙ ap (λ (n : ℕ). n + 1) w.whole ∙ sym (length-append word (c ∷ []));
}

-- ---- the end of a word

pub no_more : (words : Words) → Grows words words
no_more words = record { texts = λ p w n is. is; bytes = λ w n is. is; sound = λ a. a }

nothing : (word : List ℕ) → length word ≡ 0 → word ≡ []
nothing [] is = refl
nothing (c ∷ cs) is = absurd (omega (arith, is))

no_word : (m : Masking) (word : List ℕ) → length m.kinds.items ≡ 0 → IsWord m word → word ≡ []
no_word m word none w = nothing word (sym w.whole ∙ ap length (sym w.kinds) ∙ none)

pub ends_nothing : (m : Masking) → length m.kinds.items ≡ 0 → EndsWord m m
ends_nothing m none = record {
  goes_on = (no_more m.words, refl);
  none = λ word w. subst (IsWord m) (no_word m word none w) w;
  text = λ numbers word agrees w. subst (λ (l : List ℕ). string_bytes m.masked ≡ string_bytes m.masked ++ encode_utf8_all (new_word numbers l)) (sym (no_word m word none w)) (sym (append-nil (string_bytes m.masked)));
}

same_word : (old new : Masking) (word : List ℕ) → new.word ≡ old.word → new.pattern ≡ old.pattern → new.kinds ≡ old.kinds → IsWord old word → IsWord new word
same_word old new word text pattern kinds w = record {
  text = ap string_bytes text ∙ w.text;
  pattern = ap string_bytes pattern ∙ w.pattern;
  kinds = ap (λ ks. ks.items) kinds ∙ w.kinds;
  whole = w.whole;
}

pub after_other : (numbers : Numbering) (word rest : List ℕ) (c : ℕ) → kind_of c ≡ None → new_text numbers word (c ∷ rest) ≡ new_word numbers word ++ c ∷ new_text numbers [] rest
after_other numbers word rest c is = ap (λ (o : Option Kind). if is_some o then new_text numbers (word ++ c ∷ []) rest else new_word numbers word ++ c ∷ new_text numbers [] rest) is

-- a character that is no part of a word
pub other_added : (old mid new : Masking) (c : ℕ) → kind_of c ≡ None → EndsWord old mid → new.words ≡ mid.words → new.word ≡ mid.word → new.pattern ≡ mid.pattern → new.kinds ≡ mid.kinds
    → string_bytes new.masked ≡ string_bytes mid.masked ++ encode_utf8 c
    → (numbers : Numbering) (before whole : List ℕ) → Agrees mid.words numbers → Continues numbers old before whole → Continues numbers new before (whole ++ c ∷ [])
other_added old mid new c other ends words text pattern kinds pushed numbers before whole agrees (word, w, all) = (
  [],
  same_word mid new [] text pattern kinds (ends.none word w),
  λ rest.
      ap (λ (t : List ℕ). t ++ encode_utf8_all (new_text numbers [] rest)) (pushed ∙ ap (λ (t : List ℕ). t ++ encode_utf8 c) (ends.text numbers word agrees w))
      ∙ append_assoc (string_bytes old.masked ++ encode_utf8_all (new_word numbers word)) (encode_utf8 c) (encode_utf8_all (new_text numbers [] rest))
      ∙ append_assoc (string_bytes old.masked) (encode_utf8_all (new_word numbers word)) (encode_utf8_all (c ∷ new_text numbers [] rest))
      ∙ ap (λ (t : List ℕ). string_bytes old.masked ++ t) (sym (encodes-append (new_word numbers word) (c ∷ new_text numbers [] rest)))
      ∙ ap (λ (t : List ℕ). string_bytes old.masked ++ encode_utf8_all t) (sym (after_other numbers word rest c other))
      ∙ all (c ∷ rest)
      ∙ ap (λ (t : List ℕ). before ++ encode_utf8_all (new_text numbers [] t)) (sym (append_assoc whole (c ∷ []) rest)),
)

-- ---- the whole text

pub agrees_before : (old new : Words) (numbers : Numbering) → Grows old new → Agrees new numbers → Agrees old numbers
agrees_before old new numbers g a = record {
  texts = λ word n is. a.texts word n (g.texts (encode_utf8_all (first_word word)) (encode_utf8_all word) n is);
  bytes = λ word n is. a.bytes word n (g.bytes word n is);
}

pub grows_on : (old mid new : Words) → Grows old mid → Grows mid new → Grows old new
grows_on old mid new g h = record {
  texts = λ p w n is. h.texts p w n (g.texts p w n is);
  bytes = λ w n is. h.bytes w n (g.bytes w n is);
  sound = λ a. h.sound (g.sound a);
}

pub goes_on_twice : (old mid new : Masking) → GoesOn old mid → GoesOn mid new → GoesOn old new
goes_on_twice old mid new (g, same) (h, same') = (grows_on old.words mid.words new.words g h, same' ∙ same)

pub text_begun : (m : Masking) (numbers : Numbering) → IsWord m [] → Continues numbers m (string_bytes m.masked) []
text_begun m numbers w = ([], w, λ rest. refl)

pub all_masked : (m new : Masking) (numbers : Numbering) (before whole text : List ℕ) → Continues numbers m before whole → EndsWord m new → Agrees new.words numbers → whole ≡ chars text
    → string_bytes new.masked ≡ before ++ new_utf8 numbers text
all_masked m new numbers before whole text (word, w, all) ends agrees is =
    ends.text numbers word agrees w ∙ all [] ∙ ap (λ (t : List ℕ). before ++ encode_utf8_all (new_text numbers [] t)) (append-nil whole ∙ is)

-- the numbers that the words have
pub agrees_with_own : (words : Words) → Agrees words (numbers_of words)
agrees_with_own words = record { texts = λ word n is. ap (λ (o : Option ℕ). unwrap_or o 0) is; bytes = λ word n is. ap (λ (o : Option ℕ). unwrap_or o 0) is }
