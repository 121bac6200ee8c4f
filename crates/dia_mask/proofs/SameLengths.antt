-- New data are as long as those that they replace.
use Rattle.std.proofs.Common.{◌≡◌, ℕ, ◌+◌, ◌-◌, ◌<◌, List, [], ◌∷◌, ◌++◌, length, take, drop, reverse, replicate, Option, Some, None, is_some, refl, sym, ap, ◌∙◌, arith, ⊎_elim, encode_utf8, encode_utf8_all, chars, IsUtf8, nat_lt, if◌then◌else◌, eqb, sum_by, ◌/◌, ◌%◌, mod-lt, add-zero, zero-add}
use Rattle.std.specs.Int.{to_be_bytes, w64}
use Rattle.std.specs.Char.{len_utf8}
use Rattle.std.proofs.lemmas.Bool.{cases_lt, cond-true, cond-false, lt-ltb, le-ltb, ne_eqb}
use Rattle.std.proofs.lemmas.List.{length-append, length-drop, length-take, length-replicate, reverse-append}
use Rattle.std.proofs.lemmas.List.Sums.{sum_by-append, sum_by-cons}
use Rattle.std.proofs.lemmas.Str.{encodes-append, encodes-chars, length-encode}
use Rattle.dia_mask.specs.declared.kinds.Kind.{Kind}
use Rattle.dia_mask.specs.declared.kinds.Kind.TheVariants.{Digit, Small, Capital, Two, Three, Four}
use Rattle.dia_mask.specs.Kinds.{character_at, from_last, kind_of, size_of, word_at}
use Rattle.dia_mask.proofs.Backwards.{some_size}
use Rattle.dia_mask.specs.Replaced.{IsRule, Numbering, broken, whole, byte_word, kinds_of, new_bytes, new_text, new_utf8, new_word}
use Rattle.dia_mask.proofs.Characters.{encodes_more, kinds_more, after_other}

-- ---- bytes

eight : (n : ℕ) → length (to_be_bytes w64 n) ≡ 8
eight n = refl

word_size : (size n : ℕ) → length (byte_word size n) ≡ size
word_size size n =
    ⊎_elim
    (λ small. ap length (cond-true (nat_lt size 8) (drop (8 - size) (to_be_bytes w64 n)) (replicate (size - 8) 0 ++ to_be_bytes w64 n) (lt-ltb size 8 small))
    ∙ omega (arith, small, length-drop (8 - size) (to_be_bytes w64 n), eight n))
    (λ large. ap length (cond-false (nat_lt size 8) (drop (8 - size) (to_be_bytes w64 n)) (replicate (size - 8) 0 ++ to_be_bytes w64 n) (le-ltb size 8 large))
    ∙ omega (arith, large, length-append (replicate (size - 8) 0) (to_be_bytes w64 n), length-replicate {A = ℕ} (size - 8) 0, eight n))
    (cases_lt size 8)

pub bytes_size : (numbers : Numbering) (bytes : List ℕ) → length (new_bytes numbers bytes) ≡ length bytes
bytes_size numbers [] = refl
bytes_size numbers (b ∷ bs) =
    ap length (cond-false (eqb (length (b ∷ bs)) 0) [] (byte_word (length (b ∷ bs)) (numbers.bytes (b ∷ bs))) (ne_eqb (length (b ∷ bs)) 0 (λ e. omega (arith, e))))
    ∙ word_size (length (b ∷ bs)) (numbers.bytes (b ∷ bs))

-- ---- characters

abbrev pub width : Kind → ℕ
width Digit = 1
width Small = 1
width Capital = 1
width Two = 2
width Three = 3
width Four = 4

width_of : (c : ℕ) (k : Kind) → kind_of c ≡ Some k → len_utf8 c ≡ width k
width_of c Digit is = let e : len_utf8 c ≡ 1 = grind (arith, is) in e
width_of c Small is = let e : len_utf8 c ≡ 1 = grind (arith, is) in e
width_of c Capital is = let e : len_utf8 c ≡ 1 = grind (arith, is) in e
width_of c Two is = let e : len_utf8 c ≡ 2 = grind (arith, is) in e
width_of c Three is = let e : len_utf8 c ≡ 3 = grind (arith, is) in e
width_of c Four is = let e : len_utf8 c ≡ 4 = grind (arith, is) in e

width_at : (k : Kind) (i : ℕ) → i < size_of k → len_utf8 (character_at k i) ≡ width k
width_at Digit i small = let h : i < 10 = small in let e : len_utf8 (48 + i) ≡ 1 = grind (arith, h) in e
width_at Small i small = let h : i < 26 = small in let e : len_utf8 (97 + i) ≡ 1 = grind (arith, h) in e
width_at Capital i small = let h : i < 26 = small in let e : len_utf8 (65 + i) ≡ 1 = grind (arith, h) in e
width_at Two i small = let h : i < 1920 = small in let e : len_utf8 (128 + i) ≡ 2 = grind (arith, h) in e
width_at Three i small = let h : i < 61440 = small in let e : len_utf8 (if nat_lt i 53248 then 2048 + i else 4096 + i) ≡ 3 = grind (arith, h) in e
width_at Four i small = let h : i < 1048576 = small in let e : len_utf8 (65536 + i) ≡ 4 = grind (arith, h) in e

-- ---- words

from_last_size : (ks : List Kind) (n : ℕ) → length (encode_utf8_all (from_last ks n)) ≡ sum_by width ks
from_last_size [] n = refl
from_last_size (k ∷ ks) n =
    let c = character_at k (n % size_of k) in
    let rest = encode_utf8_all (from_last ks (n / size_of k)) in
    length-append (encode_utf8 c) rest ∙ ap (λ (x : ℕ). x + length rest) (length-encode c ∙ width_at k (n % size_of k) (mod-lt n (some_size k)))
    ∙ ap (λ (x : ℕ). width k + x) (from_last_size ks (n / size_of k)) ∙ sym (sum_by-cons width k ks)

reversed_size : (xs : List ℕ) → length (encode_utf8_all (reverse xs)) ≡ length (encode_utf8_all xs)
reversed_size [] = refl
reversed_size (x ∷ xs) =
    let e : length (encode_utf8_all (reverse xs)) + length (encode_utf8 x) ≡ length (encode_utf8 x) + length (encode_utf8_all xs) = omega (arith, reversed_size xs) in
    ap (λ (t : List ℕ). length (encode_utf8_all t)) (reverse-append (x ∷ []) xs) ∙ ap length (encodes_more (reverse xs) x)
    ∙ length-append (encode_utf8_all (reverse xs)) (encode_utf8 x) ∙ e ∙ sym (length-append (encode_utf8 x) (encode_utf8_all xs))

reversed_sum : (ks : List Kind) → sum_by width (reverse ks) ≡ sum_by width ks
reversed_sum [] = refl
reversed_sum (k ∷ ks) =
    let one : sum_by width (k ∷ []) ≡ width k + sum_by width [] = sum_by-cons width k [] in
    let none : sum_by width [] ≡ 0 = refl in
    ap (sum_by width) (reverse-append (k ∷ []) ks) ∙ sum_by-append width (reverse ks) (k ∷ [])
    ∙ omega (arith, reversed_sum ks, one, none) ∙ sym (sum_by-cons width k ks)

word_sum : (kinds : List Kind) (n : ℕ) → length (encode_utf8_all (word_at kinds n)) ≡ sum_by width kinds
word_sum kinds n = reversed_size (from_last (reverse kinds) n) ∙ from_last_size (reverse kinds) n ∙ reversed_sum kinds

-- ---- texts

pub after_kind : (numbers : Numbering) (word rest : List ℕ) (c : ℕ) (k : Kind) → kind_of c ≡ Some k → new_text numbers word (c ∷ rest) ≡ new_text numbers (word ++ c ∷ []) rest
after_kind numbers word rest c k is = ap (λ (o : Option Kind). if is_some o then new_text numbers (word ++ c ∷ []) rest else new_word numbers word ++ c ∷ new_text numbers [] rest) is

-- a word is as long as its kinds say
abbrev pub Fits : List ℕ → Type 0
Fits word = length (encode_utf8_all word) ≡ sum_by width (kinds_of word)

more_size : (word : List ℕ) (c : ℕ) → length (encode_utf8_all (word ++ c ∷ [])) ≡ length (encode_utf8_all word) + length (encode_utf8 c)
more_size word c = ap length (encodes_more word c) ∙ length-append (encode_utf8_all word) (encode_utf8 c)

fits_more : (word : List ℕ) (c : ℕ) (k : Kind) → kind_of c ≡ Some k → Fits word → Fits (word ++ c ∷ [])
fits_more word c k is fits =
    let sums : sum_by width (kinds_of (word ++ c ∷ [])) ≡ sum_by width (kinds_of word) + sum_by width (k ∷ []) =
    ap (sum_by width) (kinds_more word c k is) ∙ sum_by-append width (kinds_of word) (k ∷ []) in
    let one : sum_by width (k ∷ []) ≡ width k + sum_by width [] = sum_by-cons width k [] in
    let none : sum_by width [] ≡ 0 = refl in
    let wide : length (encode_utf8 c) ≡ width k = length-encode c ∙ width_of c k is in
    omega (arith, more_size word c, sums, one, none, wide, fits)

text_step : (numbers : Numbering) (word cs : List ℕ) (c : ℕ) → Fits word → (o : Option Kind) → kind_of c ≡ o
    → (Fits (word ++ c ∷ []) → length (encode_utf8_all (new_text numbers (word ++ c ∷ []) cs)) ≡ length (encode_utf8_all (word ++ c ∷ [])) + length (encode_utf8_all cs))
    → length (encode_utf8_all (new_text numbers [] cs)) ≡ length (encode_utf8_all cs)
    → length (encode_utf8_all (new_text numbers word (c ∷ cs))) ≡ length (encode_utf8_all word) + length (encode_utf8_all (c ∷ cs))
text_step numbers word cs c fits (Some k) is longer rest =
    let here : length (encode_utf8_all (c ∷ cs)) ≡ length (encode_utf8 c) + length (encode_utf8_all cs) = length-append (encode_utf8 c) (encode_utf8_all cs) in
    ap (λ (t : List ℕ). length (encode_utf8_all t)) (after_kind numbers word cs c k is) ∙ omega (arith, longer (fits_more word c k is fits), more_size word c, here)
text_step numbers word cs c fits None is longer rest =
    let here : length (encode_utf8_all (c ∷ cs)) ≡ length (encode_utf8 c) + length (encode_utf8_all cs) = length-append (encode_utf8 c) (encode_utf8_all cs) in
    let new = new_text numbers [] cs in
    let there : length (encode_utf8_all (c ∷ new)) ≡ length (encode_utf8 c) + length (encode_utf8_all new) = length-append (encode_utf8 c) (encode_utf8_all new) in
    let word_size : length (encode_utf8_all (new_word numbers word)) ≡ length (encode_utf8_all word) = word_sum (kinds_of word) (numbers.texts word) ∙ sym fits in
    ap (λ (t : List ℕ). length (encode_utf8_all t)) (after_other numbers word cs c is) ∙ ap length (encodes-append (new_word numbers word) (c ∷ new))
    ∙ length-append (encode_utf8_all (new_word numbers word)) (encode_utf8_all (c ∷ new)) ∙ omega (arith, there, here, word_size, rest)

text_size : (numbers : Numbering) (word cs : List ℕ) → Fits word → length (encode_utf8_all (new_text numbers word cs)) ≡ length (encode_utf8_all word) + length (encode_utf8_all cs)
text_size numbers word [] fits = word_sum (kinds_of word) (numbers.texts word) ∙ sym fits ∙ sym (add-zero (length (encode_utf8_all word)))
text_size numbers word (c ∷ cs) fits = text_step numbers word cs c fits (kind_of c) refl (text_size numbers (word ++ c ∷ []) cs)
    (text_size numbers [] cs refl ∙ zero-add (length (encode_utf8_all cs)))

pub utf8_size : (numbers : Numbering) (bytes : List ℕ) → IsUtf8 bytes → length (new_utf8 numbers bytes) ≡ length bytes
utf8_size numbers bytes u = text_size numbers [] (chars bytes) refl ∙ zero-add (length (encode_utf8_all (chars bytes))) ∙ ap length (encodes-chars bytes u)

pub rule_size : (numbers : Numbering) (bytes new : List ℕ) → IsRule numbers bytes new → length new ≡ length bytes
rule_size numbers bytes new (whole u is) = ap length is ∙ utf8_size numbers bytes u
rule_size numbers bytes new (broken at more valid rule is) =
    let short = valid.short in
    ap length is ∙ length-append (new_utf8 numbers (take at bytes)) (255 ∷ more)
    ∙ omega (arith, utf8_size numbers (take at bytes) valid.front, length-take at bytes, rule_size numbers (drop (at + 1) bytes) more rule, length-drop (at + 1) bytes, short)
