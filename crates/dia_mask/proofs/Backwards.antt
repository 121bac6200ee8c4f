-- Words that are written from their last character on.
use Rattle.std.proofs.Common.{◌≡◌, ℕ, ◌+◌, ◌*◌, ◌/◌, ◌%◌, ◌<◌, List, [], ◌∷◌, ◌++◌, reverse, get_or, drop, sym, ap, ◌∙◌, append_assoc, append-nil, arith, encode_utf8, encode_utf8_all, div-lt_iff_lt-mul, div-add-mod', mod-lt}
use Rattle.std.proofs.lemmas.List.{reverse-append, reverse-reverse}
use Rattle.dia_mask.specs.declared.kinds.Kind.{Kind}
use Rattle.dia_mask.specs.declared.kinds.Kind.TheVariants.{Digit, Small, Capital, Two, Three, Four}
use Rattle.dia_mask.specs.Kinds.{capacity, character_at, from_last, size_of, word_at}

last_first : {A : Type 0} (front : List A) (x : A) → reverse (front ++ x ∷ []) ≡ x ∷ reverse front
last_first front x = reverse-append front (x ∷ [])

pub from_last_more : (ks front : List Kind) (k : Kind) (left : ℕ) (out all : List ℕ) → ks ≡ front ++ k ∷ [] → out ++ from_last (reverse ks) left ≡ all
    → (out ++ character_at k (left % size_of k) ∷ []) ++ from_last (reverse front) (left / size_of k) ≡ all
from_last_more ks front k left out all is before =
    append_assoc out (character_at k (left % size_of k) ∷ []) (from_last (reverse front) (left / size_of k))
    ∙ ap (λ (xs : List Kind). out ++ from_last xs left) (sym (ap reverse is ∙ last_first front k)) ∙ before

pub from_last_end : (ks : List Kind) (left : ℕ) (out all : List ℕ) → ks ≡ [] → out ++ from_last (reverse ks) left ≡ all → out ≡ all
from_last_end ks left out all is before = sym (append-nil out) ∙ ap (λ (xs : List Kind). out ++ from_last (reverse xs) left) (sym is) ∙ before

pub reversed_more : (cs front : List ℕ) (c : ℕ) (out more all : List ℕ) → cs ≡ front ++ c ∷ [] → more ≡ out ++ encode_utf8 c → out ++ encode_utf8_all (reverse cs) ≡ all
    → more ++ encode_utf8_all (reverse front) ≡ all
reversed_more cs front c out more all is pushed before =
    ap (λ (t : List ℕ). t ++ encode_utf8_all (reverse front)) pushed ∙ append_assoc out (encode_utf8 c) (encode_utf8_all (reverse front))
    ∙ ap (λ (xs : List ℕ). out ++ encode_utf8_all xs) (sym (ap reverse is ∙ last_first front c)) ∙ before

pub reversed_end : (cs out all : List ℕ) → cs ≡ [] → out ++ encode_utf8_all (reverse cs) ≡ all → out ≡ all
reversed_end cs out all is before = sym (append-nil out) ∙ ap (λ (xs : List ℕ). out ++ encode_utf8_all (reverse xs)) (sym is) ∙ before

-- ---- different numbers

same_place : (k : Kind) (i j : ℕ) → i < size_of k → j < size_of k → character_at k i ≡ character_at k j → i ≡ j
same_place Digit i j small small' is = omega (arith, is)
same_place Small i j small small' is = omega (arith, is)
same_place Capital i j small small' is = omega (arith, is)
same_place Two i j small small' is = omega (arith, is)
same_place Three i j small small' is = grind (arith, is, small, small')
same_place Four i j small small' is = omega (arith, is)

pub some_size : (k : Kind) → 0 < size_of k
some_size Digit = omega arith
some_size Small = omega arith
some_size Capital = omega arith
some_size Two = omega arith
some_size Three = omega arith
some_size Four = omega arith

heads : (x y : ℕ) (xs ys : List ℕ) → x ∷ xs ≡ y ∷ ys → x ≡ y
heads x y xs ys is = ap (λ (t : List ℕ). get_or t 0 0) is

tails : (x y : ℕ) (xs ys : List ℕ) → x ∷ xs ≡ y ∷ ys → xs ≡ ys
tails x y xs ys is = ap (λ (t : List ℕ). drop 1 t) is

from_parts : (n m s : ℕ) → n % s ≡ m % s → n / s ≡ m / s → n ≡ m
from_parts n m s rest whole = sym (div-add-mod' n s) ∙ ap (λ (q : ℕ). q * s + n % s) whole ∙ ap (λ (r : ℕ). m / s * s + r) rest ∙ div-add-mod' m s

fewer : (k : Kind) (ks : List Kind) (n : ℕ) → n < capacity (k ∷ ks) → n / size_of k < capacity ks
fewer k ks n few = (div-lt_iff_lt-mul (some_size k)).1 few

same_number : (ks : List Kind) (n m : ℕ) → n < capacity ks → m < capacity ks → from_last ks n ≡ from_last ks m → n ≡ m
same_number [] n m few few' is = omega (arith, few, few')
same_number (k ∷ ks) n m few few' is =
    let s = size_of k in
    from_parts n m s
    (same_place k (n % s) (m % s) (mod-lt n (some_size k)) (mod-lt m (some_size k)) (heads (character_at k (n % s)) (character_at k (m % s)) (from_last ks (n / s)) (from_last ks (m / s)) is))
    (same_number ks (n / s) (m / s) (fewer k ks n few) (fewer k ks m few') (tails (character_at k (n % s)) (character_at k (m % s)) (from_last ks (n / s)) (from_last ks (m / s)) is))

-- words of the same kinds with different numbers are different
pub other_word : (kinds : List Kind) (n m : ℕ) → n < capacity (reverse kinds) → m < capacity (reverse kinds) → word_at kinds n ≡ word_at kinds m → n ≡ m
other_word kinds n m few few' is =
    same_number (reverse kinds) n m few few' (sym (reverse-reverse (from_last (reverse kinds) n)) ∙ ap reverse is ∙ reverse-reverse (from_last (reverse kinds) m))
