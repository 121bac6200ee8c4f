-- Texts, and bytes that no character begins.
use Rattle.std.proofs.Common.{◌≡◌, ℕ, ◌+◌, ◌-◌, ◌≤◌, Bool, true, false, ◌&&◌, List, [], ◌∷◌, ◌++◌, length, take, drop, refl, sym, ap, ◌∙◌, subst, append_assoc, arith, length-append}
use Rattle.std.specs.Str.{IsUtf8, StartsWithNoChar, IsValidUpTo}
use Rattle.std.specs.Char.{encode_utf8}
use Rattle.std.proofs.Math.Seq.{drop-append_seam, take-append_seam, take-append-add, take-add}
use Rattle.std.proofs.lemmas.List.{take-append-drop, take-append-le, length-take}
use Rattle.std.proofs.lemmas.Str.{IsUtf8-append, IsUtf8-encode, IsUtf8-drop, IsCharBoundary-from_take, length-encode, len_utf8_bounds}

-- what follows a text in a text is a text
pub IsUtf8-following : (a b : List ℕ) → IsUtf8 a → IsUtf8 (a ++ b) → IsUtf8 b
IsUtf8-following a b h u =
    let front : IsUtf8 (take (length a) (a ++ b)) = subst IsUtf8 (sym (take-append_seam a b)) h in
    subst IsUtf8 (drop-append_seam a b) (IsUtf8-drop (a ++ b) (length a) u (IsCharBoundary-from_take (a ++ b) (length a) u (omega (arith, length-append a b)) front))

first_of_both : (x y : Bool) → x && y ≡ true → x ≡ true
first_of_both true y e = refl
first_of_both false y e = e

-- a text that no character begins is empty
pub length-no_char : (bs : List ℕ) → StartsWithNoChar bs → IsUtf8 bs → length bs ≡ 0
length-no_char bs none ([], e) = ap length (sym e.1)
length-no_char bs none (c ∷ cs, e) = absurd (none c _ (first_of_both _ _ e.0) (sym e.1))

pub StartsWithNoChar-empty : (bs : List ℕ) → length bs ≡ 0 → StartsWithNoChar bs
StartsWithNoChar-empty bs empty c rest s e = omega (arith, ap length e, length-append (encode_utf8 c) rest, length-encode c, len_utf8_bounds c)

-- no character begins what follows the longest front that is a text
pub StartsWithNoChar-following : (bs : List ℕ) (n : ℕ) → IsValidUpTo bs n → StartsWithNoChar (drop n bs)
StartsWithNoChar-following bs n v c rest s e =
    let more : take (n + length (encode_utf8 c)) bs ≡ take n bs ++ encode_utf8 c = take-add n (length (encode_utf8 c)) bs
    ∙ ap (λ (r : List ℕ). take n bs ++ take (length (encode_utf8 c)) r) e ∙ ap (λ (r : List ℕ). take n bs ++ r) (take-append_seam (encode_utf8 c) rest) in
    v.longest (n + length (encode_utf8 c)) (omega (arith, length-encode c, len_utf8_bounds c)) (subst IsUtf8 (sym more) (IsUtf8-append (take n bs) (encode_utf8 c) v.front (IsUtf8-encode c s)))

StartsWithNoChar-take : (n : ℕ) (bs : List ℕ) → StartsWithNoChar bs → StartsWithNoChar (take n bs)
StartsWithNoChar-take n bs none c rest s e =
    none c (rest ++ drop n bs) s (sym (take-append-drop n bs) ∙ ap (λ (f : List ℕ). f ++ drop n bs) e ∙ append_assoc (encode_utf8 c) rest (drop n bs))

-- a character takes at most four bytes, so the first four decide whether one begins
pub StartsWithNoChar-from_take : (bs : List ℕ) → StartsWithNoChar (take 4 bs) → StartsWithNoChar bs
StartsWithNoChar-from_take bs none c rest s e =
    let k : length (encode_utf8 c) + (4 - length (encode_utf8 c)) ≡ 4 = omega (arith, length-encode c, len_utf8_bounds c) in
    none c (take (4 - length (encode_utf8 c)) rest) s (ap (take 4) e ∙ ap (λ (n : ℕ). take n (encode_utf8 c ++ rest)) (sym k) ∙ take-append-add (encode_utf8 c) rest (4 - length (encode_utf8 c)))

-- four bytes that no character begins make no text, whatever follows
pub no_text : (bs more : List ℕ) → StartsWithNoChar bs → 4 ≤ length bs → ¬ IsUtf8 (bs ++ more)
no_text bs more none long u =
    let front : take 4 (bs ++ more) ≡ take 4 bs = take-append-le 4 bs more long in
    let rest : StartsWithNoChar (bs ++ more) = StartsWithNoChar-from_take (bs ++ more) (subst StartsWithNoChar (sym front) (StartsWithNoChar-take 4 bs none)) in
    omega (arith, length-append bs more, length-no_char (bs ++ more) rest u)

-- a front that is a text ends after one that no character begins, or is empty
pub no_text_within : (a b : List ℕ) (n : ℕ) → StartsWithNoChar a → IsUtf8 (take n (a ++ b)) → n ≤ length a → n ≡ 0
no_text_within a b n none u within =
    let part : IsUtf8 (take n a) = subst IsUtf8 (take-append-le n a b within) u in
    omega (arith, length-take n a, length-no_char (take n a) (StartsWithNoChar-take n a none) part)
