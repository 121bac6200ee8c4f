-- The words of a line that is written, read back one after the other; and the lines of a text.
use Rattle.std.proofs.Common.{◌≡◌, ℕ, suc, ◌+◌, ◌/◌, ◌%◌, ◌^◌, ◌<◌, ◌==◌, ◌&&◌, nat_le, not, Bool, true, false, cond, if◌then◌else◌, List, [], ◌∷◌, ◌++◌, length, take, drop, flat_map, refl, sym, ap, ◌∙◌, append_assoc, arith}
use Rattle.std.specs.List.{AllByRecursion, list_all, prefix_len}
use Rattle.std.specs.Char.{is_ascii_digit}
use Rattle.std.specs.Fmt.{decimal}
use Rattle.std.proofs.lemmas.Bool.{and_parts, and_from}
use Rattle.std.proofs.lemmas.Bool.Decides.{nat_tests}
use Rattle.std.proofs.lemmas.Fmt.{digits_decimal, decimal_nonempty}
use Rattle.std.proofs.lemmas.List.{take_at, drop_at}
use Rattle.std.proofs.lemmas.List.Elements.{All-from_recursion}
use Rattle.std.proofs.lemmas.List.Splits.{slice_split_at}
use Rattle.dia_data.specs.Shown.{hex_digit, hex_byte, hexadecimal}
use Rattle.dia_text.specs.Words.{is_blank, is_mark, is_word_byte, unblanked, word_length, first_word, after_word}
use Rattle.dia_text.specs.Made.{lines}
use Rattle.dia_text.specs.LineTexts.{spaced}
use Rattle.dia_text.specs.TextOf.{fed}
use Rattle.dia_text.proofs.NumbersOfWords.{digits_model}

-- a byte above `#`, but neither `;` nor a mark
abbrev pub is_sign : ℕ → Bool
is_sign c = (nat_le 36 c && not (c == 59)) && not (is_mark c)

pub record IsWord (w : List ℕ) : Type 0 where
  pub some : 0 < length w
  pub signs : list_all is_sign w ≡ true

abbrev pub AreWords : List (List ℕ) → Type 0
AreWords ws = AllByRecursion IsWord ws

-- ---- words

sign_in_word : (c : ℕ) → is_sign c ≡ true → is_word_byte c ≡ true
sign_in_word c sign = grind (arith, nat_tests)

sign_is_no_mark : (c : ℕ) → is_sign c ≡ true → is_mark c ≡ false
sign_is_no_mark c sign = grind (arith, nat_tests)

sign_is_no_blank : (c : ℕ) → is_sign c ≡ true → is_blank c ≡ false
sign_is_no_blank c sign = grind (arith, nat_tests)

digit_is_sign : (c : ℕ) → is_ascii_digit c ≡ true → is_sign c ≡ true
digit_is_sign c digit = grind (arith, nat_tests)

digits_are_signs : (ds : List ℕ) → list_all is_ascii_digit ds ≡ true → list_all is_sign ds ≡ true
digits_are_signs [] all = refl
digits_are_signs (c ∷ ds) all =
    let parts = and_parts (is_ascii_digit c) (list_all is_ascii_digit ds) all in
    and_from _ _ (digit_is_sign c parts.0) (digits_are_signs ds parts.1)

pub signs_append : (a b : List ℕ) → list_all is_sign a ≡ true → list_all is_sign b ≡ true → list_all is_sign (a ++ b) ≡ true
signs_append [] b h k = k
signs_append (c ∷ a) b h k =
    let parts = and_parts (is_sign c) (list_all is_sign a) h in
    and_from _ _ parts.0 (signs_append a b parts.1 k)

pub decimal_word : (n : ℕ) → n < 2 ^ 64 → IsWord (decimal n)
decimal_word n fits = record { some = decimal_nonempty n fits; signs = digits_are_signs (decimal n) (digits_decimal digits_model n fits) }

digit_sign : (n : ℕ) → n < 16 → is_sign (hex_digit n) ≡ true
digit_sign n small = grind (arith, nat_tests)

abbrev AreSmall : List ℕ → Type 0
AreSmall bytes = AllByRecursion (λ (b : ℕ). b < 256) bytes

hex_signs : (bytes : List ℕ) → AreSmall bytes → list_all is_sign (flat_map hex_byte bytes) ≡ true
hex_signs [] small = refl
hex_signs (b ∷ bytes) (first, small) = and_from _ _ (digit_sign (b / 16) (omega (arith, first))) (and_from _ _ (digit_sign (b % 16) (omega arith)) (hex_signs bytes small))

pub hexadecimal_word : (bytes : List ℕ) → AreSmall bytes → IsWord (hexadecimal bytes)
hexadecimal_word bytes small = record { some = omega arith; signs = hex_signs bytes small }

pub hex_byte_word : (b : ℕ) → b < 256 → IsWord (hex_byte b)
hex_byte_word b small = record { some = omega arith; signs = and_from _ _ (digit_sign (b / 16) (omega (arith, small))) (and_from _ _ (digit_sign (b % 16) (omega arith)) refl) }

-- ---- reading

pub blank_first : (text : List ℕ) → unblanked (32 ∷ text) ≡ unblanked text
blank_first text = let more : 1 + prefix_len is_blank text ≡ suc (prefix_len is_blank text) = omega arith in ap (λ (n : ℕ). drop n (32 ∷ text)) more

pub unblanked_word : (w rest : List ℕ) → IsWord w → unblanked (w ++ rest) ≡ w ++ rest
unblanked_word [] rest h = absurd (let some = h.some in omega (arith, some))
unblanked_word (c ∷ w) rest h =
    let other : is_blank c ≡ false = sign_is_no_blank c (and_parts (is_sign c) (list_all is_sign w) h.signs).0 in
    ap (λ (b : Bool). drop (cond b (1 + prefix_len is_blank (w ++ rest)) 0) (c ∷ (w ++ rest))) other

letters_length : (w : List ℕ) (ws : List (List ℕ)) → list_all is_sign w ≡ true → prefix_len is_word_byte (w ++ spaced ws) ≡ length w
letters_length [] [] all = refl
letters_length [] (x ∷ ws) all = refl
letters_length (c ∷ w) ws all =
    let parts = and_parts (is_sign c) (list_all is_sign w) all in
    let here = sign_in_word c parts.0 in
    let rest = letters_length w ws parts.1 in
    rw (here, rest) (omega arith)

length_is : (w : List ℕ) (ws : List (List ℕ)) → IsWord w → word_length (w ++ spaced ws) ≡ length w
length_is [] ws h = absurd (let some = h.some in omega (arith, some))
length_is (c ∷ w) ws h =
    let other : is_mark c ≡ false = sign_is_no_mark c (and_parts (is_sign c) (list_all is_sign w) h.signs).0 in
    ap (λ (b : Bool). if b then 1 else prefix_len is_word_byte (c ∷ (w ++ spaced ws))) other ∙ letters_length (c ∷ w) ws h.signs

pub first_is : (w : List ℕ) (ws : List (List ℕ)) → IsWord w → first_word (w ++ spaced ws) ≡ w
first_is w ws h = ap (λ (t : List ℕ). take (word_length t) t) (unblanked_word w (spaced ws) h) ∙ take_at w (spaced ws) _ (sym (length_is w ws h))

pub after_is : (w : List ℕ) (ws : List (List ℕ)) → IsWord w → after_word (w ++ spaced ws) ≡ spaced ws
after_is w ws h =
    ap (λ (t : List ℕ). drop (word_length t) t) (unblanked_word w (spaced ws) h) ∙ drop_at w (spaced ws) _ (sym (length_is w ws h))

pub next_is : (w : List ℕ) (ws : List (List ℕ)) → IsWord w → first_word (spaced (w ∷ ws)) ≡ w
next_is w ws h = ap (λ (t : List ℕ). take (word_length t) t) (blank_first (w ++ spaced ws)) ∙ first_is w ws h

pub after_next : (w : List ℕ) (ws : List (List ℕ)) → IsWord w → after_word (spaced (w ∷ ws)) ≡ spaced ws
after_next w ws h = ap (λ (t : List ℕ). drop (word_length t) t) (blank_first (w ++ spaced ws)) ∙ after_is w ws h

-- ---- lines

abbrev pub HasNoFeed : List ℕ → Type 0
HasNoFeed line = AllByRecursion (λ (c : ℕ). (c == 10) ≡ false) line

sign_is_no_feed : (c : ℕ) → is_sign c ≡ true → (c == 10) ≡ false
sign_is_no_feed c sign = grind (arith, nat_tests)

pub no_feed_word : (w : List ℕ) → list_all is_sign w ≡ true → HasNoFeed w
no_feed_word [] all = tt
no_feed_word (c ∷ w) all =
    let parts = and_parts (is_sign c) (list_all is_sign w) all in
    (sign_is_no_feed c parts.0, no_feed_word w parts.1)

pub no_feed_both : (a b : List ℕ) → HasNoFeed a → HasNoFeed b → HasNoFeed (a ++ b)
no_feed_both [] b h k = k
no_feed_both (c ∷ a) b (first, h) k = (first, no_feed_both a b h k)

abbrev pub HaveNoFeeds : List (List ℕ) → Type 0
HaveNoFeeds ws = AllByRecursion HasNoFeed ws

pub no_feed_words : (ws : List (List ℕ)) → AreWords ws → HaveNoFeeds ws
no_feed_words [] all = tt
no_feed_words (w ∷ ws) (h, all) = (no_feed_word w h.signs, no_feed_words ws all)

pub no_feeds_both : (vs ws : List (List ℕ)) → HaveNoFeeds vs → HaveNoFeeds ws → HaveNoFeeds (vs ++ ws)
no_feeds_both [] ws h k = k
no_feeds_both (v ∷ vs) ws (first, h) k = (first, no_feeds_both vs ws h k)

no_feed_spaced : (ws : List (List ℕ)) → HaveNoFeeds ws → HasNoFeed (spaced ws)
no_feed_spaced [] all = tt
no_feed_spaced (w ∷ ws) (h, all) = (refl, no_feed_both w (spaced ws) h (no_feed_spaced ws all))

pub no_feed_line : (w : List ℕ) (ws : List (List ℕ)) → IsWord w → HaveNoFeeds ws → HasNoFeed (w ++ spaced ws)
no_feed_line w ws h all = no_feed_both w (spaced ws) (no_feed_word w h.signs) (no_feed_spaced ws all)

pub lines_back : (ls : List (List ℕ)) → AllByRecursion HasNoFeed ls → lines (flat_map fed ls) ≡ ls ++ ([] ∷ [])
lines_back [] all = refl
lines_back (l ∷ ls) (h, all) =
    ap lines (append_assoc l (10 ∷ []) (flat_map fed ls)) ∙ slice_split_at (λ (b : ℕ). b == 10) l 10 (flat_map fed ls) (All-from_recursion (λ (c : ℕ). (c == 10) ≡ false) l h) refl
    ∙ ap (λ (ts : List (List ℕ)). l ∷ ts) (lines_back ls all)
