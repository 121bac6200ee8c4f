-- Texts in quotes, read back.
use Rattle.std.proofs.Common.{◌≡◌, ℕ, suc, ◌+◌, ◌/◌, ◌%◌, ◌<◌, ◌==◌, ◌&&◌, nat_le, not, Bool, true, false, if◌then◌else◌, List, [], ◌∷◌, ◌++◌, length, take, drop, flat_map, Option, Some, None, option_and_then, Ok, codes, refl, sym, ap, ◌∙◌, append_assoc, arith}
use Rattle.std.specs.Option.{option_map}
use Rattle.std.specs.List.{list_all, prefix_len, slice_split, onto_first as onto}
use Rattle.std.proofs.lemmas.Bool.{and_parts, and_from, ne_eqb}
use Rattle.std.proofs.lemmas.Bool.Decides.{nat_tests}
use Rattle.std.proofs.lemmas.List.{length-append, take_at, drop_at}
use Rattle.std.proofs.lemmas.List.Splits.{slice_split-cons_no, length-slice_split}
use Rattle.dia_terms.specs.Names.{same_bytes}
use Rattle.dia_data.specs.Plain.{PlainFormat}
use Rattle.dia_data.specs.Shown.{hex_digit, hex_byte, quoted_byte, quoted}
use Rattle.dia_text.specs.Words.{is_word_byte, unblanked, first_word, after_letter}
use Rattle.dia_text.specs.Values.{each, escaped, unescaped, is_no_quote, text_at, may_be_text, value_at}
use Rattle.dia_text.specs.LineTexts.{spaced}
use Rattle.dia_text.proofs.Bytes.{AreBytes}
use Rattle.dia_text.proofs.HexBack.{hex_byte_back}
use Rattle.dia_text.proofs.WordsBack.{HasNoFeed, no_feed_both}
use Rattle.dia_text.proofs.ValueWords.{ReadsBack}

-- a byte that stands for itself
abbrev is_plain : ℕ → Bool
is_plain b = nat_le 32 b && nat_le b 126 && not (b == 34) && not (b == 92)

plain_no_backslash : (b : ℕ) → is_plain b ≡ true → (b == 92) ≡ false
plain_no_backslash b plain = grind (arith, nat_tests)

plain_no_quote : (b : ℕ) → is_plain b ≡ true → is_no_quote b ≡ true
plain_no_quote b plain = grind (arith, nat_tests)

plain_no_feed : (b : ℕ) → is_plain b ≡ true → (b == 10) ≡ false
plain_no_feed b plain = grind (arith, nat_tests)

digit_no_backslash : (n : ℕ) → (hex_digit n == 92) ≡ false
digit_no_backslash n = grind (arith, nat_tests)

digit_no_quote : (n : ℕ) → is_no_quote (hex_digit n) ≡ true
digit_no_quote n = grind (arith, nat_tests)

digit_no_feed : (n : ℕ) → (hex_digit n == 10) ≡ false
digit_no_feed n = grind (arith, nat_tests)

-- ---- the parts between backslashes

abbrev pieces : List ℕ → List (List ℕ)
pieces text = slice_split (λ c. c == 92) text

longer : (b : ℕ) (p bytes : List ℕ) (o : Option (List ℕ)) → option_map (λ rest. p ++ rest) o ≡ Some bytes → option_map (λ rest. (b ∷ p) ++ rest) o ≡ Some (b ∷ bytes)
longer b p bytes None is = absurd (let e : None ≡ Some bytes = is in cc)
longer b p bytes (Some rest) is = ap (λ (o : Option (List ℕ)). option_map (λ t. b ∷ t) o) is

same_bytes_of : (o : Option (List ℕ)) → option_map (λ rest. [] ++ rest) o ≡ o
same_bytes_of None = refl
same_bytes_of (Some rest) = refl

escaped_back : (b : ℕ) (p : List ℕ) → b < 256 → escaped (120 ∷ (hex_byte b ++ p)) ≡ Some (b ∷ p)
escaped_back b p small = ap (λ (o : Option ℕ). option_map (λ byte. byte ∷ p) o) (hex_byte_back b small)

pieces_of_digits : (b : ℕ) (text p : List ℕ) (ps : List (List ℕ)) → pieces text ≡ p ∷ ps → pieces (120 ∷ (hex_byte b ++ text)) ≡ (120 ∷ (hex_byte b ++ p)) ∷ ps
pieces_of_digits b text p ps is =
    let split = λ (c : ℕ). c == 92 in
    slice_split-cons_no split 120 (hex_byte b ++ text) refl
    ∙ ap (λ (qs : List (List ℕ)). onto 120 qs)
    (slice_split-cons_no split (hex_digit (b / 16)) (hex_digit (b % 16) ∷ text) (digit_no_backslash (b / 16))
    ∙ ap (λ (qs : List (List ℕ)). onto (hex_digit (b / 16)) qs) (slice_split-cons_no split (hex_digit (b % 16)) text (digit_no_backslash (b % 16)) ∙ ap (λ (qs : List (List ℕ)). onto (hex_digit (b % 16)) qs) is))

quoted_back : (bytes : List ℕ) → AreBytes bytes → unescaped (pieces (flat_map quoted_byte bytes)) ≡ Some bytes
quoted_back [] h = refl
quoted_back (b ∷ bytes) (small, h) = by (is_plain b) refl (pieces (flat_map quoted_byte bytes)) refl (quoted_back bytes h)
  where
    rest : List ℕ
    rest = flat_map quoted_byte bytes

    by : (t : Bool) → is_plain b ≡ t → (ps : List (List ℕ)) → pieces rest ≡ ps → unescaped ps ≡ Some bytes
        → unescaped (pieces ((if t then b ∷ [] else codes "\\x" ++ hex_byte b) ++ rest)) ≡ Some (b ∷ bytes)
    by t e [] is back = absurd (let some = length-slice_split (λ (c : ℕ). c == 92) rest in let none = ap length is in omega (arith, some, none))
    by true e (p ∷ ps) is back =
        ap unescaped (slice_split-cons_no (λ (c : ℕ). c == 92) b rest (plain_no_backslash b e) ∙ ap (λ (qs : List (List ℕ)). onto b qs) is) ∙ longer b p bytes (each escaped ps) back
    by false e (p ∷ ps) is back =
        ap (λ (qs : List (List ℕ)). unescaped ([] ∷ qs)) (pieces_of_digits b rest p ps is) ∙ same_bytes_of (each escaped ((120 ∷ (hex_byte b ++ p)) ∷ ps))
        ∙ ap (λ (o : Option (List ℕ)). option_and_then (λ front. option_map (λ more. front ++ more) (each escaped ps)) o) (escaped_back b p small) ∙ longer b p bytes (each escaped ps) back

-- ---- up to the closing quote

no_quotes_both : (a b : List ℕ) → list_all is_no_quote a ≡ true → list_all is_no_quote b ≡ true → list_all is_no_quote (a ++ b) ≡ true
no_quotes_both [] b h k = k
no_quotes_both (c ∷ a) b h k = let parts = and_parts (is_no_quote c) (list_all is_no_quote a) h in and_from _ _ parts.0 (no_quotes_both a b parts.1 k)

no_quotes : (bytes : List ℕ) → list_all is_no_quote (flat_map quoted_byte bytes) ≡ true
no_quotes [] = refl
no_quotes (b ∷ bytes) = no_quotes_both (quoted_byte b) (flat_map quoted_byte bytes) (by (is_plain b) refl) (no_quotes bytes)
  where
    by : (t : Bool) → is_plain b ≡ t → list_all is_no_quote (if t then b ∷ [] else codes "\\x" ++ hex_byte b) ≡ true
    by true e = and_from _ _ (plain_no_quote b e) refl
    by false e = and_from _ _ (digit_no_quote (b / 16)) (and_from _ _ (digit_no_quote (b % 16)) refl)

up_to_quote : (text rest : List ℕ) → list_all is_no_quote text ≡ true → prefix_len is_no_quote (text ++ (34 ∷ rest)) ≡ length text
up_to_quote [] rest all = refl
up_to_quote (c ∷ text) rest all =
    let parts = and_parts (is_no_quote c) (list_all is_no_quote text) all in
    rw (parts.0, up_to_quote text rest parts.1) (omega arith)

abbrev text_cut : ℕ → List ℕ → Option (List ℕ × List ℕ)
text_cut at text = if at == length text then None else option_map (λ bytes. (bytes, drop (at + 1) text)) (unescaped (pieces (take at text)))

text_back : (bytes rest : List ℕ) → AreBytes bytes → text_at (flat_map quoted_byte bytes ++ (34 ∷ rest)) ≡ Some (bytes, rest)
text_back bytes rest h =
    let text = flat_map quoted_byte bytes in
    let at = up_to_quote text rest (no_quotes bytes) in
    let whole = length-append text (34 ∷ rest) in
    let other : (length text == length (text ++ (34 ∷ rest))) ≡ false = ne_eqb (length text) (length (text ++ (34 ∷ rest))) (λ e. omega (arith, e, whole)) in
    let front : take (length text) (text ++ (34 ∷ rest)) ≡ text = take_at text (34 ∷ rest) (length text) refl in
    let one : length (text ++ (34 ∷ [])) ≡ length text + 1 = omega (arith, length-append text (34 ∷ [])) in
    let following : drop (length text + 1) (text ++ (34 ∷ rest)) ≡ rest =
    ap (drop (length text + 1)) (sym (append_assoc text (34 ∷ []) rest)) ∙ drop_at (text ++ (34 ∷ [])) rest (length text + 1) one in
    ap (λ (n : ℕ). text_cut n (text ++ (34 ∷ rest))) at ∙ rw (other, front, following, quoted_back bytes h) refl

-- ---- texts in quotes

text_value : (format : Option PlainFormat) (text following bytes rest : List ℕ) → after_letter 34 (unblanked text) ≡ Some following → may_be_text format ≡ true → text_at following ≡ Some (bytes, rest)
    → value_at format text ≡ Ok (bytes, rest)
unfolding value_at
text_value format text following bytes rest quote may is = rw (quote, may, is) refl

first_quote : (text : List ℕ) → first_word (32 ∷ 34 ∷ text) ≡ 34 ∷ take (prefix_len is_word_byte text) text
first_quote text =
    let more : 1 + prefix_len is_word_byte text ≡ suc (prefix_len is_word_byte text) = omega arith in
    ap (λ (n : ℕ). take n (34 ∷ text)) more

quoted_feeds : (bytes : List ℕ) → HasNoFeed (flat_map quoted_byte bytes)
quoted_feeds [] = tt
quoted_feeds (b ∷ bytes) = no_feed_both (quoted_byte b) (flat_map quoted_byte bytes) (by (is_plain b) refl) (quoted_feeds bytes)
  where
    by : (t : Bool) → is_plain b ≡ t → HasNoFeed (if t then b ∷ [] else codes "\\x" ++ hex_byte b)
    by true e = (plain_no_feed b e, tt)
    by false e = (refl, (refl, (digit_no_feed (b / 16), (digit_no_feed (b % 16), tt))))

pub quoted_reads : (format : Option PlainFormat) (bytes : List ℕ) → may_be_text format ≡ true → AreBytes bytes → ReadsBack format bytes (quoted bytes)
quoted_reads format bytes may h = record {
  feeds = (refl, no_feed_both (flat_map quoted_byte bytes) (34 ∷ []) (quoted_feeds bytes) (refl, tt));
  flags = λ ws. ap (λ (t : List ℕ). same_bytes t (codes "flags")) (first_quote (following ws));
  len = λ ws. ap (λ (t : List ℕ). same_bytes t (codes "length")) (first_quote (following ws));
  brace = λ ws. ap (λ (t : List ℕ). same_bytes t (codes "{")) (first_quote (following ws));
  reads = λ ws. text_value format (spaced (quoted bytes ∷ ws)) (following ws) bytes (spaced ws) refl may
      (ap text_at (append_assoc (flat_map quoted_byte bytes) (34 ∷ []) (spaced ws)) ∙ text_back bytes (spaced ws) h);
}
  where
    following : List (List ℕ) → List ℕ
    following ws = (flat_map quoted_byte bytes ++ (34 ∷ [])) ++ spaced ws
