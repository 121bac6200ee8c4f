-- Addresses that are written, read back.
use Rattle.std.proofs.Common.{◌≡◌, ℕ, zero, suc, ◌+◌, ◌/◌, ◌%◌, ◌^◌, ◌<◌, ◌≤◌, ◌==◌, Bool, true, false, if◌then◌else◌, List, [], ◌∷◌, ◌++◌, length, map, take, drop, Option, Some, None, Ok, codes, refl, sym, ap, subst, ◌∙◌, append_assoc, arith}
use Rattle.std.specs.List.{AllByRecursion, list_all, slice_split, join_with_byte}
use Rattle.std.specs.Char.{is_ascii_digit}
use Rattle.std.specs.Fmt.{decimal}
use Rattle.std.proofs.lemmas.Bool.{and_parts, and_from, and_left, and_right, eqb-true, eq-eqb}
use Rattle.std.proofs.lemmas.Bool.Decides.{nat_tests}
use Rattle.std.proofs.lemmas.Fmt.{digits_decimal, decimal_nonempty}
use Rattle.std.proofs.lemmas.List.{length-map, take_at, drop_at}
use Rattle.std.proofs.lemmas.List.Elements.{All-from_recursion}
use Rattle.std.proofs.lemmas.List.Splits.{slice_split_at, slice_split_none}
use Rattle.byteorder.specs.Endian.{big_bytes}
use Rattle.dia_terms.specs.Names.{same_bytes}
use Rattle.dia_terms.specs.Number.{number}
use Rattle.dia_data.specs.Plain.{Address}
use Rattle.dia_data.specs.Leaf.{IsAddress}
use Rattle.dia_data.specs.Shown.{hex_digit, hex_byte, hexadecimal, groups, address}
use Rattle.dia_text.specs.Words.{first_word, after_word}
use Rattle.dia_text.specs.Numbers.{number_below, if_decoded}
use Rattle.dia_text.specs.Fields.{bytes_of}
use Rattle.dia_text.specs.Values.{each, decimal_byte, byte_pair, in_family, address_of, family_at, value_of, words_at, value_at}
use Rattle.dia_text.specs.LineTexts.{spaced}
use Rattle.dia_text.proofs.NumbersOfWords.{digits_model}
use Rattle.dia_text.proofs.Bytes.{AreBytes, bytes_split, number_back as bytes_of_number, number_small}
use Rattle.dia_text.proofs.HexBack.{pairs_back, bytes_back}
use Rattle.dia_text.proofs.FieldsBack.{keyword, number_back}
use Rattle.dia_text.proofs.WordsBack.{is_sign, IsWord, next_is, after_next, decimal_word, hexadecimal_word, no_feed_word, no_feed_both, signs_append}
use Rattle.dia_text.proofs.ValueWords.{ReadsBack, IsValue, from_word, no_quote, value_of_words}

-- ---- parts with a byte between them

-- the byte doesn't stand in the text
abbrev Lacks : ℕ → List ℕ → Type 0
Lacks byte text = AllByRecursion (λ (c : ℕ). (c == byte) ≡ false) text

same_byte : (byte : ℕ) → (byte == byte) ≡ true
same_byte byte = eq-eqb byte byte refl

split_joined : (byte : ℕ) (p : List ℕ) (ps : List (List ℕ)) → AllByRecursion (Lacks byte) (p ∷ ps) → slice_split (λ c. c == byte) (join_with_byte byte (p ∷ ps)) ≡ p ∷ ps
split_joined byte p [] (h, more) = slice_split_none (λ (c : ℕ). c == byte) p (All-from_recursion (λ (c : ℕ). (c == byte) ≡ false) p h)
split_joined byte p (q ∷ ps) (h, more) =
    slice_split_at (λ (c : ℕ). c == byte) p byte (join_with_byte byte (q ∷ ps)) (All-from_recursion (λ (c : ℕ). (c == byte) ≡ false) p h) (same_byte byte)
    ∙ ap (λ (ts : List (List ℕ)). p ∷ ts) (split_joined byte q ps more)

lacks_both : (byte : ℕ) (a b : List ℕ) → Lacks byte a → Lacks byte b → Lacks byte (a ++ b)
lacks_both byte [] b h k = k
lacks_both byte (c ∷ a) b (first, h) k = (first, lacks_both byte a b h k)

lacks_joined : (byte other : ℕ) (ps : List (List ℕ)) → (byte == other) ≡ false → AllByRecursion (Lacks other) ps → Lacks other (join_with_byte byte ps)
lacks_joined byte other [] apart all = tt
lacks_joined byte other (p ∷ []) apart (h, all) = h
lacks_joined byte other (p ∷ q ∷ ps) apart (h, all) = lacks_both other p (byte ∷ join_with_byte byte (q ∷ ps)) h (apart, lacks_joined byte other (q ∷ ps) apart all)

signs_joined : (byte : ℕ) (ps : List (List ℕ)) → is_sign byte ≡ true → AllByRecursion (λ (p : List ℕ). list_all is_sign p ≡ true) ps → list_all is_sign (join_with_byte byte ps) ≡ true
signs_joined byte [] sign all = refl
signs_joined byte (p ∷ []) sign (h, all) = h
signs_joined byte (p ∷ q ∷ ps) sign (h, all) = signs_append p (byte ∷ join_with_byte byte (q ∷ ps)) h (and_from _ _ sign (signs_joined byte (q ∷ ps) sign all))

-- ---- IPv4

digit_other : (c byte : ℕ) → is_ascii_digit c ≡ true → byte ≤ 47 → (c == byte) ≡ false
digit_other c byte digit low = grind (arith, nat_tests)

digit_above : (c byte : ℕ) → is_ascii_digit c ≡ true → 58 ≤ byte → (c == byte) ≡ false
digit_above c byte digit high = grind (arith, nat_tests)

digits_lack : (byte : ℕ) (ds : List ℕ) → byte ≤ 47 → list_all is_ascii_digit ds ≡ true → Lacks byte ds
digits_lack byte [] low all = tt
digits_lack byte (c ∷ ds) low all = let parts = and_parts (is_ascii_digit c) (list_all is_ascii_digit ds) all in (digit_other c byte parts.0 low, digits_lack byte ds low parts.1)

numbers_lack : (bytes : List ℕ) → AreBytes bytes → AllByRecursion (Lacks 46) (map decimal bytes)
numbers_lack [] h = tt
numbers_lack (b ∷ bytes) (small, h) = (digits_lack 46 (decimal b) (omega arith) (digits_decimal digits_model b (omega (arith, small))), numbers_lack bytes h)

numbers_signs : (bytes : List ℕ) → AreBytes bytes → AllByRecursion (λ (p : List ℕ). list_all is_sign p ≡ true) (map decimal bytes)
numbers_signs [] h = tt
numbers_signs (b ∷ bytes) (small, h) = ((decimal_word b (omega (arith, small))).signs, numbers_signs bytes h)

numbers_back : (bytes : List ℕ) → AreBytes bytes → each decimal_byte (map decimal bytes) ≡ Some bytes
numbers_back [] h = refl
numbers_back (b ∷ bytes) (small, h) = rw (number_back 256 b small (omega (arith, small)), numbers_back bytes h) refl

-- the first of joined parts stands in front
joined_first : (byte : ℕ) (p : List ℕ) (ps : List (List ℕ)) → (more : List ℕ) × (join_with_byte byte (p ∷ ps) ≡ p ++ more)
joined_first byte p [] = ([], nothing p)
  where
    nothing : (t : List ℕ) → t ≡ t ++ []
    nothing [] = refl
    nothing (c ∷ t) = ap (λ (s : List ℕ). c ∷ s) (nothing t)
joined_first byte p (q ∷ ps) = (byte ∷ join_with_byte byte (q ∷ ps), refl)

-- a word that begins with a digit
record IsDigital (w : List ℕ) : Type 0 where
  pub first : ℕ
  pub rest : List ℕ
  pub is : w ≡ first ∷ rest
  pub digit : is_ascii_digit first ≡ true

digital : (ds more w : List ℕ) → w ≡ ds ++ more → 0 < length ds → list_all is_ascii_digit ds ≡ true → IsDigital w
digital [] more w is some all = absurd (omega (arith, some))
digital (c ∷ ds) more w is some all = record { first = c; rest = ds ++ more; is = is; digit = (and_parts (is_ascii_digit c) (list_all is_ascii_digit ds) all).0 }

abbrev address_by : List (List ℕ) → List (List ℕ) → Option (List ℕ)
address_by numbers pairs =
    if length numbers == 4 then in_family 1 (each decimal_byte numbers)
    else if length pairs == 8 then in_family 2 (each byte_pair pairs)
    else None

word_value : (c : ℕ) (w bytes : List ℕ) → (c == 120) ≡ false → address_of (c ∷ w) ≡ Some bytes → value_of (Some Address) (c ∷ w) ≡ Ok bytes
word_value c w bytes other is = rw (other, is) refl

digital_value : (bytes w : List ℕ) → IsDigital w → list_all is_sign w ≡ true → address_of w ≡ Some bytes → IsValue (Some Address) bytes w
digital_value bytes w d signs is =
    subst (IsValue (Some Address) bytes) (sym d.is)
    (record {
      word = record { some = omega arith; signs = subst (λ (t : List ℕ). list_all is_sign t ≡ true) d.is signs };
      flags = and_left _ _ (digit_above d.first 102 d.digit (omega arith));
      len = and_left _ _ (digit_above d.first 108 d.digit (omega arith));
      brace = and_left _ _ (digit_above d.first 123 d.digit (omega arith));
      family = and_left _ _ (digit_above d.first 102 d.digit (omega arith));
      reads = word_value d.first d.rest bytes (digit_above d.first 120 d.digit (omega arith)) (subst (λ (t : List ℕ). address_of t ≡ Some bytes) d.is is);
    })

ipv4_reads : (rest : List ℕ) → length rest ≡ 4 → AreBytes rest → ReadsBack (Some Address) (0 ∷ 1 ∷ rest) (join_with_byte 46 (map decimal rest))
ipv4_reads [] four h = absurd (omega (arith, four))
ipv4_reads (b ∷ bytes) four (small, h) =
    let rest : List ℕ = b ∷ bytes in
    let w : List ℕ = join_with_byte 46 (map decimal rest) in
    let fits : b < 2 ^ 64 = omega (arith, small) in
    let (more, is) = joined_first 46 (decimal b) (map decimal bytes) in
    let parts : slice_split (λ (c : ℕ). c == 46) w ≡ map decimal rest = split_joined 46 (decimal b) (map decimal bytes) (numbers_lack rest (small, h)) in
    let count : (length (map decimal rest) == 4) ≡ true = ap (λ (n : ℕ). n == 4) (length-map rest decimal ∙ four) in
    let found : address_of w ≡ Some (0 ∷ 1 ∷ rest) =
    ap (λ (ps : List (List ℕ)). address_by ps (slice_split (λ (c : ℕ). c == 58) w)) parts ∙ rw (count, numbers_back rest (small, h)) refl in
    from_word (Some Address) (0 ∷ 1 ∷ rest) w
    (digital_value (0 ∷ 1 ∷ rest) w (digital (decimal b) more w is (decimal_nonempty b fits) (digits_decimal digits_model b fits)) (signs_joined 46 (map decimal rest) refl (numbers_signs rest (small, h))) found)

-- ---- IPv6

hex_lacks_dot : (n : ℕ) → (hex_digit n == 46) ≡ false
hex_lacks_dot n = grind (arith, nat_tests)

hex_lacks_colon : (n : ℕ) → (hex_digit n == 58) ≡ false
hex_lacks_colon n = grind (arith, nat_tests)

hex_sign : (n : ℕ) → n < 16 → is_sign (hex_digit n) ≡ true
hex_sign n small = grind (arith, nat_tests)

-- of these letters none is a digit of a byte
hex_other : (n c : ℕ) → n < 16 → 103 ≤ c → (hex_digit n == c) ≡ false
hex_other n c small high = grind (arith, nat_tests)

groups_lack_dot : (bytes : List ℕ) → AllByRecursion (Lacks 46) (groups bytes)
groups_lack_dot [] = tt
groups_lack_dot (a ∷ []) = tt
groups_lack_dot (a ∷ b ∷ bytes) = ((hex_lacks_dot (a / 16), (hex_lacks_dot (a % 16), (hex_lacks_dot (b / 16), (hex_lacks_dot (b % 16), tt)))), groups_lack_dot bytes)

groups_lack_colon : (bytes : List ℕ) → AllByRecursion (Lacks 58) (groups bytes)
groups_lack_colon [] = tt
groups_lack_colon (a ∷ []) = tt
groups_lack_colon (a ∷ b ∷ bytes) = ((hex_lacks_colon (a / 16), (hex_lacks_colon (a % 16), (hex_lacks_colon (b / 16), (hex_lacks_colon (b % 16), tt)))), groups_lack_colon bytes)

groups_signs : (bytes : List ℕ) → AreBytes bytes → AllByRecursion (λ (p : List ℕ). list_all is_sign p ≡ true) (groups bytes)
groups_signs [] h = tt
groups_signs (a ∷ []) h = tt
groups_signs (a ∷ b ∷ bytes) (small, (small', h)) = (
  and_from _ _ (hex_sign (a / 16) (omega (arith, small))) (and_from _ _ (hex_sign (a % 16) (omega arith))
      (and_from _ _ (hex_sign (b / 16) (omega (arith, small'))) (and_from _ _ (hex_sign (b % 16) (omega arith)) refl))),
  groups_signs bytes h,
)

pair_back : (a b : ℕ) → a < 256 → b < 256 → byte_pair (hex_byte a ++ hex_byte b) ≡ Some (a ∷ b ∷ [])
pair_back a b h k = ap if_decoded (pairs_back 0 (a ∷ b ∷ []) (h, (k, tt)))

groups_back : (n : ℕ) (bytes : List ℕ) → length bytes ≡ n + n → AreBytes bytes → (length (groups bytes) ≡ n) × (each byte_pair (groups bytes) ≡ Some bytes)
groups_back zero [] width h = (refl, refl)
groups_back zero (a ∷ bytes) width h = absurd (omega (arith, width))
groups_back (suc n) [] width h = absurd (omega (arith, width))
groups_back (suc n) (a ∷ []) width h = absurd (omega (arith, width))
groups_back (suc n) (a ∷ b ∷ bytes) width (small, (small', h)) =
    let r = groups_back n bytes (omega (arith, width)) h in
    (omega (arith, r.0), rw (pair_back a b small small', r.1) refl)

hex_value : (a b : ℕ) (bytes more : List ℕ) → a < 256 → b < 256 → list_all is_sign ((hex_byte a ++ hex_byte b) ++ more) ≡ true → address_of ((hex_byte a ++ hex_byte b) ++ more) ≡ Some bytes
    → IsValue (Some Address) bytes ((hex_byte a ++ hex_byte b) ++ more)
hex_value a b bytes more small small' signs is =
    let high : a / 16 < 16 = omega (arith, small) in
    let low : a % 16 < 16 = omega arith in
    let high' : b / 16 < 16 = omega (arith, small') in
    record {
      word = record { some = omega arith; signs = signs };
      flags = and_right _ _ (and_left _ _ (hex_other (a % 16) 108 low (omega arith)));
      len = and_left _ _ (hex_other (a / 16) 108 high (omega arith));
      brace = and_left _ _ (hex_other (a / 16) 123 high (omega arith));
      family = and_right _ _ (and_right _ _ (and_left _ _ (hex_other (b / 16) 109 high' (omega arith))));
      reads = word_value (hex_digit (a / 16)) (hex_digit (a % 16) ∷ hex_digit (b / 16) ∷ hex_digit (b % 16) ∷ more) bytes (hex_other (a / 16) 120 high (omega arith)) is;
    }

ipv6_reads : (rest : List ℕ) → length rest ≡ 16 → AreBytes rest → ReadsBack (Some Address) (0 ∷ 2 ∷ rest) (join_with_byte 58 (groups rest))
ipv6_reads [] sixteen h = absurd (omega (arith, sixteen))
ipv6_reads (a ∷ []) sixteen h = absurd (omega (arith, sixteen))
ipv6_reads (a ∷ b ∷ bytes) sixteen (small, (small', h)) =
    let rest : List ℕ = a ∷ b ∷ bytes in
    let w : List ℕ = join_with_byte 58 (groups rest) in
    let (more, is) = joined_first 58 (hex_byte a ++ hex_byte b) (groups bytes) in
    let back = groups_back 8 rest (omega (arith, sixteen)) (small, (small', h)) in
    let one : slice_split (λ (c : ℕ). c == 46) w ≡ w ∷ [] =
    slice_split_none (λ (c : ℕ). c == 46) w (All-from_recursion (λ (c : ℕ). (c == 46) ≡ false) w (lacks_joined 58 46 (groups rest) refl (groups_lack_dot rest))) in
    let parts : slice_split (λ (c : ℕ). c == 58) w ≡ groups rest = split_joined 58 (hex_byte a ++ hex_byte b) (groups bytes) (groups_lack_colon rest) in
    let count : (length (groups rest) == 8) ≡ true = ap (λ (n : ℕ). n == 8) back.0 in
    let found : address_of w ≡ Some (0 ∷ 2 ∷ rest) =
    ap (λ (ps : List (List ℕ)). address_by ps (slice_split (λ (c : ℕ). c == 58) w)) one
    ∙ ap (λ (ps : List (List ℕ)). if length ps == 8 then in_family 2 (each byte_pair ps) else None) parts ∙ rw (count, back.1) refl in
    from_word (Some Address) (0 ∷ 2 ∷ rest) w
    (subst (IsValue (Some Address) (0 ∷ 2 ∷ rest)) (sym is)
    (hex_value a b (0 ∷ 2 ∷ rest) more small small' (subst (λ (t : List ℕ). list_all is_sign t ≡ true) is (signs_joined 58 (groups rest) refl (groups_signs rest (small, (small', h)))))
    (subst (λ (t : List ℕ). address_of t ≡ Some (0 ∷ 2 ∷ rest)) is found)))

-- ---- other families

abbrev family_text : ℕ → List ℕ → List ℕ
family_text family rest = codes "family " ++ decimal family ++ codes " " ++ hexadecimal rest

joined : (k n b h s : List ℕ) → (((k ++ n) ++ b) ++ h) ++ s ≡ k ++ (n ++ (b ++ (h ++ s)))
joined k n b h s = simp append_assoc

family_words : (family : ℕ) (rest : List ℕ) (ws : List (List ℕ)) → spaced (family_text family rest ∷ ws) ≡ spaced (codes "family" ∷ decimal family ∷ hexadecimal rest ∷ ws)
family_words family rest ws = ap (λ (t : List ℕ). 32 ∷ t) (joined (codes "family ") (decimal family) (codes " ") (hexadecimal rest) (spaced ws))

family_read : (text more following word bytes number after : List ℕ) (n : ℕ) → first_word text ≡ codes "family" → after_word text ≡ more → first_word more ≡ number → number_below (2 ^ 16) number ≡ Some n
    → after_word more ≡ following → first_word following ≡ word → bytes_of word ≡ Ok bytes → after_word following ≡ after → words_at (Some Address) text ≡ Ok (big_bytes 2 n ++ bytes, after)
unfolding words_at family_at
family_read text more following word bytes number after n f b m is e g v a = rw (f, b, m, is, e, g, v, a) refl

is_family : IsWord (codes "family")
is_family = keyword (codes "family") (omega arith) refl

family_reads : (family : ℕ) (rest : List ℕ) → family < 2 ^ 16 → AreBytes rest → ReadsBack (Some Address) (big_bytes 2 family ++ rest) (family_text family rest)
family_reads family rest small h =
    let fits : family < 2 ^ 64 = omega (arith, small) in
    let first : (ws : List (List ℕ)) → first_word (spaced (family_text family rest ∷ ws)) ≡ codes "family" =
    λ ws. ap first_word (family_words family rest ws) ∙ next_is (codes "family") (decimal family ∷ hexadecimal rest ∷ ws) is_family in
    record {
      feeds = no_feed_both (codes "family " ++ decimal family ++ codes " ") (hexadecimal rest)
          (no_feed_both (codes "family " ++ decimal family) (codes " ")
          (no_feed_both (codes "family ") (decimal family) (refl, (refl, (refl, (refl, (refl, (refl, (refl, tt))))))) (no_feed_word (decimal family) (decimal_word family fits).signs)) (refl, tt))
          (no_feed_word (hexadecimal rest) (hexadecimal_word rest h).signs);
      flags = λ ws. ap (λ (t : List ℕ). same_bytes t (codes "flags")) (first ws);
      len = λ ws. ap (λ (t : List ℕ). same_bytes t (codes "length")) (first ws);
      brace = λ ws. ap (λ (t : List ℕ). same_bytes t (codes "{")) (first ws);
      reads = λ ws.
          let digits = hexadecimal rest ∷ ws in
          ap (value_at (Some Address)) (family_words family rest ws)
          ∙ value_of_words (Some Address) (spaced (codes "family" ∷ decimal family ∷ digits)) (no_quote (codes "family") (decimal family ∷ digits) is_family)
          ∙ family_read (spaced (codes "family" ∷ decimal family ∷ digits)) (spaced (decimal family ∷ digits)) (spaced digits) (hexadecimal rest) rest (decimal family) (spaced ws) family
          (next_is (codes "family") (decimal family ∷ digits) is_family) (after_next (codes "family") (decimal family ∷ digits) is_family)
          (next_is (decimal family) digits (decimal_word family fits)) (number_back (2 ^ 16) family small fits) (after_next (decimal family) digits (decimal_word family fits))
          (next_is (hexadecimal rest) ws (hexadecimal_word rest h)) (bytes_back rest h) (after_next (hexadecimal rest) ws (hexadecimal_word rest h));
    }

-- ---- by the family

abbrev shown : ℕ → List ℕ → List ℕ
shown family rest =
    if family == 1 then join_with_byte 46 (map decimal rest)
    else (if family == 2 then join_with_byte 58 (groups rest)
    else family_text family rest)

by_family : (family : ℕ) (rest : List ℕ) → family < 2 ^ 16 → AreBytes rest → (family ≡ 1 → length rest ≡ 4) → (family ≡ 2 → length rest ≡ 16)
    → ReadsBack (Some Address) (big_bytes 2 family ++ rest) (shown family rest)
by_family family rest small h four sixteen = by (family == 1) (family == 2) refl refl
  where
    by : (a b : Bool) → (family == 1) ≡ a → (family == 2) ≡ b
        → ReadsBack (Some Address) (big_bytes 2 family ++ rest) (if a then join_with_byte 46 (map decimal rest) else (if b then join_with_byte 58 (groups rest) else family_text family rest))
    by true b e f =
        let one = eqb-true family 1 e in
        subst (λ (n : ℕ). ReadsBack (Some Address) (big_bytes 2 n ++ rest) (join_with_byte 46 (map decimal rest))) (sym one) (ipv4_reads rest (four one) h)
    by false true e f =
        let two = eqb-true family 2 f in
        subst (λ (n : ℕ). ReadsBack (Some Address) (big_bytes 2 n ++ rest) (join_with_byte 58 (groups rest))) (sym two) (ipv6_reads rest (sixteen two) h)
    by false false e f = family_reads family rest small h

pub address_reads : (bytes : List ℕ) → IsAddress bytes → AreBytes bytes → ReadsBack (Some Address) bytes (address bytes)
address_reads bytes a h =
    let (front, following) = bytes_split a.family a.rest (subst AreBytes a.parts h) in
    let first : take 2 bytes ≡ a.family = ap (take 2) a.parts ∙ take_at a.family a.rest 2 a.width in
    let rest : drop 2 bytes ≡ a.rest = ap (drop 2) a.parts ∙ drop_at a.family a.rest 2 a.width in
    let is_shown : address bytes ≡ shown (number a.family) a.rest = ap (λ (t : List ℕ). shown (number t) (drop 2 bytes)) first ∙ ap (shown (number a.family)) rest in
    let is : big_bytes 2 (number a.family) ++ a.rest ≡ bytes = ap (λ (t : List ℕ). t ++ a.rest) (bytes_of_number 2 a.family a.width front) ∙ sym a.parts in
    subst (λ (b : List ℕ). ReadsBack (Some Address) b (address bytes)) is
    (subst (ReadsBack (Some Address) (big_bytes 2 (number a.family) ++ a.rest)) (sym is_shown)
    (by_family (number a.family) a.rest (omega (arith, number_small 2 a.family a.width front)) following a.ipv4 a.ipv6))
