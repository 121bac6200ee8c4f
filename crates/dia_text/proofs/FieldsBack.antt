-- The parts of a line that are written behind its first word, read back.
use Rattle.std.proofs.Common.{◌≡◌, ℕ, ◌^◌, ◌<◌, nat_eq, Bool, true, false, if◌then◌else◌, List, [], ◌∷◌, ◌++◌, length, Option, Some, None, Ok, codes, option_and_then, refl, sym, ap, ◌∙◌, arith}
use Rattle.std.specs.Option.{option_eq, option_or}
use Rattle.std.specs.List.{list_all}
use Rattle.std.specs.Str.Parse.{digits_value}
use Rattle.std.specs.Fmt.{decimal}
use Rattle.std.proofs.lemmas.Bool.{eqb-true, lt-ltb, and_right, true≢false}
use Rattle.std.proofs.lemmas.Fmt.{digits_decimal, digits_value-decimal, decimal_nonempty}
use Rattle.dia_terms.specs.Names.{same_bytes}
use Rattle.dia_wire.specs.Written.{padding}
use Rattle.dia_data.specs.Shown.{hex_byte, hexadecimal}
use Rattle.dia_text.specs.declared.fault.Wanted.{Wanted}
use Rattle.dia_text.specs.Words.{first_word, after_word}
use Rattle.dia_text.specs.Numbers.{number_of, number_below, any_number, any_below, prefixed, within}
use Rattle.dia_text.specs.Fields.{flags_of, flags_field, number_field, length_field, padding_field, bytes_of}
use Rattle.dia_text.specs.LineTexts.{spaced, flags_words, app_words, pad_words}
use Rattle.dia_text.proofs.NumbersOfWords.{digits_model}
use Rattle.dia_text.proofs.Bytes.{AreBytes}
use Rattle.dia_text.proofs.HexBack.{hex_byte_back, bytes_back}
use Rattle.dia_text.proofs.WordsBack.{is_sign, IsWord, AreWords, HaveNoFeeds, no_feed_words, next_is, after_next, decimal_word, hex_byte_word, hexadecimal_word}

pub keyword : (w : List ℕ) → 0 < length w → list_all is_sign w ≡ true → IsWord w
keyword w some signs = record { some = some; signs = signs }

-- ---- numbers

pub number_of_back : (n : ℕ) → n < 2 ^ 64 → number_of (decimal n) ≡ Some n
number_of_back n fits =
    let value = digits_value-decimal digits_model n fits in
    let small : digits_value 10 (decimal n) < 2 ^ 64 = omega (arith, value, fits) in
    rw (
      lt-ltb 0 (length (decimal n)) (decimal_nonempty n fits),
      digits_decimal digits_model n fits,
      lt-ltb (digits_value 10 (decimal n)) (2 ^ 64) small,
      value,
    ) refl

pub number_back : (limit n : ℕ) → n < limit → n < 2 ^ 64 → number_below limit (decimal n) ≡ Some n
number_back limit n less fits = ap (option_and_then (within limit)) (number_of_back n fits) ∙ rw (lt-ltb n limit less) refl

pub any_back : (limit n : ℕ) → n < limit → n < 2 ^ 64 → any_below limit (decimal n) ≡ Some n
any_back limit n less fits = ap (λ (o : Option ℕ). option_and_then (within limit) (option_or o (prefixed (decimal n)))) (number_of_back n fits) ∙ rw (lt-ltb n limit less) refl

pub any_number_back : (n : ℕ) → n < 2 ^ 64 → any_number (decimal n) ≡ Some n
any_number_back n fits = ap (λ (o : Option ℕ). option_or o (prefixed (decimal n))) (number_of_back n fits)

-- ---- what a field says

flags_there : (letters : List (ℕ × ℕ)) (wrong : Wanted) (default : Option ℕ) (wanted : Wanted) (text more word rest : List ℕ) (n : ℕ) → first_word text ≡ codes "flags" → after_word text ≡ more → first_word more ≡ word → after_word more ≡ rest
    → flags_of letters word ≡ Some n → flags_field letters wrong default wanted text ≡ Ok (n, rest)
unfolding flags_field
flags_there letters wrong default wanted text more word rest n k b f e value = rw (k, b, f, e, value) refl

flags_not_there : (letters : List (ℕ × ℕ)) (wrong wanted : Wanted) (n : ℕ) (text : List ℕ) → same_bytes (first_word text) (codes "flags") ≡ false → flags_field letters wrong (Some n) wanted text ≡ Ok (n, text)
unfolding flags_field
flags_not_there letters wrong wanted n text other = rw other refl

number_there : (key : List ℕ) (default : Option ℕ) (wanted : Wanted) (text more word rest : List ℕ) (n : ℕ) → same_bytes (first_word text) key ≡ true → after_word text ≡ more → first_word more ≡ word → after_word more ≡ rest
    → any_below (2 ^ 32) word ≡ Some n → number_field key default wanted text ≡ Ok (n, rest)
unfolding number_field
number_there key default wanted text more word rest n k b f e value = rw (k, b, f, e, value) refl

number_not_there : (key : List ℕ) (wanted : Wanted) (n : ℕ) (text : List ℕ) → same_bytes (first_word text) key ≡ false → number_field key (Some n) wanted text ≡ Ok (n, text)
unfolding number_field
number_not_there key wanted n text other = rw other refl

pub length_not_there : (text : List ℕ) → same_bytes (first_word text) (codes "length") ≡ false → length_field text ≡ Ok (None, text)
unfolding length_field
length_not_there text other = rw other refl

padding_there : (text more word rest bytes : List ℕ) → first_word text ≡ codes "pad" → after_word text ≡ more → first_word more ≡ word → after_word more ≡ rest
    → bytes_of word ≡ Ok bytes → padding_field text ≡ Ok (Some bytes, rest)
unfolding padding_field
padding_there text more word rest bytes k b f e value = rw (k, b, f, e, value) refl

-- ---- fields that are left out where they say the default

option_same : (o : Option ℕ) (n : ℕ) → option_eq nat_eq o (Some n) ≡ true → o ≡ Some n
option_same None n e = absurd (true≢false (sym e))
option_same (Some m) n e = ap Some (eqb-true m n e)

flags_value : (letters : List (ℕ × ℕ)) (flags : ℕ) → flags < 256 → flags_of letters (hex_byte flags) ≡ Some flags
flags_value letters flags small =
    let other : same_bytes (hex_byte flags) (codes "-") ≡ false = and_right _ _ refl in
    rw (other, hex_byte_back flags small) refl

pub flags_back : (letters : List (ℕ × ℕ)) (wrong wanted : Wanted) (default : Option ℕ) (flags : ℕ) (ws : List (List ℕ)) → flags < 256 → same_bytes (first_word (spaced ws)) (codes "flags") ≡ false
    → flags_field letters wrong default wanted (spaced (flags_words default flags ++ ws)) ≡ Ok (flags, spaced ws)
flags_back letters wrong wanted default flags ws small other = by (option_eq nat_eq default (Some flags)) refl
  where
    by : (b : Bool) → option_eq nat_eq default (Some flags) ≡ b
        → flags_field letters wrong default wanted (spaced ((if b then [] else (codes "flags" ∷ hex_byte flags ∷ [])) ++ ws)) ≡ Ok (flags, spaced ws)
    by true e = ap (λ (o : Option ℕ). flags_field letters wrong o wanted (spaced ws)) (option_same default flags e) ∙ flags_not_there letters wrong wanted flags (spaced ws) other
    by false e =
        flags_there letters wrong default wanted (spaced (codes "flags" ∷ hex_byte flags ∷ ws)) (spaced (hex_byte flags ∷ ws)) (hex_byte flags) (spaced ws) flags
        (next_is (codes "flags") (hex_byte flags ∷ ws) (keyword (codes "flags") (omega arith) refl)) (after_next (codes "flags") (hex_byte flags ∷ ws) (keyword (codes "flags") (omega arith) refl))
        (next_is (hex_byte flags) ws (hex_byte_word flags small)) (after_next (hex_byte flags) ws (hex_byte_word flags small)) (flags_value letters flags small)

pub number_written : (key : List ℕ) (wanted : Wanted) (default : Option ℕ) (n : ℕ) (ws : List (List ℕ)) → n < 2 ^ 32 → IsWord key → same_bytes key key ≡ true
    → number_field key default wanted (spaced (key ∷ decimal n ∷ ws)) ≡ Ok (n, spaced ws)
number_written key wanted default n ws small word same =
    let fits : n < 2 ^ 64 = omega (arith, small) in
    number_there key default wanted (spaced (key ∷ decimal n ∷ ws)) (spaced (decimal n ∷ ws)) (decimal n) (spaced ws) n
    (ap (λ (w : List ℕ). same_bytes w key) (next_is key (decimal n ∷ ws) word) ∙ same) (after_next key (decimal n ∷ ws) word)
    (next_is (decimal n) ws (decimal_word n fits)) (after_next (decimal n) ws (decimal_word n fits)) (any_back (2 ^ 32) n small fits)

pub app_back : (wanted : Wanted) (default : Option ℕ) (n : ℕ) (ws : List (List ℕ)) → n < 2 ^ 32 → same_bytes (first_word (spaced ws)) (codes "app") ≡ false
    → number_field (codes "app") default wanted (spaced (app_words default n ++ ws)) ≡ Ok (n, spaced ws)
app_back wanted default n ws small other = by (option_eq nat_eq default (Some n)) refl
  where
    by : (b : Bool) → option_eq nat_eq default (Some n) ≡ b
        → number_field (codes "app") default wanted (spaced ((if b then [] else (codes "app" ∷ decimal n ∷ [])) ++ ws)) ≡ Ok (n, spaced ws)
    by true e = ap (λ (o : Option ℕ). number_field (codes "app") o wanted (spaced ws)) (option_same default n e) ∙ number_not_there (codes "app") wanted n (spaced ws) other
    by false e = number_written (codes "app") wanted default n ws small (keyword (codes "app") (omega arith) refl) refl

-- the padding that a line says
abbrev pub said_pad : ℕ → List ℕ → Option (List ℕ)
said_pad len pad = if same_bytes pad (padding len) then None else Some pad

no_padding : padding_field [] ≡ Ok (None, [])
unfolding padding_field
no_padding = refl

pub padding_back : (len : ℕ) (pad : List ℕ) → AreBytes pad → padding_field (spaced (pad_words len pad)) ≡ Ok (said_pad len pad, [])
padding_back len pad bytes = by (same_bytes pad (padding len))
  where
    by : (b : Bool) → padding_field (spaced (if b then [] else (codes "pad" ∷ hexadecimal pad ∷ []))) ≡ Ok (if b then None else Some pad, [])
    by true = no_padding
    by false =
        padding_there (spaced (codes "pad" ∷ hexadecimal pad ∷ [])) (spaced (hexadecimal pad ∷ [])) (hexadecimal pad) [] pad
        (next_is (codes "pad") (hexadecimal pad ∷ []) (keyword (codes "pad") (omega arith) refl)) (after_next (codes "pad") (hexadecimal pad ∷ []) (keyword (codes "pad") (omega arith) refl))
        (next_is (hexadecimal pad) [] (hexadecimal_word pad bytes)) (after_next (hexadecimal pad) [] (hexadecimal_word pad bytes)) (bytes_back pad bytes)

-- ---- they are words

pub flags_are_words : (default : Option ℕ) (flags : ℕ) (ws : List (List ℕ)) → flags < 256 → AreWords ws → AreWords (flags_words default flags ++ ws)
flags_are_words default flags ws small all = by (option_eq nat_eq default (Some flags))
  where
    by : (b : Bool) → AreWords ((if b then [] else (codes "flags" ∷ hex_byte flags ∷ [])) ++ ws)
    by true = all
    by false = (keyword (codes "flags") (omega arith) refl, (hex_byte_word flags small, all))

pub flags_have_no_feeds : (default : Option ℕ) (flags : ℕ) → flags < 256 → HaveNoFeeds (flags_words default flags)
flags_have_no_feeds default flags small = by (option_eq nat_eq default (Some flags))
  where
    by : (b : Bool) → HaveNoFeeds (if b then [] else (codes "flags" ∷ hex_byte flags ∷ []))
    by true = tt
    by false = no_feed_words (codes "flags" ∷ hex_byte flags ∷ []) (keyword (codes "flags") (omega arith) refl, (hex_byte_word flags small, tt))

pub app_are_words : (default : Option ℕ) (n : ℕ) (ws : List (List ℕ)) → n < 2 ^ 32 → AreWords ws → AreWords (app_words default n ++ ws)
app_are_words default n ws small all = by (option_eq nat_eq default (Some n))
  where
    by : (b : Bool) → AreWords ((if b then [] else (codes "app" ∷ decimal n ∷ [])) ++ ws)
    by true = all
    by false = (keyword (codes "app") (omega arith) refl, (decimal_word n (omega (arith, small)), all))

pub pad_are_words : (len : ℕ) (pad : List ℕ) → AreBytes pad → AreWords (pad_words len pad)
pad_are_words len pad bytes = by (same_bytes pad (padding len))
  where
    by : (b : Bool) → AreWords (if b then [] else (codes "pad" ∷ hexadecimal pad ∷ []))
    by true = tt
    by false = (keyword (codes "pad") (omega arith) refl, (hexadecimal_word pad bytes, tt))
