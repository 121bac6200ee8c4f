-- Digits that are taken together.
use Rattle.std.proofs.Common.{◌≡◌, ℕ, ◌+◌, ◌*◌, ◌%◌, ◌==◌, ◌<◌, Bool, true, false, List, [], ◌∷◌, ◌++◌, length, take, drop, get_or, Option, None, Some, Result, Ok, Err, refl, sym, ap, subst, ◌∙◌, append_assoc}
use Rattle.std.specs.Prelude.{if◌then◌else◌, IfOk}
use Rattle.std.proofs.lemmas.List.{append-nil, take_more, take-append-drop}
use Rattle.hex.specs.declared.error.FromHexError.{FromHexError}
use Rattle.hex.specs.declared.error.FromHexError.TheVariants.{OddLength}
use Rattle.hex.specs.Hex.{decode_of, decode_pairs, digit_or_error, hex_digit_value, ◌>>=◌}
use Rattle.dia_streams.specs.Streams.{AreSpelled, digits_of}
use Rattle.dia_streams.specs.StreamUnderWay.{Takes}
use Rattle.dia_streams.proofs.DigitsTaken.{no_white, spelled_both, Takes-both, Takes-stopped}

-- a pair before what is decoded
abbrev with_pair : (high low i : ℕ) → Option ℕ → Option ℕ → Result (List ℕ) FromHexError → Result (List ℕ) FromHexError
with_pair high low i x y r = (digit_or_error high i x >>= (λ p. digit_or_error low (i + 1) y >>= (λ q. Ok (p * 16 + q)))) >>= (λ byte. r >>= (λ bytes. Ok (byte ∷ bytes)))

-- what is decoded is spelled
decoded_spelled : (i : ℕ) (s b : List ℕ) → decode_pairs i s ≡ Ok b → AreSpelled s b
unfolding decode_pairs
decoded_spelled i [] [] h = tt
decoded_spelled i [] (byte ∷ b) h = cc
decoded_spelled i (c ∷ []) b h = cc
decoded_spelled i (high ∷ low ∷ s) b h = by (hex_digit_value high) (hex_digit_value low) (decode_pairs (i + 2) s) refl refl refl (decoded_spelled (i + 2) s) h
  where
    by : (x y : Option ℕ) (r : Result (List ℕ) FromHexError) → hex_digit_value high ≡ x → hex_digit_value low ≡ y → decode_pairs (i + 2) s ≡ r
        → ((bytes : List ℕ) → decode_pairs (i + 2) s ≡ Ok bytes → AreSpelled s bytes) → with_pair high low i x y r ≡ Ok b → AreSpelled (high ∷ low ∷ s) b
    by None y r is_x is_y is_r others is = cc
    by (Some p) None r is_x is_y is_r others is = cc
    by (Some p) (Some q) (Err e) is_x is_y is_r others is = cc
    by (Some p) (Some q) (Ok bytes) is_x is_y is_r others is =
        let same : (p * 16 + q) ∷ bytes ≡ b = cc in
        subst (AreSpelled (high ∷ low ∷ s)) same ((p, q, is_x, is_y, refl), others bytes is_r)

of_pairs : (odd : Bool) (r : Result (List ℕ) FromHexError) (b : List ℕ) → (if odd then Err OddLength else r) ≡ Ok b → r ≡ Ok b
of_pairs true r b h = cc
of_pairs false r b h = h

all_spelled : (s b : List ℕ) → decode_of s ≡ Ok b → AreSpelled s b
all_spelled s b h = decoded_spelled 0 s b (of_pairs (length s % 2 == 1) (decode_pairs 0 s) b h)

-- none of them is white space
all_digits : (s b : List ℕ) → AreSpelled s b → digits_of s ≡ s
all_digits [] b h = refl
all_digits (c ∷ []) b h = absurd h
all_digits (high ∷ low ∷ s) [] h = absurd h
all_digits (high ∷ low ∷ s) (byte ∷ b) h =
    let (p, q, is_p, is_q, is) = h.0 in
    let first = no_white high p is_p in
    let second = no_white low q is_q in
    let others = all_digits s b h.1 in
    rw (first, second, others) refl

pub Takes-pairs : (bytes_old bytes more text : List ℕ) → decode_of text ≡ Ok more → bytes ≡ bytes_old ++ more → Takes true None None bytes_old bytes text
Takes-pairs bytes_old bytes more text decoded grows =
    let spelled = all_spelled text more decoded in record {
      more = more;
      grows = grows;
      taken = λ read before a. record {
        digits = a.digits ++ text;
        left = [];
        parts = ap (λ (d : List ℕ). read ++ d) (all_digits text more spelled)
            ∙ ap (λ (r : List ℕ). r ++ text) (a.parts ∙ ap (λ (l : List ℕ). a.digits ++ l) a.is_half ∙ append-nil a.digits)
            ∙ sym (append-nil (a.digits ++ text));
        spelled = spelled_both a.digits text before more a.spelled spelled;
        is_half = refl;
      };
    }

-- ---- parts of a line, and lines

-- what follows the parts that stopped is not looked at
pub stopped_within : (h0 h h' : Option ℕ) (b0 b s t line : List ℕ) → s ++ t ≡ line → Takes false h0 h b0 b s → Takes false h0 h' b0 b line
stopped_within h0 h h' b0 b s t line parts x = subst (Takes false h0 h' b0 b) parts (Takes-stopped h0 h h' b0 b s t x)

-- a line and its line feed after a front
pub Takes-lines : (good : Bool) (h0 h1 h2 h3 : Option ℕ) (b0 b1 b2 b3 front rest : List ℕ) (at : ℕ) → at < length rest → Takes true h0 h1 b0 b1 front
    → Takes true h1 h2 b1 b2 (take at rest) → Takes good h2 h3 b2 b3 (get_or rest at 0 ∷ []) → Takes good h0 h3 b0 b3 (front ++ take (at + 1) rest)
Takes-lines good h0 h1 h2 h3 b0 b1 b2 b3 front rest at less x y z =
    let line = subst (Takes good h1 h3 b1 b3) (sym (take_more rest at 0 less)) (Takes-both good h1 h2 h3 b1 b2 b3 (take at rest) (get_or rest at 0 ∷ []) y z) in
    Takes-both good h0 h1 h3 b0 b1 b3 front (take (at + 1) rest) x line

-- a line is its parts
pub of_parts : (line s t : List ℕ) (n : ℕ) → s ≡ take n line → t ≡ drop n line → s ++ t ≡ line
of_parts line s t n front back = rw (front, back) (take-append-drop n line)

pub of_three : (line s following p l : List ℕ) → s ++ following ≡ line → p ++ l ≡ following → (s ++ p) ++ l ≡ line
of_three line s following p l outer inner = append_assoc s p l ∙ ap (λ (r : List ℕ). s ++ r) inner ∙ outer

pub if_ok_map : {A E : Type 0} {P Q : A → Type 0} (r : Result A E) → ((a : A) → P a → Q a) → IfOk r P → IfOk r Q
if_ok_map (Ok a) f h = f a h
if_ok_map (Err e) f h = h

-- the parts of a text after a line more
pub next_line : (front rest text : List ℕ) (n : ℕ) → front ++ rest ≡ text → (front ++ take n rest) ++ drop n rest ≡ text
next_line front rest text n parts = append_assoc front (take n rest) (drop n rest) ∙ ap (λ (r : List ℕ). front ++ r) (take-append-drop n rest) ∙ parts
