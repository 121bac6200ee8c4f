-- Hexadecimal text, with its white space and without.
use Rattle.std.proofs.Common.{◌≡◌, ℕ, ◌<◌, ◌+◌, true, List, [], ◌∷◌, length, take, get_or, Ok, refl, ap, ◌∙◌, arith, not}
use Rattle.std.proofs.lemmas.Bool.Decides.{nat_tests}
use Rattle.std.proofs.lemmas.List.Elements.{All-head, All-tail, filter_more}
use Rattle.std.proofs.lemmas.List.{append-nil}
use Rattle.std.specs.List.{AllPass}
use Rattle.hex.specs.Hex.{decode_of, is_hex_digit}
use Rattle.hex.proofs.HexLemmas.{decode_of-ok}
use Rattle.dia_ccf.specs.Tokens.{is_white}
use Rattle.dia_run.specs.Texts.{digits_of}

no_white : (c : ℕ) → is_hex_digit c ≡ true → not (is_white c) ≡ true
no_white c h = grind (arith, nat_tests)

all_digits : (text : List ℕ) → AllPass is_hex_digit text → digits_of text ≡ text
all_digits [] all = refl
all_digits (c ∷ cs) all =
    let here = no_white c (All-head (λ x. is_hex_digit x ≡ true) c cs all) in
    rw here (ap (λ (t : List ℕ). c ∷ t) (all_digits cs (All-tail (λ x. is_hex_digit x ≡ true) c cs all)))

-- a text that is decoded has no white space
pub decoded : (text bytes : List ℕ) → decode_of text ≡ Ok bytes → decode_of (digits_of text) ≡ Ok bytes
decoded text bytes h = ap decode_of (all_digits text (decode_of-ok text bytes h).1) ∙ h

-- white space at the end goes
pub white_end : (text : List ℕ) (n : ℕ) → n < length text → is_white (get_or text n 0) ≡ true → digits_of (take (n + 1) text) ≡ digits_of (take n text)
white_end text n within white = filter_more (λ c. not (is_white c)) text n 0 within ∙ rw white (append-nil (digits_of (take n text)))
