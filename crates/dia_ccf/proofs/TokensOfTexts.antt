-- The tokens of a text, piece by piece.
use Rattle.std.proofs.Common.{◌≡◌, ℕ, zero, suc, ◌+◌, ◌-◌, ◌<◌, ◌^◌, Bool, true, false, not, nat_eq, eqb, ◌&&◌, ◌||◌, List, [], ◌∷◌, ◌++◌}
use Rattle.std.proofs.Common.{length, map, Option, Some, None, option_to_list, codes, take_while, refl, sym, ap, ◌∙◌, arith, rules}
use Rattle.std.specs.List.{list_all, list_any, prefix_len, starts_with}
use Rattle.std.specs.Char.{is_ascii_digit, is_ascii_alphabetic, is_ascii_alphanumeric}
use Rattle.std.specs.Fmt.{decimal}
use Rattle.std.specs.Str.Parse.{digits_value}
use Rattle.std.proofs.lemmas.Bool.{eqb-true, and_parts, and_from, and_left, and_right}
use Rattle.std.proofs.lemmas.Bool.Decides.{nat_tests}
use Rattle.std.proofs.lemmas.List.{take_at}
use Rattle.std.proofs.lemmas.Fmt.{digits_decimal, digits_value-decimal, decimal_nonempty}
use Rattle.std.proofs.lemmas.Str.Parse.{IsDigitsTest, IsNumeralModel, numerals_by_value}
use Rattle.dia_ccf.specs.Names.{is_run_byte, is_name_run}
use Rattle.dia_ccf.specs.Tokens.{Token, Placed, Number, Name, piece, sign, run_token, placed, tokens_after}

-- the tokens alone, without their places
abbrev pub lexed : ℕ → List ℕ → List Token
lexed skip [] = []
lexed (suc skip) (c ∷ rest) = lexed skip rest
lexed zero (c ∷ rest) = option_to_list (piece c rest).token ++ lexed ((piece c rest).len - 1) rest

map-placed : (at : ℕ) (token : Option Token) (ts : List Placed) → map (λ p. p.token) (placed at token ts) ≡ option_to_list token ++ map (λ p. p.token) ts
map-placed at None ts = refl
map-placed at (Some token) ts = refl

pub tokens_after-lexed : (skip at : ℕ) (text : List ℕ) → map (λ p. p.token) (tokens_after skip at text) ≡ lexed skip text
tokens_after-lexed skip at [] = refl
tokens_after-lexed (suc skip) at (c ∷ rest) = tokens_after-lexed skip (at + 1) rest
tokens_after-lexed zero at (c ∷ rest) =
    map-placed at (piece c rest).token (tokens_after ((piece c rest).len - 1) (at + 1) rest)
    ∙ ap (λ ts. option_to_list (piece c rest).token ++ ts) (tokens_after-lexed ((piece c rest).len - 1) (at + 1) rest)

-- what belongs to the piece before is passed over
pub lexed-skip : (a b : List ℕ) → lexed (length a) (a ++ b) ≡ lexed 0 b
lexed-skip [] b = refl
lexed-skip (c ∷ a) b = lexed-skip a b

-- ---- runs

-- the text begins with a byte of a run
abbrev pub starts_run : List ℕ → Bool
starts_run [] = false
starts_run (c ∷ rest) = is_run_byte c

not_itself : (b : Bool) → ¬ (b ≡ not b)
not_itself true e = cc
not_itself false e = cc

-- of two bytes one is a byte of a run and the other is not
run_bytes_apart : (a b : ℕ) (in_run : Bool) → is_run_byte a ≡ in_run → is_run_byte b ≡ not in_run → eqb a b ≡ false
run_bytes_apart a b in_run first second =
    elim (eqb a b) as (λ t. eqb a b ≡ t → t ≡ false) [ true ↦ λ same. absurd (not_itself in_run (sym first ∙ ap is_run_byte (eqb-true a b same) ∙ second)) | false ↦ λ _. refl ] refl

-- a text that begins with another byte does not begin with the sign
begins_with_other : (c k : ℕ) (rest ks : List ℕ) → eqb k c ≡ false → starts_with nat_eq (c ∷ rest) (k ∷ ks) ≡ false
begins_with_other c k rest ks other = rw other refl

pub piece-run : (c : ℕ) (rest : List ℕ) → is_run_byte c ≡ true → piece c rest ≡ sign (run_token (c ∷ take_while is_run_byte rest)) (1 + length (take_while is_run_byte rest))
piece-run c rest run =
    let space = run_bytes_apart c 32 true run refl in
    let tab = run_bytes_apart c 9 true run refl in
    let return = run_bytes_apart c 13 true run refl in
    let feed = run_bytes_apart c 10 true run refl in
    let semicolon = run_bytes_apart c 59 true run refl in
    let declares = begins_with_other c 37 rest (codes "avp") (run_bytes_apart 37 c false refl run) in
    let colon = run_bytes_apart c 58 true run refl in
    let assign = begins_with_other c 58 rest (codes ":=") (run_bytes_apart 58 c false refl run) in
    let dots = begins_with_other c 46 rest (codes ".") (run_bytes_apart 46 c false refl run) in
    let less = run_bytes_apart c 60 true run refl in
    let greater = run_bytes_apart c 62 true run refl in
    let open_brace = run_bytes_apart c 123 true run refl in
    let close_brace = run_bytes_apart c 125 true run refl in
    let open_bracket = run_bytes_apart c 91 true run refl in
    let close_bracket = run_bytes_apart c 93 true run refl in
    let round = run_bytes_apart c 40 true run refl in
    let round_end = run_bytes_apart c 41 true run refl in
    let star = run_bytes_apart c 42 true run refl in
    let comma = run_bytes_apart c 44 true run refl in
    simp (space, tab, return, feed, semicolon, declares, colon, assign, dots, less, greater, open_brace, close_brace, open_bracket, close_bracket, round, round_end, star, comma, run)

prefix_len-run : (r b : List ℕ) → list_all is_run_byte r ≡ true → starts_run b ≡ false → prefix_len is_run_byte (r ++ b) ≡ length r
prefix_len-run [] [] all ends = refl
prefix_len-run [] (c ∷ b) all ends = rw ends refl
prefix_len-run (c ∷ r) b all ends =
    let parts = and_parts (is_run_byte c) (list_all is_run_byte r) all in
    let first = parts.0 in
    let rest = prefix_len-run r b parts.1 ends in
    rw (first, rest) (omega arith)

-- a run stops where no byte of a run follows
pub take_while-run : (r b : List ℕ) → list_all is_run_byte r ≡ true → starts_run b ≡ false → take_while is_run_byte (r ++ b) ≡ r
take_while-run r b all ends = take_at r b _ (sym (prefix_len-run r b all ends))

pub lexed-run : (r b : List ℕ) → 0 < length r → list_all is_run_byte r ≡ true → starts_run b ≡ false → lexed 0 (r ++ b) ≡ run_token r ∷ lexed 0 b
lexed-run [] b some all ends = absurd (omega arith)
lexed-run (c ∷ r) b some all ends =
    let parts = and_parts (is_run_byte c) (list_all is_run_byte r) all in
    let there = piece-run c (r ++ b) parts.0 in
    let run = take_while-run r b parts.1 ends in
    let rest : (1 + length r) - 1 ≡ length r = omega arith in
    rw (there, run, rest, lexed-skip r b) refl

-- ---- numbers and names

digits_test : IsDigitsTest (λ ds. list_all is_ascii_digit ds ≡ true)
digits_test = search rules

pub digits_model : IsNumeralModel (λ ds. list_all is_ascii_digit ds ≡ true) (digits_value 10)
digits_model = numerals_by_value _ digits_test

digit_is_run_byte : (c : ℕ) → is_ascii_digit c ≡ true → is_run_byte c ≡ true
digit_is_run_byte c digit = rw digit refl

digits_are_run : (ds : List ℕ) → list_all is_ascii_digit ds ≡ true → list_all is_run_byte ds ≡ true
digits_are_run [] all = refl
digits_are_run (c ∷ ds) all =
    let parts = and_parts (is_ascii_digit c) (list_all is_ascii_digit ds) all in
    and_from _ _ (digit_is_run_byte c parts.0) (digits_are_run ds parts.1)

pub lexed-decimal : (n : ℕ) (b : List ℕ) → n < 2 ^ 64 → starts_run b ≡ false → lexed 0 (decimal n ++ b) ≡ Number n ∷ lexed 0 b
lexed-decimal n b fits ends =
    let digits = digits_decimal digits_model n fits in
    let value = digits_value-decimal digits_model n fits in
    let is_number : run_token (decimal n) ≡ Number n = rw (digits, value) refl in
    lexed-run (decimal n) b (decimal_nonempty n fits) (digits_are_run (decimal n) digits) ends ∙ ap (λ t. t ∷ lexed 0 b) is_number

letter_is_no_digit : (c : ℕ) → is_ascii_alphabetic c ≡ true → is_ascii_digit c ≡ false
letter_is_no_digit c letter = grind (arith, nat_tests)

letters_are_no_digits : (r : List ℕ) → list_any is_ascii_alphabetic r ≡ true → list_all is_ascii_digit r ≡ false
letters_are_no_digits [] some = cc
letters_are_no_digits (c ∷ r) some =
    elim (is_ascii_alphabetic c) as (λ t. is_ascii_alphabetic c ≡ t → (t || list_any is_ascii_alphabetic r) ≡ true → list_all is_ascii_digit (c ∷ r) ≡ false) [
      | true ↦ λ letter _. and_left _ _ (letter_is_no_digit c letter)
      | false ↦ λ _ rest. and_right _ _ (letters_are_no_digits r rest)
    ] refl some

alphanumeric_is_run_byte : (c : ℕ) → is_ascii_alphanumeric c ≡ true → is_run_byte c ≡ true
alphanumeric_is_run_byte c h = rw h refl

pub run_token-name : (r : List ℕ) → is_name_run r ≡ true → run_token r ≡ Name r
run_token-name [] named = cc
run_token-name (c ∷ r) named =
    let parts = and_parts (is_ascii_alphanumeric c && list_all is_run_byte r) (list_any is_ascii_alphabetic (c ∷ r)) named in
    rw (letters_are_no_digits (c ∷ r) parts.1, named) refl

pub name_is_run : (r : List ℕ) → is_name_run r ≡ true → list_all is_run_byte r ≡ true
name_is_run [] named = cc
name_is_run (c ∷ r) named =
    let parts = and_parts (is_ascii_alphanumeric c && list_all is_run_byte r) (list_any is_ascii_alphabetic (c ∷ r)) named in
    let front = and_parts (is_ascii_alphanumeric c) (list_all is_run_byte r) parts.0 in
    and_from _ _ (alphanumeric_is_run_byte c front.0) front.1

name_is_not_empty : (r : List ℕ) → is_name_run r ≡ true → 0 < length r
name_is_not_empty [] named = cc
name_is_not_empty (c ∷ r) named = omega arith

pub lexed-name : (r b : List ℕ) → is_name_run r ≡ true → starts_run b ≡ false → lexed 0 (r ++ b) ≡ Name r ∷ lexed 0 b
lexed-name r b named ends =
    lexed-run r b (name_is_not_empty r named) (name_is_run r named) ends ∙ ap (λ t. t ∷ lexed 0 b) (run_token-name r named)
