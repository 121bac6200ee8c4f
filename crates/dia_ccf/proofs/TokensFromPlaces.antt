-- The tokens from a place on, one piece after the other.
use Rattle.std.proofs.Common.{◌≡◌, ℕ, zero, suc, ◌+◌, ◌-◌, ◌<◌, ◌≤◌, true, false, cond, List, [], ◌∷◌, length, take, drop, drop-drop, get_or}
use Rattle.std.proofs.Common.{slice_range, Option, Some, IsUtf8, IsCharBoundary, take_while, refl, sym, ap, subst, ◌∙◌, arith}
use Rattle.std.specs.List.{prefix_len}
use Rattle.std.proofs.lemmas.Bool.Decides.{nat_tests}
use Rattle.std.proofs.lemmas.List.{get_or-drop, length-take-le, take_rest}
use Rattle.std.proofs.lemmas.List.Sums.{prefix_len_passes, prefix_len-le-length}
use Rattle.std.proofs.lemmas.Str.{IsCharBoundary-after_ascii}
use Rattle.dia_ccf.specs.declared.lexer.Sign.{Sign}
use Rattle.dia_ccf.specs.declared.lexer.Sign.TheVariants as signs
use Rattle.dia_ccf.specs.Names.{is_run_byte}
use Rattle.dia_ccf.specs.Tokens.{Token, Other, piece, sign, run_token, placed, tokens_after}
use Rattle.dia_ccf.specs.Front.{front, run_front}
use Rattle.dia_ccf.specs.LexerTokens.{tokens_from, capped, shown_sign}

tokens_after-skip : (k at : ℕ) (text : List ℕ) → tokens_after k at text ≡ tokens_after 0 (at + k) (drop k text)
tokens_after-skip zero at text = let same : at + 0 ≡ at = omega arith in rw same refl
tokens_after-skip (suc k) at [] = refl
tokens_after-skip (suc k) at (c ∷ text) =
    let same : (at + 1) + k ≡ at + suc k = omega arith in
    tokens_after-skip k (at + 1) text ∙ ap (λ n. tokens_after 0 n (drop k text)) same

tokens_after-front : (text : List ℕ) (at k : ℕ) (token : Option Token) → front text ≡ Some (record { token = token; len = suc k })
    → tokens_after 0 at text ≡ placed at token (tokens_after 0 (at + suc k) (drop (suc k) text))
tokens_after-front [] at k token there = cc
tokens_after-front (c ∷ rest) at k token there =
    let is : piece c rest ≡ record { token = token; len = suc k } = cc in
    let less : suc k - 1 ≡ k = omega arith in
    let more : (at + 1) + k ≡ at + suc k = omega arith in
    rw (is, less) (ap (λ ts. placed at token ts) (tokens_after-skip k (at + 1) rest ∙ ap (λ n. tokens_after 0 n (drop k rest)) more))

-- the tokens after the piece at a place
pub tokens_from-front : (text : List ℕ) (at len : ℕ) (token : Option Token) → front (drop at text) ≡ Some (record { token = token; len = len })
    → 0 < len → tokens_from text at ≡ placed at token (tokens_from text (at + len))
tokens_from-front text at zero token there long = absurd (omega arith)
tokens_from-front text at (suc k) token there long =
    tokens_after-front (drop at text) at k token there ∙ ap (λ rest. placed at token (tokens_after 0 (at + suc k) rest)) (drop-drop (suc k) at text)

-- ---- runs

pub run_front-other : (text : List ℕ) → 0 < length text → prefix_len is_run_byte text ≡ 0 → run_front text ≡ Some (sign Other 1)
run_front-other [] some none = absurd (omega arith)
run_front-other (c ∷ rest) some none =
    elim (is_run_byte c) as (λ t. cond t (1 + prefix_len is_run_byte rest) 0 ≡ 0
    → Some (cond t (sign (run_token (c ∷ take_while is_run_byte rest)) (1 + length (take_while is_run_byte rest))) (sign Other 1)) ≡ Some (sign Other 1)) [
      | true ↦ λ no. absurd (omega (arith, no))
      | false ↦ λ no. refl
    ] none

pub run_front-run : (text : List ℕ) → 0 < prefix_len is_run_byte text → run_front text ≡ Some (sign (run_token (take (prefix_len is_run_byte text) text)) (prefix_len is_run_byte text))
run_front-run [] some = absurd (omega arith)
run_front-run (c ∷ rest) some =
    let p = prefix_len is_run_byte rest in
    let len : length (take p rest) ≡ p = length-take-le p rest (prefix_len-le-length is_run_byte rest) in
    let more : 1 + p ≡ suc p = omega arith in
    elim (is_run_byte c) as (λ t. 0 < cond t (1 + p) 0 → Some (cond t (sign (run_token (c ∷ take p rest)) (1 + length (take p rest))) (sign Other 1))
    ≡ Some (sign (run_token (take (cond t (1 + p) 0) (c ∷ rest))) (cond t (1 + p) 0))) [
      | true ↦ λ yes. rw (len, more) refl
      | false ↦ λ no. absurd (omega (arith, no))
    ] some

run_byte_is_ascii : (c : ℕ) → is_run_byte c ≡ true → c < 128
run_byte_is_ascii c run = grind (arith, nat_tests)

-- a text may be cut after a run
pub IsCharBoundary-after_run : (text : List ℕ) (at : ℕ) → IsUtf8 text → 0 < prefix_len is_run_byte (drop at text)
    → at + prefix_len is_run_byte (drop at text) ≤ length text → IsCharBoundary text (at + prefix_len is_run_byte (drop at text))
IsCharBoundary-after_run text at utf8 some within =
    let n = prefix_len is_run_byte (drop at text) in
    let last = prefix_len_passes is_run_byte (drop at text) (n - 1) 0 (omega arith) in
    let same = get_or-drop at text (n - 1) 0 in
    let ascii : get_or text (at + (n - 1)) 0 < 128 = subst (λ c. c < 128) same (run_byte_is_ascii (get_or (drop at text) (n - 1) 0) last) in
    let following : (at + (n - 1)) + 1 ≡ at + n = omega arith in
    subst (λ k. IsCharBoundary text k) following (IsCharBoundary-after_ascii text (at + (n - 1)) utf8 (omega arith) ascii)

-- ---- signs

pub capped-shown_sign : (s : Sign) → capped (shown_sign s) ≡ shown_sign s
capped-shown_sign signs.Less = refl
capped-shown_sign s = refl

-- ---- parts of the text

pub rest_of_bytes : (text bytes : List ℕ) (at : ℕ) → bytes ≡ text → take (length bytes - at) (drop at bytes) ≡ drop at text
rest_of_bytes text bytes at same = take_rest bytes at ∙ ap (drop at) same

-- where no sign is at a place, the run there is the token
pub front-run : (text bytes : List ℕ) (at len : ℕ) → bytes ≡ text → front (take (length bytes - at) (drop at bytes)) ≡ run_front (take (length bytes - at) (drop at bytes))
    → len ≡ prefix_len is_run_byte (take (length bytes - at) (drop at bytes)) → 0 < len → front (drop at text) ≡ Some (sign (run_token (slice_range text at (at + len))) len)
front-run text bytes at len same none is some =
    let rest = rest_of_bytes text bytes at same in
    let n = prefix_len is_run_byte (drop at text) in
    let all : len ≡ n = is ∙ ap (prefix_len is_run_byte) rest in
    let long : 0 < n = omega arith in
    let width : (at + len) - at ≡ n = omega arith in
    ap front (sym rest) ∙ none ∙ ap run_front rest ∙ run_front-run (drop at text) long ∙ rw (width, all) refl
