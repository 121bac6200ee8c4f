-- Where a line of a table begins, and where its words are.
use Rattle.std.proofs.Common.{◌≡◌, ◌∙◌, ℕ, ◌+◌, ◌<◌, ◌≤◌, ◌^◌, List, length, get_or, refl, sym, ap, ap₂, subst, arith}
use Rattle.std.specs.Prelude.{◌==◌, Bool, not, true, false}
use Rattle.std.specs.List.{prefix_len, range_with_len}
use Rattle.std.proofs.lemmas.Bool.{eq-eqb, eqb-true}
use Rattle.std.proofs.lemmas.List.FromFn.{get_or-range_with_len, length-range_with_len}
use Rattle.std.proofs.lemmas.List.Sums.{prefix_len_is}
use Rattle.dia_compat.specs.Words.{PlainWords, word_of, words_in}
use Rattle.dia_compat.specs.declared.PairPart.{PairPart}
use Rattle.dia_compat.specs.declared.PairPart.TheVariants.{Kind, First, Sign, Second, After}
use Rattle.dia_explain_places.specs.Places.{line_at}
use Rattle.dia_explain_places.specs.Tables.{line_from, place_on_line, start_of_line, words_of_line}

-- ---- the start of a line

differs : (m n : ℕ) → ¬ (m ≡ n) → not (m == n) ≡ true
differs m n other = by (m == n) refl
  where
    by : (t : Bool) → (m == n) ≡ t → not (m == n) ≡ true
    by false is = ap not is
    by true is = absurd (other (eqb-true m n is))

alike : (m n : ℕ) → m ≡ n → not (m == n) ≡ false
alike m n same = ap not (eq-eqb m n same)

pub start_is : (text : List ℕ) (n start : ℕ) → start ≤ length text → ((k : ℕ) → k < start → ¬ (line_at text k ≡ n)) → (start < length text → line_at text start ≡ n)
    → start ≡ start_of_line text n
start_is text n start within before here =
    let size = length-range_with_len 0 (length text) in
    let entry : (k : ℕ) → k < length text → get_or (range_with_len 0 (length text)) k 0 ≡ k = λ k below. get_or-range_with_len 0 (length text) k 0 below ∙ (omega arith) in
    sym (prefix_len_is (λ at. not (line_at text at == n)) (range_with_len 0 (length text)) start 0 (omega arith)
    (λ k below. ap (λ at. not (line_at text at == n)) (entry k (omega arith)) ∙ differs (line_at text k) n (before k below))
    (λ below. let inside : start < length text = omega arith in ap (λ at. not (line_at text at == n)) (entry start inside) ∙ alike (line_at text start) n (here inside)))

-- ---- the words of a line

word_within : (line : List ℕ) (part : PairPart) → (word_of (words_in line) part).at ≤ length line
word_within line Kind = omega arith
word_within line First = omega arith
word_within line Sign = omega arith
word_within line Second = omega arith
word_within line After = omega arith

-- a word of a line of a text, from where the line begins, and its place in the text
pub record IsWordAt (text line : List ℕ) (start : ℕ) (words : PlainWords) (part : PairPart) (at : ℕ) : Type 0 where
  pub is_line : line ≡ line_from text start
  pub are_words : words ≡ words_in line
  pub within : start + length line < 2 ^ 64
  pub is_at : start + (word_of words part).at < 2 ^ 64 → at ≡ start + (word_of words part).at

at_within : (text line : List ℕ) (start : ℕ) (words : PlainWords) (part : PairPart) (at : ℕ) → IsWordAt text line start words part at → (word_of words part).at ≤ length line
at_within text line start words part at is = subst (λ (w : PlainWords). (word_of w part).at ≤ length line) (sym is.are_words) (word_within line part)

at_is : (text line : List ℕ) (start : ℕ) (words : PlainWords) (part : PairPart) (at : ℕ) → IsWordAt text line start words part at → at ≡ start + (word_of words part).at
at_is text line start words part at is = let within = at_within text line start words part at is in let most = is.within in is.is_at (omega arith)

pub words_are : (text line : List ℕ) (n start : ℕ) (words : PlainWords) → line ≡ line_from text start → words ≡ words_in line → start ≡ start_of_line text n → words ≡ words_of_line text n
words_are text line n start words is_line are_words is_start = are_words ∙ ap words_in (is_line ∙ ap (line_from text) is_start)

pub place_is : (text line : List ℕ) (n start : ℕ) (words : PlainWords) (which : PlainWords → PairPart) (part : PairPart) (at : ℕ) → IsWordAt text line start words part at
    → start ≡ start_of_line text n → part ≡ which words → at ≡ place_on_line text n (which (words_of_line text n))
place_is text line n start words which part at is is_start is_part =
    let all = words_are text line n start words is.is_line is.are_words is_start in
    at_is text line start words part at is
    ∙ ap₂ (λ (s k : ℕ). s + k) is_start (ap (λ (p : PairPart). (word_of words p).at) is_part ∙ ap (λ (w : PlainWords). (word_of w (which w)).at) all)

-- it is on that line
pub on_line : (text line : List ℕ) (start : ℕ) (words : PlainWords) (part : PairPart) (at : ℕ) → IsWordAt text line start words part at
    → ((k : ℕ) → k ≤ length line → line_at text (start + k) ≡ line_at text start) → line_at text at ≡ line_at text start
on_line text line start words part at is same =
    ap (line_at text) (at_is text line start words part at is) ∙ same (word_of words part).at (at_within text line start words part at is)
