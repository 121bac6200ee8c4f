-- Places on one line of a text.
use Rattle.std.proofs.Common.{◌≡◌, ℕ, zero, suc, ◌+◌, ◌<◌, ◌≤◌, List, length, drop, get_or, sym, ap, ◌∙◌, arith, length-drop}
use Rattle.std.specs.Prelude.{◌==◌, not, false}
use Rattle.std.specs.List.{prefix_len}
use Rattle.std.proofs.lemmas.Bool.{not-true}
use Rattle.std.proofs.lemmas.List.{get_or-drop}
use Rattle.std.proofs.lemmas.List.Sums.{prefix_len_passes, prefix_len-le-length, count_by_more_no}
use Rattle.dia_explain_places.specs.Places.{line_at}

-- the byte after a place, where no line feed precedes it
no_feed : (text : List ℕ) (from k : ℕ) → k < prefix_len (λ c. not (c == 10)) (drop from text) → (get_or text (from + k) 0 == 10) ≡ false
no_feed text from k below =
    ap (λ c. c == 10) (sym (get_or-drop from text k 0)) ∙ not-true (get_or (drop from text) k 0 == 10) (prefix_len_passes (λ c. not (c == 10)) (drop from text) k 0 below)

within : (text : List ℕ) (from k : ℕ) → k < prefix_len (λ c. not (c == 10)) (drop from text) → from + k < length text
within text from k below =
    let most = prefix_len-le-length (λ (c : ℕ). not (c == 10)) (drop from text) in
    let size = length-drop from text in omega arith

-- up to the next line feed all places are on one line
pub same_line : (text : List ℕ) (from k : ℕ) → k ≤ prefix_len (λ c. not (c == 10)) (drop from text) → line_at text (from + k) ≡ line_at text from
same_line text from zero below = let same : from + 0 ≡ from = omega arith in ap (line_at text) same
same_line text from (suc k) below =
    let here : k < prefix_len (λ c. not (c == 10)) (drop from text) = omega arith in
    let next : from + suc k ≡ (from + k) + 1 = omega arith in
    let up_to : k ≤ prefix_len (λ c. not (c == 10)) (drop from text) = omega arith in
    ap (line_at text) next
    ∙ ap (λ n. 1 + n) (count_by_more_no (λ (c : ℕ). c == 10) text (from + k) 0 (within text from k here) (no_feed text from k here))
    ∙ same_line text from k up_to
