-- A piece of a body, one part after the other.
use Rattle.std.proofs.Common.{◌≡◌, ℕ, ◌+◌, ◌-◌, ◌≤◌, List, length, take, drop, sym, ap, subst, ◌∙◌, arith}
use Rattle.std.proofs.lemmas.List.{drop-take, drop-drop, length-drop, take_all}
use Rattle.dia_check.specs.Reading.{LiesAt}

-- the rest of a piece follows what was read of it
pub lies_later : (bytes piece : List ℕ) (from k : ℕ) → k ≤ length piece → LiesAt bytes from piece → LiesAt bytes (from + k) (drop k piece)
lies_later bytes piece from k le (is, within) =
    let more = length-drop k piece in
    let n = length (drop k piece) in
    let e : ((from + k) + n) - (from + k) ≡ n = omega arith in
    let f : (from + length piece) - from ≡ k + n = omega (arith, more, le) in (
      ap (λ (j : ℕ). take j (drop (from + k) bytes)) e ∙ ap (take n) (sym (drop-drop k from bytes)) ∙ sym (drop-take k n (drop from bytes))
          ∙ ap (λ (j : ℕ). drop k (take j (drop from bytes))) (sym f) ∙ ap (drop k) is,
      omega (arith, more, le, within),
    )

pub lies_on : (bytes piece : List ℕ) (from taken k : ℕ) → k ≤ length (drop taken piece) → LiesAt bytes (from + taken) (drop taken piece) → LiesAt bytes (from + (taken + k)) (drop (taken + k) piece)
lies_on bytes piece from taken k le lies =
    let e : (from + taken) + k ≡ from + (taken + k) = omega arith in
    subst (λ (n : ℕ). LiesAt bytes n (drop (taken + k) piece)) e (subst (LiesAt bytes ((from + taken) + k)) (drop-drop k taken piece) (lies_later bytes (drop taken piece) (from + taken) k le lies))

-- the rest of a message follows any of its fronts
pub lies_whole : (bytes : List ℕ) (k : ℕ) → k ≤ length bytes → LiesAt bytes k (drop k bytes)
lies_whole bytes k le =
    let more = length-drop k bytes in
    let n = length (drop k bytes) in
    let e : (k + n) - k ≡ n = omega arith in
    (ap (λ (j : ℕ). take j (drop k bytes)) e ∙ take_all n (drop k bytes) (omega arith), omega (arith, more, le))
