-- The runs that one key more ends.
use Rattle.std.proofs.Common.{◌≡◌, ℕ, zero, suc, ◌+◌, ◌<◌, List, [], ◌∷◌, ◌++◌, length, take, drop, sum, refl, sym, ap, subst, ◌∙◌, arith, inl, inr}
use Rattle.std.specs.Prelude.{slice_index, ◌⊎◌}
use Rattle.std.specs.List.{prefix_len}
use Rattle.std.proofs.lemmas.List.{drop-append-le, length-append, length-drop}
use Rattle.std.proofs.lemmas.List.Sums.{prefix_len-le-length}
use Rattle.dia_wire.specs.declared.Key.{Key}
use Rattle.dia_book.specs.declared.DRule.{DRule}
use Rattle.dia_valid.specs.LongestRuns.{IsAt, runs}
use Rattle.dia_valid.proofs.LongestRuns.{sum-cons}
use Rattle.dia_valid.proofs.RunsOfOneKeyMore.{goes_on, is_of, stops_inside}
use Rattle.dia_check.proofs.Uniqueness.{le_split}

-- a level without keys is in its first run
pub at_nothing : (rules : List DRule) (m : ℕ) → IsAt rules m [] → m ≡ 0
at_nothing [] m at = at
at_nothing (r ∷ rules) zero at = refl
at_nothing (r ∷ rules) (suc m) (less, at) = absurd (omega (arith, less))

-- keys end in one run
pub at_one : (rules : List DRule) (m n : ℕ) (keys : List Key) → IsAt rules m keys → IsAt rules n keys → m ≡ n
at_one [] m n keys x y = x ∙ sym y
at_one (r ∷ rules) zero zero keys x y = refl
at_one (r ∷ rules) zero (suc n) keys x (less, y) = absurd (omega (arith, x, less))
at_one (r ∷ rules) (suc m) zero keys (less, x) y = absurd (omega (arith, y, less))
at_one (r ∷ rules) (suc m) (suc n) keys (less, x) (less', y) = ap (λ (k : ℕ). suc k) (at_one rules m n (drop (prefix_len (is_of r) keys) keys) x y)

-- a run before the one that the keys end in ends before their end
pub ends_before : (rules : List DRule) (m i : ℕ) (keys : List Key) → IsAt rules m keys → i < m → sum (take (suc i) (runs rules keys)) < length keys
ends_before [] m i keys at lt = absurd (omega (arith, at, lt))
ends_before (r ∷ rules) zero i keys at lt = absurd (omega (arith, lt))
ends_before (r ∷ rules) (suc m) zero keys (less, at) lt = let n = prefix_len (is_of r) keys in omega (arith, less, sum-cons n [])
ends_before (r ∷ rules) (suc m) (suc i) keys (less, at) lt =
    let n = prefix_len (is_of r) keys in
    omega (arith, less, sum-cons n (take (suc i) (runs rules (drop n keys))), ends_before rules m i (drop n keys) at (omega (arith, lt)), length-drop n keys)

-- the length of a first run that ends inside with a key more is the same without it
same_first : (r : DRule) (keys : List Key) (k : Key) → prefix_len (is_of r) (keys ++ k ∷ []) < length (keys ++ k ∷ []) → prefix_len (is_of r) (keys ++ k ∷ []) ≡ prefix_len (is_of r) keys
same_first r keys k less = by (le_split (prefix_len (is_of r) keys) (length keys) (prefix_len-le-length (is_of r) keys))
  where
    by : (prefix_len (is_of r) keys < length keys) ⊎ (prefix_len (is_of r) keys ≡ length keys) → prefix_len (is_of r) (keys ++ k ∷ []) ≡ prefix_len (is_of r) keys
    by (inl lt) = stops_inside (is_of r) keys (k ∷ []) lt
    by (inr all) = let on = goes_on (is_of r) keys (k ∷ []) all in let more = length-append keys (k ∷ []) in omega (arith, on, less, more, all)

-- the runs before the one that the keys end in with a key more are the same without it
pub same_before : (rules : List DRule) (m i : ℕ) (keys : List Key) (k : Key) → IsAt rules m (keys ++ k ∷ []) → i < m
    → (slice_index (runs rules (keys ++ k ∷ [])) i ≡ slice_index (runs rules keys) i) × (sum (take (suc i) (runs rules (keys ++ k ∷ []))) ≡ sum (take (suc i) (runs rules keys)))
same_before [] m i keys k at lt = absurd (omega (arith, at, lt))
same_before (r ∷ rules) zero i keys k at lt = absurd (omega (arith, lt))
same_before (r ∷ rules) (suc m) zero keys k (less, at) lt =
    let e = same_first r keys k less in
    (e, sum-cons (prefix_len (is_of r) (keys ++ k ∷ [])) [] ∙ ap (λ (n : ℕ). n + 0) e ∙ sym (sum-cons (prefix_len (is_of r) keys) []))
same_before (r ∷ rules) (suc m) (suc i) keys k (less, at) lt =
    let n = prefix_len (is_of r) keys in let more = prefix_len (is_of r) (keys ++ k ∷ []) in
    let e = same_first r keys k less in
    let within = prefix_len-le-length (is_of r) keys in
    let rest : drop more (keys ++ k ∷ []) ≡ drop n keys ++ k ∷ [] = ap (λ (j : ℕ). drop j (keys ++ k ∷ [])) e ∙ drop-append-le n keys (k ∷ []) within in
    let others = same_before rules m i (drop n keys) k (subst (IsAt rules m) rest at) (omega (arith, lt)) in (
      ap (λ (ks : List Key). slice_index (runs rules ks) i) rest ∙ others.0,
      sum-cons more (take (suc i) (runs rules (drop more (keys ++ k ∷ [])))) ∙ ap (λ (j : ℕ). j + sum (take (suc i) (runs rules (drop more (keys ++ k ∷ []))))) e
          ∙ ap (λ (ks : List Key). n + sum (take (suc i) (runs rules ks))) rest ∙ ap (λ (j : ℕ). n + j) others.1 ∙ sym (sum-cons n (take (suc i) (runs rules (drop n keys)))),
    )
