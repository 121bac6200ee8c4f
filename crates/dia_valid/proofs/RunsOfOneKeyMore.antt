-- What one key more does to the longest runs: it lengthens one run, or none.
use Rattle.std.proofs.Common.{◌≡◌, ℕ, zero, suc, ◌+◌, ◌<◌, Bool, true, false, cond, List, [], ◌∷◌, ◌++◌, length, drop, refl, sym, ap, ◌∙◌, arith}
use Rattle.std.specs.List.{prefix_len}
use Rattle.std.proofs.Math.Seq.{drop-append_seam, drop-length}
use Rattle.std.proofs.lemmas.List.{drop-append-le, length-append}
use Rattle.dia_wire.specs.declared.Key.{Key}
use Rattle.dia_book.specs.declared.DRule.{DRule}
use Rattle.dia_book.specs.Dictionary.{lists_key}
use Rattle.dia_valid.specs.LongestRuns.{runs}
use Rattle.dia_valid.specs.LongestRuns.{IsAt}

abbrev pub is_of : DRule → Key → Bool
is_of rule key = lists_key key rule

-- ---- the longest front, and a longer list

inside_at : (n m len : ℕ) (b : Bool) → (n < len → m ≡ n) → cond b (1 + n) 0 < suc len → cond b (1 + m) 0 ≡ cond b (1 + n) 0
inside_at n m len true ih h = ap (λ (k : ℕ). 1 + k) (ih (omega (arith, h)))
inside_at n m len false ih h = refl

pub stops_inside : {X : Type 0} (p : X → Bool) (xs ys : List X) → prefix_len p xs < length xs → prefix_len p (xs ++ ys) ≡ prefix_len p xs
stops_inside p [] ys h = absurd (omega (arith, h))
stops_inside p (x ∷ xs) ys h = inside_at (prefix_len p xs) (prefix_len p (xs ++ ys)) (length xs) (p x) (stops_inside p xs ys) h

on_at : (n m len more : ℕ) (b : Bool) → (n ≡ len → m ≡ len + more) → cond b (1 + n) 0 ≡ suc len → cond b (1 + m) 0 ≡ suc len + more
on_at n m len more true ih h = let e = ih (omega (arith, h)) in omega (arith, e)
on_at n m len more false ih h = absurd (omega (arith, h))

pub goes_on : {X : Type 0} (p : X → Bool) (xs ys : List X) → prefix_len p xs ≡ length xs → prefix_len p (xs ++ ys) ≡ length xs + prefix_len p ys
goes_on p [] ys h = omega arith
goes_on p (x ∷ xs) ys h = on_at (prefix_len p xs) (prefix_len p (xs ++ ys)) (length xs) (prefix_len p ys) (p x) (goes_on p xs ys) h

one_yes : {X : Type 0} (p : X → Bool) (x : X) → p x ≡ true → prefix_len p (x ∷ []) ≡ 1
one_yes p x h = ap (λ (b : Bool). cond b (1 + 0) 0) h ∙ omega arith

one_no : {X : Type 0} (p : X → Bool) (x : X) → p x ≡ false → prefix_len p (x ∷ []) ≡ 0
one_no p x h = ap (λ (b : Bool). cond b (1 + 0) 0) h

-- ---- where a level is among its fixed rules

-- no rule from m on lists the key
abbrev pub NoneFrom : List DRule → ℕ → Key → Type 0
NoneFrom [] m k = Unit {0}
NoneFrom (r ∷ rules) zero k = (is_of r k ≡ false) × NoneFrom rules zero k
NoneFrom (r ∷ rules) (suc m) k = NoneFrom rules m k

-- rule i lists the key, and no rule from m up to it does
abbrev pub Reaches : List DRule → ℕ → ℕ → Key → Type 0
Reaches [] m i k = ⊥
Reaches (r ∷ rules) zero zero k = is_of r k ≡ true
Reaches (r ∷ rules) zero (suc i) k = (is_of r k ≡ false) × Reaches rules zero i k
Reaches (r ∷ rules) (suc m) zero k = ⊥
Reaches (r ∷ rules) (suc m) (suc i) k = Reaches rules m i k

abbrev pub one_more : ℕ → List ℕ → List ℕ
one_more i [] = []
one_more zero (n ∷ ns) = suc n ∷ ns
one_more (suc i) (n ∷ ns) = n ∷ one_more i ns

pub at_start : (rules : List DRule) → IsAt rules 0 []
at_start [] = refl
at_start (r ∷ rules) = refl

pub runs_step : (r : DRule) (rules : List DRule) (keys rest : List Key) (n : ℕ) → prefix_len (is_of r) keys ≡ n → drop n keys ≡ rest → runs (r ∷ rules) keys ≡ n ∷ runs rules rest
runs_step r rules keys rest n e d = ap (λ (j : ℕ). j ∷ runs rules (drop j keys)) e ∙ ap (λ (f : List Key). n ∷ runs rules f) d

-- after the run of a rule that lists all of the keys
pub none_left : (keys : List Key) → drop (length keys) keys ≡ []
none_left keys = drop-length keys

-- the rest after a run that ends inside, with a key more
rest_more : (n : ℕ) (keys : List Key) (k : Key) → n < length keys → drop n (keys ++ k ∷ []) ≡ drop n keys ++ k ∷ []
rest_more n keys k h = drop-append-le n keys (k ∷ []) (omega (arith, h))

-- ---- a key that no rule from here on lists

pub same_runs : (rules : List DRule) (m : ℕ) (keys : List Key) (k : Key) → IsAt rules m keys → NoneFrom rules m k → runs rules (keys ++ k ∷ []) ≡ runs rules keys
same_runs [] m keys k at none = refl
same_runs (r ∷ rules) zero keys k at (other, none) =
    let n : prefix_len (is_of r) (keys ++ k ∷ []) ≡ length keys = goes_on (is_of r) keys (k ∷ []) at ∙ omega (arith, one_no (is_of r) k other) in
    runs_step r rules (keys ++ k ∷ []) (k ∷ []) (length keys) n (drop-append_seam keys (k ∷ []))
    ∙ ap (λ (t : List ℕ). length keys ∷ t) (same_runs rules 0 [] k (at_start rules) none)
    ∙ sym (runs_step r rules keys [] (length keys) at (none_left keys))
same_runs (r ∷ rules) (suc m) keys k (less, at) none =
    let n = prefix_len (is_of r) keys in
    runs_step r rules (keys ++ k ∷ []) (drop n keys ++ k ∷ []) n (stops_inside (is_of r) keys (k ∷ []) less) (rest_more n keys k less)
    ∙ ap (λ (t : List ℕ). n ∷ t) (same_runs rules m (drop n keys) k at none)

-- then the level is past all the runs
pub after_all : (rules : List DRule) (m : ℕ) (keys : List Key) (k : Key) → IsAt rules m keys → NoneFrom rules m k → IsAt rules (length rules) (keys ++ k ∷ [])
after_all [] m keys k at none = refl
after_all (r ∷ rules) zero keys k at (other, none) =
    let n : prefix_len (is_of r) (keys ++ k ∷ []) ≡ length keys = goes_on (is_of r) keys (k ∷ []) at ∙ omega (arith, one_no (is_of r) k other) in
    let rest : drop (prefix_len (is_of r) (keys ++ k ∷ [])) (keys ++ k ∷ []) ≡ k ∷ [] = ap (λ (j : ℕ). drop j (keys ++ k ∷ [])) n ∙ drop-append_seam keys (k ∷ []) in
    (omega (arith, n, length-append keys (k ∷ [])), rw rest (after_all rules 0 [] k (at_start rules) none))
after_all (r ∷ rules) (suc m) keys k (less, at) none =
    let n = prefix_len (is_of r) keys in
    let same = stops_inside (is_of r) keys (k ∷ []) less in
    let rest : drop (prefix_len (is_of r) (keys ++ k ∷ [])) (keys ++ k ∷ []) ≡ drop n keys ++ k ∷ [] = ap (λ (j : ℕ). drop j (keys ++ k ∷ [])) same ∙ rest_more n keys k less in
    (omega (arith, same, less, length-append keys (k ∷ [])), rw rest (after_all rules m (drop n keys) k at none))

-- ---- a key of a rule from here on

pub longer_run : (rules : List DRule) (m i : ℕ) (keys : List Key) (k : Key) → IsAt rules m keys → Reaches rules m i k → runs rules (keys ++ k ∷ []) ≡ one_more i (runs rules keys)
longer_run [] m i keys k at h = absurd h
longer_run (r ∷ rules) zero zero keys k at h =
    let n : prefix_len (is_of r) (keys ++ k ∷ []) ≡ suc (length keys) = goes_on (is_of r) keys (k ∷ []) at ∙ omega (arith, one_yes (is_of r) k h) in
    let all : drop (suc (length keys)) (keys ++ k ∷ []) ≡ [] = let e : suc (length keys) ≡ length (keys ++ k ∷ []) = omega (arith, length-append keys (k ∷ [])) in rw e (none_left (keys ++ k ∷ [])) in
    runs_step r rules (keys ++ k ∷ []) [] (suc (length keys)) n all ∙ ap (one_more 0) (sym (runs_step r rules keys [] (length keys) at (none_left keys)))
longer_run (r ∷ rules) zero (suc i) keys k at (other, h) =
    let n : prefix_len (is_of r) (keys ++ k ∷ []) ≡ length keys = goes_on (is_of r) keys (k ∷ []) at ∙ omega (arith, one_no (is_of r) k other) in
    runs_step r rules (keys ++ k ∷ []) (k ∷ []) (length keys) n (drop-append_seam keys (k ∷ []))
    ∙ ap (λ (t : List ℕ). length keys ∷ t) (longer_run rules 0 i [] k (at_start rules) h)
    ∙ ap (one_more (suc i)) (sym (runs_step r rules keys [] (length keys) at (none_left keys)))
longer_run (r ∷ rules) (suc m) zero keys k at h = absurd h
longer_run (r ∷ rules) (suc m) (suc i) keys k (less, at) h =
    let n = prefix_len (is_of r) keys in
    runs_step r rules (keys ++ k ∷ []) (drop n keys ++ k ∷ []) n (stops_inside (is_of r) keys (k ∷ []) less) (rest_more n keys k less)
    ∙ ap (λ (t : List ℕ). n ∷ t) (longer_run rules m i (drop n keys) k at h)

-- then the level is in that rule's run
pub in_run : (rules : List DRule) (m i : ℕ) (keys : List Key) (k : Key) → IsAt rules m keys → Reaches rules m i k → IsAt rules i (keys ++ k ∷ [])
in_run [] m i keys k at h = absurd h
in_run (r ∷ rules) zero zero keys k at h = goes_on (is_of r) keys (k ∷ []) at ∙ omega (arith, one_yes (is_of r) k h, length-append keys (k ∷ []))
in_run (r ∷ rules) zero (suc i) keys k at (other, h) =
    let n : prefix_len (is_of r) (keys ++ k ∷ []) ≡ length keys = goes_on (is_of r) keys (k ∷ []) at ∙ omega (arith, one_no (is_of r) k other) in
    let rest : drop (prefix_len (is_of r) (keys ++ k ∷ [])) (keys ++ k ∷ []) ≡ k ∷ [] = ap (λ (j : ℕ). drop j (keys ++ k ∷ [])) n ∙ drop-append_seam keys (k ∷ []) in
    (omega (arith, n, length-append keys (k ∷ [])), rw rest (in_run rules 0 i [] k (at_start rules) h))
in_run (r ∷ rules) (suc m) zero keys k at h = absurd h
in_run (r ∷ rules) (suc m) (suc i) keys k (less, at) h =
    let n = prefix_len (is_of r) keys in
    let same = stops_inside (is_of r) keys (k ∷ []) less in
    let rest : drop (prefix_len (is_of r) (keys ++ k ∷ [])) (keys ++ k ∷ []) ≡ drop n keys ++ k ∷ [] = ap (λ (j : ℕ). drop j (keys ++ k ∷ [])) same ∙ rest_more n keys k less in
    (omega (arith, same, less, length-append keys (k ∷ [])), rw rest (in_run rules m i (drop n keys) k at h))
