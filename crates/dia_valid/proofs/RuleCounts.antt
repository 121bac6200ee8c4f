-- Keys are placed where each rule is met as often as it says, and what follows the runs is allowed; what one more key changes.
use Rattle.std.proofs.Common.{◌≡◌, ℕ, zero, suc, ◌+◌, ◌<◌, ◌≤◌, Bool, true, false, cond, List, [], ◌∷◌, ◌++◌, length, drop, sum, filter, Some, refl, sym, ap, subst, ◌∙◌, arith}
use Rattle.std.specs.Prelude.{slice_get, slice_index, not, count_by, if◌then◌else◌, ◌&&◌, ◌||◌}
use Rattle.std.specs.List.{prefix_len, list_all, list_any, AllByRecursion}
use Rattle.std.proofs.Math.Seq.{drop-length}
use Rattle.std.proofs.lemmas.List.{append-nil, drop-append-le}
use Rattle.std.proofs.lemmas.List.Elements.{filter-append}
use Rattle.std.proofs.lemmas.List.Sums.{sum_by-append, prefix_len-le-length}
use Rattle.std.proofs.lemmas.List.{length-drop}
use Rattle.std.proofs.lemmas.Option.{slice_get_within}
use Rattle.dia_wire.specs.declared.Key.{Key}
use Rattle.dia_book.specs.declared.DRule.{DRule}
use Rattle.dia_book.specs.Dictionary.{AreRules, is_fixed, lists_key}
use Rattle.dia_book.proofs.Members.{at_filter}
use Rattle.dia_book.proofs.NumberedGroups.{slice_get-append_left}
use Rattle.dia_valid.specs.Valid.{InBounds, Placed, MayBeLoose, fixed_rules, loose_rules, counted, is_wildcard, is_listed}
use Rattle.dia_valid.specs.LongestRuns.{runs, met, loose_start}
use Rattle.dia_valid.proofs.LongestRuns.{AllInBounds, longest_are_runs, sum-cons}
use Rattle.dia_valid.specs.LongestRuns.{IsAt}
use Rattle.dia_valid.proofs.RunsOfOneKeyMore.{is_of, NoneFrom, Reaches, one_more, same_runs, longer_run, in_run}

both : (a b : Bool) → (a && b) ≡ true → (a ≡ true) × (b ≡ true)
both true b h = (refl, h)
both false b h = absurd cc

neither : (a b : Bool) → (a || b) ≡ false → (a ≡ false) × (b ≡ false)
neither true b h = absurd cc
neither false b h = (refl, h)

pub filter_all : {X : Type 0} (p : X → Bool) (xs : List X) → list_all p xs ≡ true → filter p xs ≡ xs
filter_all p [] h = refl
filter_all p (x ∷ xs) h =
    let parts = both (p x) (list_all p xs) h in
    ap (λ (b : Bool). cond b (x ∷ filter p xs) (filter p xs)) parts.0 ∙ ap (λ t. x ∷ t) (filter_all p xs parts.1)

pub filter_none : {X : Type 0} (p : X → Bool) (xs : List X) → list_any p xs ≡ false → filter p xs ≡ []
filter_none p [] h = refl
filter_none p (x ∷ xs) h =
    let parts = neither (p x) (list_any p xs) h in
    ap (λ (b : Bool). cond b (x ∷ filter p xs) (filter p xs)) parts.0 ∙ filter_none p xs parts.1

-- ---- places of fixed rules

pub fixed_place : (rules : List DRule) (j : ℕ) (rule : DRule) → AreRules rules → slice_get (fixed_rules rules) j ≡ Some rule → (slice_get rules j ≡ Some rule) × (is_fixed rule ≡ true)
fixed_place rules j rule are at =
    let (fixed, loose, parts, all, none) = are.fixed_first in
    let kept : fixed_rules rules ≡ fixed = ap (filter is_fixed) parts ∙ filter-append is_fixed fixed loose ∙ ap (λ (t : List DRule). t ++ filter is_fixed loose) (filter_all is_fixed fixed all)
    ∙ ap (λ (t : List DRule). fixed ++ t) (filter_none is_fixed loose none) ∙ append-nil fixed in
    let here : slice_get fixed j ≡ Some rule = ap (λ (t : List DRule). slice_get t j) (sym kept) ∙ at in
    (ap (λ (t : List DRule). slice_get t j) parts ∙ slice_get-append_left fixed loose j (slice_get_within fixed j rule here) ∙ here, (at_filter is_fixed rules j rule at).2)

-- ---- the counts

pub met_fixed : (rules : List DRule) (keys : List Key) (i : ℕ) (rule : DRule) → is_fixed rule ≡ true → met rules keys i rule ≡ slice_index (runs (fixed_rules rules) keys) i
met_fixed rules keys i rule h = ap (λ (b : Bool). if b then slice_index (runs (fixed_rules rules) keys) i else counted rules rule (drop (loose_start rules keys) keys)) h

pub met_loose : (rules : List DRule) (keys : List Key) (i : ℕ) (rule : DRule) → is_fixed rule ≡ false → met rules keys i rule ≡ counted rules rule (drop (loose_start rules keys) keys)
met_loose rules keys i rule h = ap (λ (b : Bool). if b then slice_index (runs (fixed_rules rules) keys) i else counted rules rule (drop (loose_start rules keys) keys)) h

pub length-runs : (rules : List DRule) (keys : List Key) → length (runs rules keys) ≡ length rules
length-runs [] keys = refl
length-runs (r ∷ rules) keys = ap (λ (n : ℕ). suc n) (length-runs rules (drop (prefix_len (is_of r) keys) keys))

all_in_bounds : (rules : List DRule) (ns : List ℕ) → length ns ≡ length rules → ((j : ℕ) (rule : DRule) → slice_get rules j ≡ Some rule → InBounds rule (slice_index ns j)) → AllInBounds rules ns
all_in_bounds [] ns e h = tt
all_in_bounds (r ∷ rules) [] e h = absurd (omega (arith, e))
all_in_bounds (r ∷ rules) (n ∷ ns) e h = (h 0 r refl, all_in_bounds rules ns (omega (arith, e)) (λ j rule at. h (suc j) rule at))

pub all_by_places : {X : Type 0} (P : X → Type 0) (xs : List X) → ((i : ℕ) (x : X) → slice_get xs i ≡ Some x → P x) → AllByRecursion P xs
all_by_places P [] h = tt
all_by_places P (x ∷ xs) h = (h 0 x refl, all_by_places P xs (λ i y at. h (suc i) y at))

not_true : (b : Bool) → not b ≡ true → b ≡ false
not_true true h = absurd cc
not_true false h = refl

-- ---- keys that are counted right are placed

pub placed : (rules : List DRule) (keys : List Key) → AreRules rules → ((i : ℕ) (rule : DRule) → slice_get rules i ≡ Some rule → InBounds rule (met rules keys i rule))
    → AllByRecursion (MayBeLoose rules) (drop (loose_start rules keys) keys) → Placed rules keys
placed rules keys are each loose = record {
  rest = drop (loose_start rules keys) keys;
  runs = longest_are_runs (fixed_rules rules) keys (all_in_bounds (fixed_rules rules) (runs (fixed_rules rules) keys) (length-runs (fixed_rules rules) keys)
      (λ j rule at. let here = fixed_place rules j rule are at in subst (InBounds rule) (met_fixed rules keys j rule here.1) (each j rule here.0)));
  loose = loose;
  counts = all_by_places (λ rule. InBounds rule (counted rules rule (drop (loose_start rules keys) keys))) (loose_rules rules)
      (λ i rule at. let here = at_filter (λ r. not (is_fixed r)) rules i rule at in
      subst (InBounds rule) (met_loose rules keys here.0 rule (not_true (is_fixed rule) here.2)) (each here.0 rule here.1));
}

-- ---- one key more

pub sum-runs : (rules : List DRule) (keys : List Key) → sum (runs rules keys) ≤ length keys
sum-runs [] keys = omega arith
sum-runs (r ∷ rules) keys =
    let n = prefix_len (is_of r) keys in
    omega (arith, sum-cons n (runs rules (drop n keys)), sum-runs rules (drop n keys), length-drop n keys, prefix_len-le-length (is_of r) keys)

abbrev pub counts_key : List DRule → DRule → Key → Bool
counts_key rules rule key = if is_wildcard rule then not (is_listed rules key) else lists_key key rule

-- a key after all the runs, or that ends them, counts for the loose rules that list it, and lengthens no run
pub met_more : (rules : List DRule) (m : ℕ) (keys : List Key) (k : Key) (i : ℕ) (rule : DRule) → IsAt (fixed_rules rules) m keys → NoneFrom (fixed_rules rules) m k
    → met rules (keys ++ k ∷ []) i rule ≡ (if is_fixed rule then met rules keys i rule else met rules keys i rule + count_by (counts_key rules rule) (k ∷ []))
met_more rules m keys k i rule at none = by (is_fixed rule)
  where
    same : runs (fixed_rules rules) (keys ++ k ∷ []) ≡ runs (fixed_rules rules) keys
    same = same_runs (fixed_rules rules) m keys k at none

    rest : drop (loose_start rules (keys ++ k ∷ [])) (keys ++ k ∷ []) ≡ drop (loose_start rules keys) keys ++ k ∷ []
    rest = ap (λ (ns : List ℕ). drop (sum ns) (keys ++ k ∷ [])) same ∙ drop-append-le (loose_start rules keys) keys (k ∷ []) (sum-runs (fixed_rules rules) keys)

    by : (b : Bool) → (if b then slice_index (runs (fixed_rules rules) (keys ++ k ∷ [])) i else counted rules rule (drop (loose_start rules (keys ++ k ∷ [])) (keys ++ k ∷ [])))
        ≡ (if b then (if b then slice_index (runs (fixed_rules rules) keys) i else counted rules rule (drop (loose_start rules keys) keys))
        else (if b then slice_index (runs (fixed_rules rules) keys) i else counted rules rule (drop (loose_start rules keys) keys)) + count_by (counts_key rules rule) (k ∷ []))
    by true = ap (λ (ns : List ℕ). slice_index ns i) same
    by false = ap (counted rules rule) rest ∙ sum_by-append (λ (x : Key). cond (counts_key rules rule x) 1 0) (drop (loose_start rules keys) keys) (k ∷ [])

-- in the run of a fixed rule all keys are taken
pub all_at : (rules : List DRule) (m : ℕ) (keys : List Key) → m < length rules → IsAt rules m keys → sum (runs rules keys) ≡ length keys
all_at [] m keys lt at = absurd (omega (arith, lt))
all_at (r ∷ rules) zero keys lt at =
    let n = prefix_len (is_of r) keys in
    omega (arith, at, sum-cons n (runs rules (drop n keys)), sum-runs rules (drop n keys), length-drop n keys)
all_at (r ∷ rules) (suc m) keys lt (less, at) =
    let n = prefix_len (is_of r) keys in
    omega (arith, less, sum-cons n (runs rules (drop n keys)), all_at rules m (drop n keys) (omega (arith, lt)) at, length-drop n keys)

pub reached : (rules : List DRule) (m i : ℕ) (k : Key) → Reaches rules m i k → (m ≤ i) × (i < length rules)
reached [] m i k h = absurd h
reached (r ∷ rules) zero zero k h = (omega arith, omega arith)
reached (r ∷ rules) zero (suc i) k (other, h) = let e = reached rules 0 i k h in (omega arith, omega (arith, e.1))
reached (r ∷ rules) (suc m) zero k h = absurd h
reached (r ∷ rules) (suc m) (suc i) k h = let e = reached rules m i k h in (omega (arith, e.0), omega (arith, e.1))

-- a key of a fixed rule from here on lengthens that rule's run, and counts for no loose rule
pub met_longer : (rules : List DRule) (m i : ℕ) (keys : List Key) (k : Key) (j : ℕ) (rule : DRule) → IsAt (fixed_rules rules) m keys → Reaches (fixed_rules rules) m i k
    → met rules (keys ++ k ∷ []) j rule ≡ (if is_fixed rule then slice_index (one_more i (runs (fixed_rules rules) keys)) j else met rules keys j rule)
met_longer rules m i keys k j rule at h = by (is_fixed rule)
  where
    within : (m ≤ i) × (i < length (fixed_rules rules))
    within = reached (fixed_rules rules) m i k h

    before : sum (runs (fixed_rules rules) keys) ≡ length keys
    before = all_at (fixed_rules rules) m keys (omega (arith, within.0, within.1)) at

    now : sum (runs (fixed_rules rules) (keys ++ k ∷ [])) ≡ length (keys ++ k ∷ [])
    now = all_at (fixed_rules rules) i (keys ++ k ∷ []) within.1 (in_run (fixed_rules rules) m i keys k at h)

    empty : drop (loose_start rules (keys ++ k ∷ [])) (keys ++ k ∷ []) ≡ drop (loose_start rules keys) keys
    empty = ap (λ (n : ℕ). drop n (keys ++ k ∷ [])) now ∙ drop-length (keys ++ k ∷ []) ∙ sym (ap (λ (n : ℕ). drop n keys) before ∙ drop-length keys)

    by : (b : Bool) → (if b then slice_index (runs (fixed_rules rules) (keys ++ k ∷ [])) j else counted rules rule (drop (loose_start rules (keys ++ k ∷ [])) (keys ++ k ∷ [])))
        ≡ (if b then slice_index (one_more i (runs (fixed_rules rules) keys)) j
        else (if b then slice_index (runs (fixed_rules rules) keys) j else counted rules rule (drop (loose_start rules keys) keys)))
    by true = ap (λ (ns : List ℕ). slice_index ns j) (longer_run (fixed_rules rules) m i keys k at h)
    by false = ap (counted rules rule) empty
