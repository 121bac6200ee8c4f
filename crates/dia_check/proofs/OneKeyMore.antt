-- Where one key more of a level leads, by its slot among the rules.
use Rattle.std.proofs.Common.{◌≡◌, ◌≢◌, ℕ, zero, suc, ◌+◌, ◌<◌, ◌≤◌, Bool, true, false, cond, List, [], ◌∷◌, ◌++◌, length, take}
use Rattle.std.proofs.Common.{drop, sum, Option, Some, None, refl, sym, ap, subst, ◌∙◌, arith, inl, inr, ⊎_elim}
use Rattle.std.specs.Prelude.{slice_get, slice_index, position, not, is_some, IsSome, count_by, ◌==◌, if◌then◌else◌, ◌⊎◌, IsTrue}
use Rattle.std.specs.List.{prefix_len, list_any}
use Rattle.std.specs.Option.{option_map_or}
use Rattle.std.proofs.lemmas.Bool.{eqb-true, eq-eqb, both_ways}
use Rattle.std.proofs.lemmas.List.{length-append, length-drop}
use Rattle.std.proofs.lemmas.List.Sums.{sum_by-cons, prefix_len-le-length}
use Rattle.std.proofs.lemmas.Option.{none-some, same_Some, slice_get_within}
use Rattle.dia_wire.specs.declared.Key.{Key}
use Rattle.dia_book.specs.declared.DRule.{DRule}
use Rattle.dia_book.specs.declared.Shape.{Shape}
use Rattle.dia_book.specs.Shapes.{IsShape}
use Rattle.dia_book.specs.declared.Slot.{Slot}
use Rattle.dia_book.specs.declared.Slot.TheVariants as slot
use Rattle.dia_book.specs.Dictionary.{AreRules, is_fixed, lists_key, slot_of, slot_at}
use Rattle.dia_book.proofs.Members.{position-is_some}
use Rattle.dia_valid.specs.Valid.{fixed_rules, is_listed, has_wildcard, is_wildcard}
use Rattle.dia_valid.specs.LongestRuns.{runs, met, loose_start}
use Rattle.dia_valid.specs.LongestRuns.{IsAt}
use Rattle.dia_check.specs.OpenLevels.{IsNotAllowed, Leads}
use Rattle.dia_valid.proofs.LongestRuns.{sum-cons, is_of-key}
use Rattle.dia_valid.proofs.RunsOfOneKeyMore.{is_of, NoneFrom, Reaches, one_more, same_runs, after_all, longer_run, in_run}
use Rattle.dia_valid.proofs.RuleCounts.{met_fixed, met_longer, met_more, counts_key, fixed_place, all_at, reached, length-runs, sum-runs}
use Rattle.dia_valid.proofs.Entries.{all_at as all_rules_at, at_position}
use Rattle.dia_check.proofs.FaultlessFronts.{at_any, any_at, listed_of, into_fixed}

-- ---- runs

one_more_below : (i j : ℕ) (ns : List ℕ) → j < i → slice_index (one_more i ns) j ≡ slice_index ns j
one_more_below i j [] lt = refl
one_more_below zero j (n ∷ ns) lt = absurd (omega (arith, lt))
one_more_below (suc i) zero (n ∷ ns) lt = refl
one_more_below (suc i) (suc j) (n ∷ ns) lt = one_more_below i j ns (omega (arith, lt))

take_one_more : (i j : ℕ) (ns : List ℕ) → j ≤ i → take j (one_more i ns) ≡ take j ns
take_one_more i j [] le = refl
take_one_more i zero (n ∷ ns) le = refl
take_one_more zero (suc j) (n ∷ ns) le = absurd (omega (arith, le))
take_one_more (suc i) (suc j) (n ∷ ns) le = ap (λ (ms : List ℕ). n ∷ ms) (take_one_more i j ns (omega (arith, le)))

one_more_here : (i : ℕ) (ns : List ℕ) → i < length ns → slice_index (one_more i ns) i ≡ slice_index ns i + 1
one_more_here i [] lt = absurd (omega (arith, lt))
one_more_here zero (n ∷ ns) lt = omega arith
one_more_here (suc i) (n ∷ ns) lt = one_more_here i ns (omega (arith, lt))

one_more_other : (i j : ℕ) (ns : List ℕ) → j ≢ i → slice_index (one_more i ns) j ≡ slice_index ns j
one_more_other i j [] ne = refl
one_more_other zero zero (n ∷ ns) ne = absurd (ne refl)
one_more_other zero (suc j) (n ∷ ns) ne = refl
one_more_other (suc i) zero (n ∷ ns) ne = refl
one_more_other (suc i) (suc j) (n ∷ ns) ne = one_more_other i j ns (λ e. ne (ap (λ (k : ℕ). suc k) e))

-- from the run that the keys end in on, the runs hold all of them
pub all_to : (rules : List DRule) (m j : ℕ) (keys : List Key) → m ≤ j → m < length rules → IsAt rules m keys → sum (take (suc j) (runs rules keys)) ≡ length keys
all_to [] m j keys le lt at = absurd (omega (arith, lt))
all_to (r ∷ rules) zero j keys le lt at =
    let n = prefix_len (is_of r) keys in
    let more = sum-take-runs rules j (drop n keys) in
    omega (arith, at, sum-cons n (take j (runs rules (drop n keys))), more, length-drop n keys)
  where
    sum-take-runs : (rs : List DRule) (k : ℕ) (ks : List Key) → sum (take k (runs rs ks)) ≤ length ks
    sum-take-runs rs zero ks = omega arith
    sum-take-runs [] (suc k) ks = omega arith
    sum-take-runs (s ∷ rs) (suc k) ks =
        let n = prefix_len (is_of s) ks in
        omega (arith, sum-cons n (take k (runs rs (drop n ks))), sum-take-runs rs k (drop n ks), length-drop n ks, prefix_len-le-length (is_of s) ks)
all_to (r ∷ rules) (suc m) zero keys le lt at = absurd (omega (arith, le))
all_to (r ∷ rules) (suc m) (suc j) keys le lt (less, at) =
    let n = prefix_len (is_of r) keys in
    omega (arith, less, sum-cons n (take (suc j) (runs rules (drop n keys))), all_to rules m j (drop n keys) (omega (arith, le)) (omega (arith, lt)) at, length-drop n keys)

pub at_within : (rules : List DRule) (m : ℕ) (keys : List Key) → IsAt rules m keys → m ≤ length rules
at_within [] m keys at = omega (arith, at)
at_within (r ∷ rules) zero keys at = omega arith
at_within (r ∷ rules) (suc m) keys (less, at) = omega (arith, at_within rules m (drop (prefix_len (is_of r) keys) keys) at)

-- ---- the rule of a key

reaches_of : (rules : List DRule) (m i : ℕ) (k : Key) (r : DRule) → m ≤ i → slice_get rules i ≡ Some r → is_of r k ≡ true
    → ((j : ℕ) (q : DRule) → slice_get rules j ≡ Some q → is_of q k ≡ true → j ≡ i) → Reaches rules m i k
reaches_of [] m i k r le at is only = absurd (none-some r at)
reaches_of (q ∷ rules) zero zero k r le at is only = ap (λ (x : DRule). is_of x k) (same_Some q r at) ∙ is
reaches_of (q ∷ rules) zero (suc i) k r le at is only =
    (by (is_of q k) refl, reaches_of rules 0 i k r (omega arith) at is (λ j x here h. let e = only (suc j) x here h in omega (arith, e)))
  where
    by : (b : Bool) → is_of q k ≡ b → is_of q k ≡ false
    by true h = let e = only 0 q refl h in absurd (omega (arith, e))
    by false h = h
reaches_of (q ∷ rules) (suc m) zero k r le at is only = absurd (omega (arith, le))
reaches_of (q ∷ rules) (suc m) (suc i) k r le at is only =
    reaches_of rules m i k r (omega (arith, le)) at is (λ j x here h. let e = only (suc j) x here h in omega (arith, e))

none_of : (rules : List DRule) (m : ℕ) (k : Key) → ((j : ℕ) (q : DRule) → m ≤ j → slice_get rules j ≡ Some q → is_of q k ≡ false) → NoneFrom rules m k
none_of [] m k each = tt
none_of (q ∷ rules) zero k each = (each 0 q (omega arith) refl, none_of rules 0 k (λ j x le at. each (suc j) x (omega arith) at))
none_of (q ∷ rules) (suc m) k each = none_of rules m k (λ j x le at. each (suc j) x (omega (arith, le)) at)

no_position : {X : Type 0} (p : X → Bool) (xs : List X) → position p xs ≡ None → list_any p xs ≡ false
no_position {X} p xs e = by (list_any p xs) refl
  where
    by : (b : Bool) → list_any p xs ≡ b → list_any p xs ≡ false
    by false h = h
    by true h =
        let (i, x, at, is) = any_at p xs h in
        let some : is_some (position p xs) ≡ true = position-is_some p xs i x at is in
        let none : is_some (position p xs) ≡ false = ap (λ (o : Option ℕ). is_some o) e in
        absurd (both_ways (is_some (position p xs)) none some)

abbrev FoundAt : List DRule → Key → Slot → Type 0
FoundAt rules key s = (j : ℕ) × (r : DRule) × (slice_get rules j ≡ Some r) × (lists_key key r ≡ true) × (s ≡ (if is_fixed r then slot.Fixed j else slot.Loose j))

slot_is : (rules : List DRule) (key : Key) (s : Slot) → s ≡ slot_of rules key → FoundAt rules key s ⊎ ((s ≡ slot.Unlisted) × (is_listed rules key ≡ false))
slot_is rules key s e = by (position (lists_key key) rules) refl
  where
    by : (o : Option ℕ) → position (lists_key key) rules ≡ o → FoundAt rules key s ⊎ ((s ≡ slot.Unlisted) × (is_listed rules key ≡ false))
    by None none = inr (e ∙ ap (λ (o : Option ℕ). option_map_or (slot_at rules) o slot.Unlisted) none, no_position (lists_key key) rules none)
    by (Some j) some =
        let (r, at, lists) = at_position (lists_key key) rules j some in
        inl (
          j,
          r,
          at,
          lists,
          e ∙ ap (λ (o : Option ℕ). option_map_or (slot_at rules) o slot.Unlisted) some
              ∙ ap (λ (o : Option DRule). option_map_or (λ rule. if is_fixed rule then slot.Fixed j else slot.Loose j) o slot.Unlisted) at,
        )

abbrev IsRuleOf : List DRule → Key → ℕ → Bool → Type 0
IsRuleOf rules key i fixed = (r : DRule) × (slice_get rules i ≡ Some r) × (is_fixed r ≡ fixed) × (lists_key key r ≡ true)

fixed_slot : (rules : List DRule) (key : Key) (i : ℕ) → slot.Fixed i ≡ slot_of rules key → IsRuleOf rules key i true
fixed_slot rules key i e = ⊎_elim (λ (j, r, at, lists, same). by j r at lists (is_fixed r) refl same) (λ h. absurd (let p = h.0 in cc)) (slot_is rules key (slot.Fixed i) e)
  where
    by : (j : ℕ) (r : DRule) → slice_get rules j ≡ Some r → lists_key key r ≡ true → (b : Bool) → is_fixed r ≡ b → slot.Fixed i ≡ (if b then slot.Fixed j else slot.Loose j) → IsRuleOf rules key i true
    by j r at lists true is same = let here : i ≡ j = cc in (r, ap (λ (k : ℕ). slice_get rules k) here ∙ at, is, lists)
    by j r at lists false is same = absurd cc

loose_slot : (rules : List DRule) (key : Key) (i : ℕ) → slot.Loose i ≡ slot_of rules key → IsRuleOf rules key i false
loose_slot rules key i e = ⊎_elim (λ (j, r, at, lists, same). by j r at lists (is_fixed r) refl same) (λ h. absurd (let p = h.0 in cc)) (slot_is rules key (slot.Loose i) e)
  where
    by : (j : ℕ) (r : DRule) → slice_get rules j ≡ Some r → lists_key key r ≡ true → (b : Bool) → is_fixed r ≡ b → slot.Loose i ≡ (if b then slot.Fixed j else slot.Loose j)
        → IsRuleOf rules key i false
    by j r at lists false is same = let here : i ≡ j = cc in (r, ap (λ (k : ℕ). slice_get rules k) here ∙ at, is, lists)
    by j r at lists true is same = absurd cc

unlisted_slot : (rules : List DRule) (key : Key) → slot.Unlisted ≡ slot_of rules key → is_listed rules key ≡ false
unlisted_slot rules key e = ⊎_elim (λ (j, r, at, lists, same). by j (is_fixed r) same) (λ h. h.1) (slot_is rules key slot.Unlisted e)
  where
    by : (j : ℕ) (b : Bool) → slot.Unlisted ≡ (if b then slot.Fixed j else slot.Loose j) → is_listed rules key ≡ false
    by j true same = absurd cc
    by j false same = absurd cc

count_one : (p : Key → Bool) (k : Key) → count_by p (k ∷ []) ≡ cond (p k) 1 0
count_one p k = let e = sum_by-cons (λ (x : Key). cond (p x) 1 0) k [] in omega (arith, e)

-- ---- the four ways that a key can lead

module _ (rules : List DRule) (are : AreRules rules) (keys : List Key) (key : Key) (start : ℕ) (ends : IsAt (fixed_rules rules) start keys) (shape : Shape)
    (is_shape : IsShape rules shape) where
  only_one : (i j : ℕ) (a b : DRule) → slice_get rules i ≡ Some a → lists_key key a ≡ true → slice_get rules j ≡ Some b → lists_key key b ≡ true → i ≡ j
  only_one i j a b at is at' is' = are.distinct i j a b at at' (is_of-key a key is ∙ sym (is_of-key b key is'))

  abbrev Counts : ℕ → Type 0
  Counts k = (k < length rules) × (¬ IsNotAllowed rules keys key)
      × ((j : ℕ) (other : DRule) → slice_get rules j ≡ Some other → met rules (keys ++ key ∷ []) j other ≡ met rules keys j other + (if j == k then 1 else 0))

  -- into the run of a fixed rule from the present one on
  pub leads_fixed : (i : ℕ) → start ≤ i → slot.Fixed i ≡ slot_of rules key → Leads rules keys key start i (Some i)
  leads_fixed i le e = record {
    at = inside;
    within = (omega (arith, lt), omega (arith, le, lt));
    same_runs = λ j before. ap (λ (ns : List ℕ). slice_index ns j) longer ∙ one_more_below i j (runs (fixed_rules rules) keys) before;
    passed = λ j from to. ap (λ (ns : List ℕ). sum (take (suc j) ns)) longer ∙ ap (λ (ns : List ℕ). sum ns) (take_one_more i (suc j) (runs (fixed_rules rules) keys) (omega (arith, to)))
        ∙ all_to (fixed_rules rules) start j keys from (omega (arith, le, lt)) ends;
    not_passed = λ j from to same. let all = all_to (fixed_rules rules) i j (keys ++ key ∷ []) from lt inside in let more = length-append keys (key ∷ []) in omega (arith, all, more, same);
    counts = λ k is. let here : i ≡ k = same_Some i k is in subst (Counts) here counts_here;
    counts_none = λ none. absurd (none-some i (sym none));
  }
    where
      rule : IsRuleOf rules key i true
      rule = fixed_slot rules key i e

      here_fixed : slice_get (fixed_rules rules) i ≡ Some rule.0
      here_fixed = into_fixed rules i rule.0 are rule.1 rule.2

      reach : Reaches (fixed_rules rules) start i key
      reach = reaches_of (fixed_rules rules) start i key rule.0 le here_fixed rule.3
          (λ j q at is. only_one j i q rule.0 (fixed_place rules j q are at).0 is rule.1 rule.3)

      lt : i < length (fixed_rules rules)
      lt = (reached (fixed_rules rules) start i key reach).1

      inside : IsAt (fixed_rules rules) i (keys ++ key ∷ [])
      inside = in_run (fixed_rules rules) start i keys key ends reach

      longer : runs (fixed_rules rules) (keys ++ key ∷ []) ≡ one_more i (runs (fixed_rules rules) keys)
      longer = longer_run (fixed_rules rules) start i keys key ends reach

      met_now : (j : ℕ) (other : DRule) → slice_get rules j ≡ Some other → met rules (keys ++ key ∷ []) j other ≡ met rules keys j other + (if j == i then 1 else 0)
      met_now j other at = by (is_fixed other) (j == i) refl refl (met_longer rules start i keys key j other ends reach)
        where
          by : (b same : Bool) → is_fixed other ≡ b → (j == i) ≡ same
              → met rules (keys ++ key ∷ []) j other ≡ (if b then slice_index (one_more i (runs (fixed_rules rules) keys)) j else met rules keys j other)
              → met rules (keys ++ key ∷ []) j other ≡ met rules keys j other + (if same then 1 else 0)
          by true true is same h =
              let one : j ≡ i = eqb-true j i same in
              let up = one_more_here i (runs (fixed_rules rules) keys) (omega (arith, lt, length-runs (fixed_rules rules) keys)) in
              let old = met_fixed rules keys j other is in
              let moved : slice_index (one_more i (runs (fixed_rules rules) keys)) j ≡ slice_index (runs (fixed_rules rules) keys) j + 1 = subst
              (λ (k : ℕ). slice_index (one_more i (runs (fixed_rules rules) keys)) k ≡ slice_index (runs (fixed_rules rules) keys) k + 1) (sym one) up in
              omega (arith, h, moved, old)
          by true false is same h =
              let other_place : j ≢ i = λ p. both_ways (j == i) same (eq-eqb j i p) in
              let kept = one_more_other i j (runs (fixed_rules rules) keys) other_place in
              let old = met_fixed rules keys j other is in
              omega (arith, h, kept, old)
          by false true is same h =
              let one : other ≡ rule.0 = same_Some other rule.0 (sym at ∙ ap (λ (k : ℕ). slice_get rules k) (eqb-true j i same) ∙ rule.1) in
              absurd (both_ways (is_fixed other) is (ap is_fixed one ∙ rule.2))
          by false false is same h = omega (arith, h)

      counts_here : Counts i
      counts_here = (
        slice_get_within rules i rule.0 rule.1,
        (λ bad. let all = all_at (fixed_rules rules) i (keys ++ key ∷ []) lt inside in let more = length-append keys (key ∷ []) in let le' = bad.0 in omega (arith, all, more, le')),
        met_now,
      )

  -- what counts a key after the runs
  abbrev CountsAfter : ℕ → Type 0
  CountsAfter i = (i < length rules) × (¬ (IsTrue (is_listed (fixed_rules rules) key) ⊎ ((is_listed rules key ≡ false) × (has_wildcard rules ≡ false))))
      × ((j : ℕ) (other : DRule) → slice_get rules j ≡ Some other → (if is_fixed other then false else counts_key rules other key) ≡ (j == i))

  -- a key that isn't allowed behind the runs is counted by no rule
  none_each : IsTrue (is_listed (fixed_rules rules) key) ⊎ ((is_listed rules key ≡ false) × (has_wildcard rules ≡ false)) → (j : ℕ) (other : DRule) → slice_get rules j ≡ Some other
      → (if is_fixed other then false else counts_key rules other key) ≡ false
  none_each bad j other at = by bad (is_fixed other) (is_wildcard other) (lists_key key other) refl refl refl
    where
      by : IsTrue (is_listed (fixed_rules rules) key) ⊎ ((is_listed rules key ≡ false) × (has_wildcard rules ≡ false)) → (b w lists : Bool) → is_fixed other ≡ b → is_wildcard other ≡ w
          → lists_key key other ≡ lists → (if b then false else (if w then not (is_listed rules key) else lists)) ≡ false
      by bad true w lists is is_w is_l = refl
      by (inl fixed) false true lists is is_w is_l = ap not (listed_of is_fixed rules key fixed)
      by (inr h) false true lists is is_w is_l = absurd (both_ways (has_wildcard rules) h.1 (at_any is_wildcard rules j other at is_w))
      by (inl fixed) false false true is is_w is_l =
          let (i, q, here, lists) = any_at (lists_key key) (fixed_rules rules) fixed in
          let place = fixed_place rules i q are here in
          let one : q ≡ other = same_Some q other (sym place.0 ∙ ap (λ (k : ℕ). slice_get rules k) (only_one i j q other place.0 lists at is_l) ∙ at) in
          absurd (both_ways (is_fixed other) is (ap is_fixed (sym one) ∙ place.1))
      by (inr h) false false true is is_w is_l = absurd (both_ways (is_listed rules key) h.0 (at_any (lists_key key) rules j other at is_l))
      by bad false false false is is_w is_l = refl

  leads_after : (o : Option ℕ) → NoneFrom (fixed_rules rules) start key → ((i : ℕ) → o ≡ Some i → CountsAfter i)
      → (o ≡ None → IsTrue (is_listed (fixed_rules rules) key) ⊎ ((is_listed rules key ≡ false) × (has_wildcard rules ≡ false)))
      → Leads rules keys key start shape.fixed o
  leads_after o none some_counts none_counts = subst (λ (n : ℕ). Leads rules keys key start n o) (sym is_shape.fixed) (record {
    at = after_all (fixed_rules rules) start keys key ends none;
    within = (omega arith, at_within (fixed_rules rules) start keys ends);
    same_runs = λ j before. ap (λ (ns : List ℕ). slice_index ns j) same;
    passed = λ j from to. ap (λ (ns : List ℕ). sum (take (suc j) ns)) same ∙ all_to (fixed_rules rules) start j keys from (omega (arith, from, to)) ends;
    not_passed = λ j from to. absurd (omega (arith, from, to));
    counts = λ i is. let (lt, allowed, each) = some_counts i is in
        (lt, (λ bad. allowed bad.1), λ j other at. by j other (is_fixed other) (j == i) (each j other at) (met_more rules start keys key j other ends none));
    counts_none = λ is. (
      (following, none_counts is),
      λ j other at. let same_count = by j other (is_fixed other) false (none_each (none_counts is) j other at) (met_more rules start keys key j other ends none) in omega (arith, same_count),
    );
  })
    where
      same : runs (fixed_rules rules) (keys ++ key ∷ []) ≡ runs (fixed_rules rules) keys
      same = same_runs (fixed_rules rules) start keys key ends none

      following : loose_start rules (keys ++ key ∷ []) ≤ length keys
      following = let e : loose_start rules (keys ++ key ∷ []) ≡ loose_start rules keys = ap (λ (ns : List ℕ). sum ns) same in omega (arith, e, sum-runs (fixed_rules rules) keys)

      by : (j : ℕ) (other : DRule) (b one : Bool) → (if b then false else counts_key rules other key) ≡ one
          → met rules (keys ++ key ∷ []) j other ≡ (if b then met rules keys j other else met rules keys j other + count_by (counts_key rules other) (key ∷ []))
          → met rules (keys ++ key ∷ []) j other ≡ met rules keys j other + (if one then 1 else 0)
      by j other true one e h = h ∙ no_more (met rules keys j other) e
        where
          no_more : (n : ℕ) → false ≡ one → n ≡ n + (if one then 1 else 0)
          no_more n p = let q : n ≡ n + 0 = omega arith in q ∙ ap (λ (x : Bool). n + (if x then 1 else 0)) p
      by j other false one e h = h ∙ ap (λ (n : ℕ). met rules keys j other + n) (count_one (counts_key rules other) key ∙ ap (λ (x : Bool). cond x 1 0) e)

  -- two places of one rule's key are one
  same_rule : (i j : ℕ) (a b : DRule) → i ≡ j → slice_get rules i ≡ Some a → slice_get rules j ≡ Some b → a ≡ b
  same_rule i j a b e at at' = same_Some a b (sym at ∙ ap (λ (k : ℕ). slice_get rules k) e ∙ at')

  -- no fixed rule from the present one on is the key's, where none of them lists it
  none_listed : ((j : ℕ) (q : DRule) → start ≤ j → slice_get rules j ≡ Some q → is_fixed q ≡ true → lists_key key q ≡ true → ⊥) → NoneFrom (fixed_rules rules) start key
  none_listed other = none_of (fixed_rules rules) start key (λ j q le at. let here = fixed_place rules j q are at in by q (lists_key key q) refl (other j q le here.0 here.1))
    where
      by : (q : DRule) (b : Bool) → lists_key key q ≡ b → (lists_key key q ≡ true → ⊥) → lists_key key q ≡ false
      by q true is h = absurd (h is)
      by q false is h = is

  -- a fixed rule whose run is over doesn't count it
  pub leads_past : (i : ℕ) → i < start → slot.Fixed i ≡ slot_of rules key → Leads rules keys key start shape.fixed None
  leads_past i lt e =
      let (r, at, fixed, lists) = fixed_slot rules key i e in
      leads_after None (none_listed (λ j q le at' fixed' lists'. let one = only_one j i q r at' lists' at lists in omega (arith, one, le, lt)))
      (λ k is. absurd (none-some k is)) (λ is. inl (at_any (lists_key key) (fixed_rules rules) i r (into_fixed rules i r are at fixed) lists))

  -- a loose rule counts it
  pub leads_loose : (i : ℕ) → slot.Loose i ≡ slot_of rules key → Leads rules keys key start shape.fixed (Some i)
  leads_loose i e = leads_after (Some i) (none_listed (λ j q le at fixed lists. not_fixed j q at fixed lists))
      (λ k is. subst CountsAfter (same_Some i k is) counts_here) (λ none. absurd (none-some i (sym none)))
    where
      rule : IsRuleOf rules key i false
      rule = loose_slot rules key i e

      not_fixed : (j : ℕ) (q : DRule) → slice_get rules j ≡ Some q → is_fixed q ≡ true → lists_key key q ≡ true → ⊥
      not_fixed j q at fixed lists =
          let one = only_one j i q rule.0 at lists rule.1 rule.3 in
          both_ways (is_fixed q) (ap is_fixed (same_rule j i q rule.0 one at rule.1) ∙ rule.2) fixed

      listed : is_listed rules key ≡ true
      listed = at_any (lists_key key) rules i rule.0 rule.1 rule.3

      allowed : ¬ (IsTrue (is_listed (fixed_rules rules) key) ⊎ ((is_listed rules key ≡ false) × (has_wildcard rules ≡ false)))
      allowed (inl is) =
          let (j, q, at, lists) = any_at (lists_key key) (fixed_rules rules) is in
          let here = fixed_place rules j q are at in
          not_fixed j q here.0 here.1 lists
      allowed (inr h) = both_ways (is_listed rules key) h.0 listed

      is_here : (j : ℕ) (other : DRule) → slice_get rules j ≡ Some other → (j == i) ≡ true → other ≡ rule.0
      is_here j other at same = same_rule j i other rule.0 (eqb-true j i same) at rule.1

      by_wildcard : (j : ℕ) (other : DRule) → slice_get rules j ≡ Some other → (w lists one : Bool) → is_wildcard other ≡ w → lists_key key other ≡ lists → (j == i) ≡ one
          → (if w then not (is_listed rules key) else lists) ≡ one
      by_wildcard j other at true lists true is_w is_l same =
          let kind : is_wildcard other ≡ false = ap is_wildcard (is_here j other at same) ∙ ap (λ (o : Option Key). not (is_some o)) (is_of-key rule.0 key rule.3) in
          absurd (both_ways (is_wildcard other) kind is_w)
      by_wildcard j other at true lists false is_w is_l same = ap not listed
      by_wildcard j other at false true true is_w is_l same = refl
      by_wildcard j other at false true false is_w is_l same = absurd (both_ways (j == i) same (eq-eqb j i (only_one j i other rule.0 at is_l rule.1 rule.3)))
      by_wildcard j other at false false true is_w is_l same = absurd (both_ways (lists_key key other) is_l (ap (lists_key key) (is_here j other at same) ∙ rule.3))
      by_wildcard j other at false false false is_w is_l same = refl

      by_kind : (j : ℕ) (other : DRule) → slice_get rules j ≡ Some other → (b one : Bool) → is_fixed other ≡ b → (j == i) ≡ one → (if b then false else counts_key rules other key) ≡ one
      by_kind j other at true true is same = absurd (both_ways (is_fixed other) (ap is_fixed (is_here j other at same) ∙ rule.2) is)
      by_kind j other at true false is same = refl
      by_kind j other at false one is same = by_wildcard j other at (is_wildcard other) (lists_key key other) one refl refl same

      counts_here : CountsAfter i
      counts_here = (slice_get_within rules i rule.0 rule.1, allowed, λ j other at. by_kind j other at (is_fixed other) (j == i) refl refl)

  no_key : (o : Option Key) → not (is_some o) ≡ true → o ≡ None
  no_key None h = refl
  no_key (Some k) h = absurd cc

  module _ (unlisted : is_listed rules key ≡ false) (i : ℕ) (wild : (w : DRule) × (slice_get rules i ≡ Some w) × (is_wildcard w ≡ true)) where
    wild_not_fixed : is_fixed wild.0 ≡ true → ⊥
    wild_not_fixed fixed =
        let some : is_some wild.0.key ≡ true = all_rules_at (λ (r : DRule). IsTrue (is_fixed r) → IsSome r.key) rules i wild.0 are.fixed_keys wild.1 fixed in
        let none : is_some wild.0.key ≡ false = ap (λ (o : Option Key). is_some o) (no_key wild.0.key wild.2) in
        both_ways (is_some wild.0.key) none some

    wild_allowed : ¬ (IsTrue (is_listed (fixed_rules rules) key) ⊎ ((is_listed rules key ≡ false) × (has_wildcard rules ≡ false)))
    wild_allowed (inl is) = both_ways (is_listed rules key) unlisted (listed_of is_fixed rules key is)
    wild_allowed (inr h) = both_ways (has_wildcard rules) h.1 (at_any is_wildcard rules i wild.0 wild.1 wild.2)

    wild_here : (j : ℕ) (other : DRule) → slice_get rules j ≡ Some other → (j == i) ≡ true → other ≡ wild.0
    wild_here j other at same = same_rule j i other wild.0 (eqb-true j i same) at wild.1

    wild_each : (j : ℕ) (other : DRule) → slice_get rules j ≡ Some other → (w lists one : Bool) → is_wildcard other ≡ w → lists_key key other ≡ lists → (j == i) ≡ one
        → (if w then not (is_listed rules key) else lists) ≡ one
    wild_each j other at true lists true is_w is_l same = ap not unlisted
    wild_each j other at true lists false is_w is_l same =
        absurd (both_ways (j == i) same (eq-eqb j i (are.distinct j i other wild.0 at wild.1 (no_key other.key is_w ∙ sym (no_key wild.0.key wild.2)))))
    wild_each j other at false true one is_w is_l same = absurd (both_ways (is_listed rules key) unlisted (at_any (lists_key key) rules j other at is_l))
    wild_each j other at false false true is_w is_l same = absurd (both_ways (is_wildcard other) is_w (ap is_wildcard (wild_here j other at same) ∙ wild.2))
    wild_each j other at false false false is_w is_l same = refl

    wild_kind : (j : ℕ) (other : DRule) → slice_get rules j ≡ Some other → (b one : Bool) → is_fixed other ≡ b → (j == i) ≡ one → (if b then false else counts_key rules other key) ≡ one
    wild_kind j other at true true is same = absurd (wild_not_fixed (sym (ap is_fixed (wild_here j other at same)) ∙ is))
    wild_kind j other at true false is same = refl
    wild_kind j other at false one is same = wild_each j other at (is_wildcard other) (lists_key key other) one refl refl same

    wildcard_counts : CountsAfter i
    wildcard_counts = (slice_get_within rules i wild.0 wild.1, wild_allowed, λ j other at. wild_kind j other at (is_fixed other) (j == i) refl refl)

  -- the wildcard counts it, where there is one
  pub leads_unlisted : slot.Unlisted ≡ slot_of rules key → Leads rules keys key start shape.fixed shape.wildcard
  leads_unlisted e = leads_after shape.wildcard (none_listed (λ j q le at fixed lists. not_listed j q at lists))
      (λ i is. wildcard_counts unlisted i (at_position is_wildcard rules i (sym is_shape.wildcard ∙ is))) (λ none. inr (unlisted, no_position is_wildcard rules (sym is_shape.wildcard ∙ none)))
    where
      unlisted : is_listed rules key ≡ false
      unlisted = unlisted_slot rules key e

      not_listed : (j : ℕ) (q : DRule) → slice_get rules j ≡ Some q → lists_key key q ≡ true → ⊥
      not_listed j q at lists = both_ways (is_listed rules key) unlisted (at_any (lists_key key) rules j q at lists)
