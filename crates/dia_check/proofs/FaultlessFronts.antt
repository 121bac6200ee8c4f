-- Where the whole is placed, no key of it is missing another, nor not allowed, nor one too many.
use Rattle.std.proofs.Common.{◌≡◌, ◌≢◌, ℕ, zero, suc, ◌+◌, ◌<◌, ◌≤◌, Bool, true, false, cond, List, [], ◌∷◌, ◌++◌, length}
use Rattle.std.proofs.Common.{take, drop, sum, filter, Option, Some, refl, sym, ap, subst, ◌∙◌, arith, inl, inr, ⊎_elim}
use Rattle.std.proofs.lemmas.Bool.{ltb-false, ltb-true, both_ways}
use Rattle.std.specs.Prelude.{nat_lt, slice_get, slice_index, not, if◌then◌else◌, ◌||◌, ◌⊎◌, IsTrue, IfSome}
use Rattle.std.specs.List.{prefix_len, list_any, AllByRecursion}
use Rattle.std.proofs.Math.ListN.{drop_of_length-le}
use Rattle.std.proofs.lemmas.List.{append-nil, drop-append-le, length-append, length-drop, drop-drop}
use Rattle.std.proofs.lemmas.List.Elements.{filter-append}
use Rattle.std.proofs.lemmas.List.Sums.{sum_by-append, prefix_len-le-length}
use Rattle.std.proofs.lemmas.Option.{none-some, same_Some}
use Rattle.dia_wire.specs.declared.Key.{Key}
use Rattle.dia_book.specs.declared.DRule.{DRule}
use Rattle.dia_book.specs.Dictionary.{AreRules, is_fixed, lists_key}
use Rattle.dia_book.proofs.Members.{at_filter, at_append}
use Rattle.dia_valid.specs.Valid.{InBounds, Placed, MayBeLoose, fixed_rules, loose_rules, counted, is_listed, has_wildcard}
use Rattle.dia_valid.specs.LongestRuns.{runs, met, loose_start, run_end}
use Rattle.dia_check.specs.Faults.{IsFirstShort}
use Rattle.dia_valid.proofs.LongestRuns.{AllInBounds, AreDistinct, AreOthers, runs_are_longest, sum-cons, is_of-key}
use Rattle.dia_valid.proofs.RunsOfOneKeyMore.{is_of, stops_inside, goes_on, runs_step, none_left}
use Rattle.dia_valid.proofs.RuleCounts.{met_fixed, met_loose, counts_key, fixed_place, all_by_places, filter_all, filter_none}

-- ---- the longest runs of a front

-- of no keys
pub zero_runs : (rules : List DRule) (i : ℕ) → slice_index (runs rules []) i ≡ 0
zero_runs [] i = refl
zero_runs (r ∷ rules) zero = refl
zero_runs (r ∷ rules) (suc i) = zero_runs rules i

inside_or_all : (r : DRule) (p : List Key) → (prefix_len (is_of r) p < length p) ⊎ (prefix_len (is_of r) p ≡ length p)
inside_or_all r p = by (nat_lt (prefix_len (is_of r) p) (length p)) refl
  where
    by : (b : Bool) → nat_lt (prefix_len (is_of r) p) (length p) ≡ b → (prefix_len (is_of r) p < length p) ⊎ (prefix_len (is_of r) p ≡ length p)
    by true e = inl (ltb-true (prefix_len (is_of r) p) (length p) e)
    by false e = let le = ltb-false (prefix_len (is_of r) p) (length p) e in let most = prefix_len-le-length (is_of r) p in inr (omega (arith, le, most))

-- a run that ends inside is the same in the whole
inside_runs : (r : DRule) (rules : List DRule) (p q : List Key) → prefix_len (is_of r) p < length p
    → runs (r ∷ rules) (p ++ q) ≡ prefix_len (is_of r) p ∷ runs rules (drop (prefix_len (is_of r) p) p ++ q)
inside_runs r rules p q less =
    let n = prefix_len (is_of r) p in
    runs_step r rules (p ++ q) (drop n p ++ q) n (stops_inside (is_of r) p q less) (drop-append-le n p q (omega (arith, less)))

-- one that takes all of the front leaves nothing for the later ones
all_runs : (r : DRule) (rules : List DRule) (p : List Key) → prefix_len (is_of r) p ≡ length p → runs (r ∷ rules) p ≡ length p ∷ runs rules []
all_runs r rules p all = runs_step r rules p [] (length p) all (none_left p)

cons_le : (n m : ℕ) (ns ms : List ℕ) (j : ℕ) → n ≤ m → ((i : ℕ) → slice_index ns i ≤ slice_index ms i) → slice_index (n ∷ ns) j ≤ slice_index (m ∷ ms) j
cons_le n m ns ms zero le h = le
cons_le n m ns ms (suc j) le h = h j

front_at : (r : DRule) (rules : List DRule) (p q : List Key) (j : ℕ)
    → ((i : ℕ) → slice_index (runs rules (drop (prefix_len (is_of r) p) p)) i ≤ slice_index (runs rules (drop (prefix_len (is_of r) p) p ++ q)) i)
    → (prefix_len (is_of r) p < length p) ⊎ (prefix_len (is_of r) p ≡ length p) → slice_index (runs (r ∷ rules) p) j ≤ slice_index (runs (r ∷ rules) (p ++ q)) j
front_at r rules p q j ih (inl less) =
    let n = prefix_len (is_of r) p in
    subst (λ (ns : List ℕ). slice_index (runs (r ∷ rules) p) j ≤ slice_index ns j) (sym (inside_runs r rules p q less))
    (cons_le n n (runs rules (drop n p)) (runs rules (drop n p ++ q)) j (omega arith) ih)
front_at r rules p q j ih (inr all) =
    let m = prefix_len (is_of r) (p ++ q) in
    let more : m ≡ length p + prefix_len (is_of r) q = goes_on (is_of r) p q all in
    subst (λ (ns : List ℕ). slice_index ns j ≤ slice_index (runs (r ∷ rules) (p ++ q)) j) (sym (all_runs r rules p all))
    (cons_le (length p) m (runs rules []) (runs rules (drop m (p ++ q))) j (omega (arith, more)) (λ i. let e = zero_runs rules i in omega (arith, e)))

pub front_le : (rules : List DRule) (p q : List Key) (j : ℕ) → slice_index (runs rules p) j ≤ slice_index (runs rules (p ++ q)) j
front_le [] p q j = omega arith
front_le (r ∷ rules) p q j = front_at r rules p q j (λ i. front_le rules (drop (prefix_len (is_of r) p) p) q i) (inside_or_all r p)

-- ---- what follows the runs of a front begins what follows those of the whole

abbrev after_runs : List DRule → List Key → List Key
after_runs rules keys = drop (sum (runs rules keys)) keys

after_cons : (r : DRule) (rules : List DRule) (keys rest : List Key) (n : ℕ) → runs (r ∷ rules) keys ≡ n ∷ runs rules rest → drop n keys ≡ rest → after_runs (r ∷ rules) keys ≡ after_runs rules rest
after_cons r rules keys rest n is cut =
    ap (λ (ns : List ℕ). drop (sum ns) keys) is ∙ ap (λ (k : ℕ). drop k keys) (sum-cons n (runs rules rest))
    ∙ sym (drop-drop (sum (runs rules rest)) n keys) ∙ ap (λ (t : List Key). drop (sum (runs rules rest)) t) cut

nothing_after : (rules : List DRule) → after_runs rules [] ≡ []
nothing_after rules = drop_of_length-le [] (omega arith)

rest_at : (r : DRule) (rules : List DRule) (p q : List Key) → ((t : List Key) × (after_runs rules (drop (prefix_len (is_of r) p) p ++ q) ≡ after_runs rules (drop (prefix_len (is_of r) p) p) ++ t))
    → (prefix_len (is_of r) p < length p) ⊎ (prefix_len (is_of r) p ≡ length p) → (t : List Key) × (after_runs (r ∷ rules) (p ++ q) ≡ after_runs (r ∷ rules) p ++ t)
rest_at r rules p q (t, ih) (inl less) =
    let n = prefix_len (is_of r) p in (
      t,
      after_cons r rules (p ++ q) (drop n p ++ q) n (inside_runs r rules p q less) (drop-append-le n p q (omega (arith, less)))
          ∙ ih ∙ ap (λ (x : List Key). x ++ t) (sym (after_cons r rules p (drop n p) n refl refl)),
    )
rest_at r rules p q ih (inr all) = (
  after_runs (r ∷ rules) (p ++ q),
  ap (λ (x : List Key). x ++ after_runs (r ∷ rules) (p ++ q))
      (sym (after_cons r rules p [] (length p) (all_runs r rules p all) (none_left p) ∙ nothing_after rules)),
)

pub front_rest : (rules : List DRule) (p q : List Key) → (t : List Key) × (after_runs rules (p ++ q) ≡ after_runs rules p ++ t)
front_rest [] p q = (q, refl)
front_rest (r ∷ rules) p q = rest_at r rules p q (front_rest rules (drop (prefix_len (is_of r) p) p) q) (inside_or_all r p)

-- ---- a run that ends before the front does is the same in the whole, and so are those before it

ended_same : (rules : List DRule) (p q : List Key) (i : ℕ) → sum (take (suc i) (runs rules p)) < length p → slice_index (runs rules (p ++ q)) i ≡ slice_index (runs rules p) i
ended_same [] p q i lt = refl
ended_same (r ∷ rules) p q zero lt =
    let n = prefix_len (is_of r) p in
    let e = sum-cons n [] in
    ap (λ (ns : List ℕ). slice_index ns 0) (inside_runs r rules p q (omega (arith, e, lt)))
ended_same (r ∷ rules) p q (suc i) lt =
    let n = prefix_len (is_of r) p in
    let e = sum-cons n (take (suc i) (runs rules (drop n p))) in
    let d = length-drop n p in
    ap (λ (ns : List ℕ). slice_index ns (suc i)) (inside_runs r rules p q (omega (arith, e, lt)))
    ∙ ended_same rules (drop n p) q i (omega (arith, e, d, lt))

-- ---- what is said of keys that are placed

pub at_any : {X : Type 0} (p : X → Bool) (xs : List X) (i : ℕ) (x : X) → slice_get xs i ≡ Some x → p x ≡ true → list_any p xs ≡ true
at_any p [] i x at h = absurd (none-some x at)
at_any p (y ∷ xs) zero x at h = ap (λ (b : Bool). b || list_any p xs) (ap p (same_Some y x at) ∙ h)
at_any p (y ∷ xs) (suc i) x at h = by (p y) (at_any p xs i x at h)
  where
    by : (b : Bool) → list_any p xs ≡ true → (b || list_any p xs) ≡ true
    by true e = refl
    by false e = e

pub any_at : {X : Type 0} (p : X → Bool) (xs : List X) → list_any p xs ≡ true → (i : ℕ) × (x : X) × (slice_get xs i ≡ Some x) × (p x ≡ true)
any_at p [] h = absurd (let e : false ≡ true = h in cc)
any_at {X} p (x ∷ xs) h = by (p x) refl h (any_at p xs)
  where
    by : (b : Bool) → p x ≡ b → (b || list_any p xs) ≡ true → (list_any p xs ≡ true → (i : ℕ) × (y : X) × (slice_get xs i ≡ Some y) × (p y ≡ true))
        → (i : ℕ) × (y : X) × (slice_get (x ∷ xs) i ≡ Some y) × (p y ≡ true)
    by true e g ih = (0, x, refl, e)
    by false e g ih = let r = ih g in (suc r.0, r.1, r.2, r.3)

-- a fixed rule and a loose one never list one key
pub one_kind : (rules : List DRule) (k : Key) → AreRules rules → is_listed (fixed_rules rules) k ≡ true → is_listed (loose_rules rules) k ≡ true → ⊥
one_kind rules k are f l =
    let (i, a, at, lists) = any_at (lists_key k) (fixed_rules rules) f in
    let (j, b, at', lists') = any_at (lists_key k) (loose_rules rules) l in
    let (i', here, fixed) = at_filter is_fixed rules i a at in
    let (j', here', loose) = at_filter (λ (r : DRule). not (is_fixed r)) rules j b at' in
    let same : i' ≡ j' = are.distinct i' j' a b here here' (is_of-key a k lists ∙ sym (is_of-key b k lists')) in
    let one : a ≡ b = same_Some a b (sym here ∙ ap (λ (n : ℕ). slice_get rules n) same ∙ here') in
    let e : not true ≡ true = ap not (sym fixed ∙ ap is_fixed one) ∙ loose in
    absurd cc

pub listed_of : (q : DRule → Bool) (rules : List DRule) (k : Key) → list_any (lists_key k) (filter q rules) ≡ true → is_listed rules k ≡ true
listed_of q rules k h =
    let (i, a, at, lists) = any_at (lists_key k) (filter q rules) h in
    let (j, here, kept) = at_filter q rules i a at in
    at_any (lists_key k) rules j a here lists

-- a key that may follow the runs is no fixed rule's, and listed or a wildcard's
pub may_be_allowed : (rules : List DRule) (k : Key) → AreRules rules → MayBeLoose rules k → ¬ (IsTrue (is_listed (fixed_rules rules) k) ⊎ ((is_listed rules k ≡ false) × (has_wildcard rules ≡ false)))
may_be_allowed rules k are (inl l) (inl f) = one_kind rules k are f l
may_be_allowed rules k are (inl l) (inr n) = both_ways (is_listed rules k) n.0 (listed_of (λ (r : DRule). not (is_fixed r)) rules k l)
may_be_allowed rules k are (inr w) (inl f) = both_ways (is_listed rules k) w.0 (listed_of is_fixed rules k f)
may_be_allowed rules k are (inr w) (inr n) = both_ways (has_wildcard rules) n.1 w.1

distinct_by_places : (rules : List DRule) → ((i j : ℕ) (a b : DRule) → slice_get rules i ≡ Some a → slice_get rules j ≡ Some b → a.key ≡ b.key → i ≡ j) → AreDistinct rules
distinct_by_places [] h = tt
distinct_by_places (r ∷ rules) h = (
  all_by_places (λ (s : DRule). (key : Key) → r.key ≡ Some key → s.key ≢ Some key) rules (λ i s at key is is'. let e = h 0 (suc i) r s refl at (is ∙ sym is') in absurd (omega (arith, e))),
  distinct_by_places rules (λ i j a b at at' same. let e = h (suc i) (suc j) a b at at' same in omega (arith, e)),
)

others_of : (rules : List DRule) (keys : List Key) → AreRules rules → AllByRecursion (MayBeLoose rules) keys → AreOthers (fixed_rules rules) keys
others_of rules [] are loose = all_by_places (λ (r : DRule). prefix_len (is_of r) [] ≡ 0) (fixed_rules rules) (λ i r at. refl)
others_of rules (k ∷ keys) are loose = all_by_places (λ (r : DRule). prefix_len (is_of r) (k ∷ keys) ≡ 0) (fixed_rules rules)
    (λ i r at. ap (λ (b : Bool). cond b (1 + prefix_len (is_of r) keys) 0) (no_key r (is_of r k) refl i at))
  where
    no_key : (r : DRule) (b : Bool) → is_of r k ≡ b → (i : ℕ) → slice_get (fixed_rules rules) i ≡ Some r → is_of r k ≡ false
    no_key r false e i at = e
    no_key r true e i at = absurd (may_be_allowed rules k are loose.0 (inl (at_any (lists_key k) (fixed_rules rules) i r at e)))

bounds_at : (rules : List DRule) (ns : List ℕ) (j : ℕ) (rule : DRule) → AllInBounds rules ns → slice_get rules j ≡ Some rule → InBounds rule (slice_index ns j)
bounds_at [] ns j rule h at = absurd (none-some rule at)
bounds_at (r ∷ rules) [] j rule h at = absurd h
bounds_at (r ∷ rules) (n ∷ ns) zero rule h at = subst (λ (s : DRule). InBounds s n) (same_Some r rule at) h.0
bounds_at (r ∷ rules) (n ∷ ns) (suc j) rule h at = bounds_at rules ns j rule h.1 at

-- a fixed rule has its place among the fixed ones
pub into_fixed : (rules : List DRule) (j : ℕ) (rule : DRule) → AreRules rules → slice_get rules j ≡ Some rule → is_fixed rule ≡ true → slice_get (fixed_rules rules) j ≡ Some rule
into_fixed rules j rule are at fixed_one =
    let (fixed, loose, parts, all, none) = are.fixed_first in
    let kept : fixed_rules rules ≡ fixed = ap (filter is_fixed) parts ∙ filter-append is_fixed fixed loose ∙ ap (λ (t : List DRule). t ++ filter is_fixed loose) (filter_all is_fixed fixed all)
    ∙ ap (λ (t : List DRule). fixed ++ t) (filter_none is_fixed loose none) ∙ append-nil fixed in
    ap (λ (t : List DRule). slice_get t j) kept ∙
    ⊎_elim (λ h. h) (λ h. absurd (both_ways (list_any is_fixed loose) none (at_any is_fixed loose h.0 rule h.2 fixed_one)))
    (at_append fixed loose j rule (ap (λ (t : List DRule). slice_get t j) (sym parts) ∙ at))

in_filter : {X : Type 0} (P : X → Type 0) (q : X → Bool) (xs : List X) (i : ℕ) (x : X) → AllByRecursion P (filter q xs) → slice_get xs i ≡ Some x → q x ≡ true → P x
in_filter P q [] i x all at h = absurd (none-some x at)
in_filter P q (y ∷ xs) zero x all at h =
    let e : filter q (y ∷ xs) ≡ y ∷ filter q xs = ap (λ (b : Bool). cond b (y ∷ filter q xs) (filter q xs)) (ap q (same_Some y x at) ∙ h) in
    let here : AllByRecursion P (y ∷ filter q xs) = subst (AllByRecursion P) e all in
    subst P (same_Some y x at) here.0
in_filter P q (y ∷ xs) (suc i) x all at h = by (q y) all (λ rest. in_filter P q xs i x rest at h)
  where
    by : (b : Bool) → AllByRecursion P (cond b (y ∷ filter q xs) (filter q xs)) → (AllByRecursion P (filter q xs) → P x) → P x
    by true all ih = ih all.1
    by false all ih = ih all

pub record Says (rules : List DRule) (keys : List Key) : Type 0 where
  pub each : (i : ℕ) (rule : DRule) → slice_get rules i ≡ Some rule → InBounds rule (met rules keys i rule)
  pub runs_fit : AllInBounds (fixed_rules rules) (runs (fixed_rules rules) keys)
  pub loose : AllByRecursion (MayBeLoose rules) (drop (loose_start rules keys) keys)

pub placed_says : (rules : List DRule) (keys : List Key) → AreRules rules → Placed rules keys → Says rules keys
placed_says rules keys are p =
    let distinct = distinct_by_places (fixed_rules rules) (λ i j a b at at' same. are.distinct i j a b (fixed_place rules i a are at).0 (fixed_place rules j b are at').0 same) in
    let longest = runs_are_longest (fixed_rules rules) keys p.rest p.runs distinct (others_of rules p.rest are p.loose) in
    record {
      each = λ i rule at. by longest i rule at (is_fixed rule) refl;
      runs_fit = longest.0;
      loose = subst (AllByRecursion (MayBeLoose rules)) (sym longest.1) p.loose;
    }
  where
    by : AllInBounds (fixed_rules rules) (runs (fixed_rules rules) keys) × (drop (sum (runs (fixed_rules rules) keys)) keys ≡ p.rest)
        → (i : ℕ) (rule : DRule) → slice_get rules i ≡ Some rule → (b : Bool) → is_fixed rule ≡ b → InBounds rule (met rules keys i rule)
    by longest i rule at true e = subst (InBounds rule) (sym (met_fixed rules keys i rule e))
        (bounds_at (fixed_rules rules) (runs (fixed_rules rules) keys) i rule longest.0 (into_fixed rules i rule are at e))
    by longest i rule at false e = subst (InBounds rule) (sym (met_loose rules keys i rule e ∙ ap (counted rules rule) longest.1))
        (in_filter (λ (r : DRule). InBounds r (counted rules r p.rest)) (λ (r : DRule). not (is_fixed r)) rules i rule p.counts at (ap not e))

-- ---- a key of the whole

met_le : (rules : List DRule) (p q : List Key) (i : ℕ) (rule : DRule) → met rules p i rule ≤ met rules (p ++ q) i rule
met_le rules p q i rule = by (is_fixed rule)
  where
    more : (t : List Key) → drop (loose_start rules (p ++ q)) (p ++ q) ≡ drop (loose_start rules p) p ++ t
        → counted rules rule (drop (loose_start rules p) p) ≤ counted rules rule (drop (loose_start rules (p ++ q)) (p ++ q))
    more t e =
        let f : counted rules rule (drop (loose_start rules (p ++ q)) (p ++ q)) ≡ counted rules rule (drop (loose_start rules p) p) + counted rules rule t
        = ap (counted rules rule) e ∙ sum_by-append (λ (x : Key). cond (counts_key rules rule x) 1 0) (drop (loose_start rules p) p) t in
        omega (arith, f)

    by : (b : Bool) → (if b then slice_index (runs (fixed_rules rules) p) i else counted rules rule (drop (loose_start rules p) p))
        ≤ (if b then slice_index (runs (fixed_rules rules) (p ++ q)) i else counted rules rule (drop (loose_start rules (p ++ q)) (p ++ q)))
    by true = front_le (fixed_rules rules) p q i
    by false = let r = front_rest (fixed_rules rules) p q in more r.0 r.1

all_middle : {X : Type 0} (P : X → Type 0) (xs : List X) (x : X) (ys : List X) → AllByRecursion P ((xs ++ x ∷ []) ++ ys) → P x
all_middle P [] x ys h = h.0
all_middle P (y ∷ xs) x ys h = all_middle P xs x ys h.1

at_most : (o : Option ℕ) (n max : ℕ) → IfSome o (λ m. n ≤ m) → o ≡ Some max → n ≤ max
at_most o n max h e = let k : IfSome (Some max) (λ (m : ℕ). n ≤ m) = subst (λ (x : Option ℕ). IfSome x (λ m. n ≤ m)) e h in k

pub not_missing_at : (rules : List DRule) (p : List Key) (k : Key) (q : List Key) → Says rules ((p ++ k ∷ []) ++ q) → (i : ℕ) (rule : DRule) → IsFirstShort rules (p ++ k ∷ []) i rule
    → run_end rules i (p ++ k ∷ []) ≢ length p
not_missing_at rules p k q says i rule first ends =
    let size = length-append p (k ∷ []) in
    let same = ended_same (fixed_rules rules) (p ++ k ∷ []) q i (omega (arith, size, ends)) in
    let enough = bounds_at (fixed_rules rules) (runs (fixed_rules rules) ((p ++ k ∷ []) ++ q)) i rule says.runs_fit first.is_rule in
    let least = enough.0 in
    let short = first.short in
    absurd (omega (arith, same, least, short))

pub allowed_at : (rules : List DRule) (p : List Key) (k : Key) (q : List Key) → Says rules ((p ++ k ∷ []) ++ q) → loose_start rules (p ++ k ∷ []) ≤ length p → MayBeLoose rules k
allowed_at rules p k q says le =
    let (t, is) = front_rest (fixed_rules rules) (p ++ k ∷ []) q in
    let cut : drop (loose_start rules (p ++ k ∷ [])) (p ++ k ∷ []) ≡ drop (loose_start rules (p ++ k ∷ [])) p ++ k ∷ [] = drop-append-le (loose_start rules (p ++ k ∷ [])) p (k ∷ []) le in
    all_middle (MayBeLoose rules) (drop (loose_start rules (p ++ k ∷ [])) p) k t (subst (AllByRecursion (MayBeLoose rules)) (is ∙ ap (λ (x : List Key). x ++ t) cut) says.loose)

pub few_at : (rules : List DRule) (p q : List Key) → Says rules (p ++ q) → (i : ℕ) (rule : DRule) (max : ℕ) → slice_get rules i ≡ Some rule → rule.max ≡ Some max → met rules p i rule ≤ max
few_at rules p q says i rule max at is =
    let le = met_le rules p q i rule in
    let most = at_most rule.max (met rules (p ++ q) i rule) max (says.each i rule at).1 is in
    omega (arith, le, most)
