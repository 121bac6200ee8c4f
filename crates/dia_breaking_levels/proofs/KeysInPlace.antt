-- Keys that come as often as the rules say, and in the order of the fixed rules, are placed.
use Rattle.std.proofs.Common.{◌≡◌, ◌≢◌, ℕ, ◌≤◌, Bool, true, false, List, [], ◌∷◌, ◌++◌, length, Option, Some, None, refl, sym, ap, subst, ◌∙◌, arith, inl, inr}
use Rattle.std.specs.Prelude.{IsSome, slice_get}
use Rattle.std.specs.List.{AllByRecursion}
use Rattle.std.proofs.lemmas.Option.{same_Some}
use Rattle.dia_wire.specs.declared.Key.{Key}
use Rattle.dia_book.specs.declared.DRule.{DRule}
use Rattle.dia_book.specs.Keys.{same_key}
use Rattle.dia_book.specs.Dictionary.{AreRules, is_fixed, lists_key}
use Rattle.dia_book.proofs.SameKeys.{same_key-refl}
use Rattle.dia_valid.specs.Valid.{InBounds, Runs, Placed, MayBeLoose, fixed_rules, loose_rules, is_listed, counted}
use Rattle.dia_valid.proofs.LongestRuns.{AreDistinct}
use Rattle.dia_valid.proofs.RuleCounts.{fixed_place}
use Rattle.dia_valid.specs.Rules.{HasRule}
use Rattle.dia_valid.proofs.Members.{IsIn, in_all, all_map}
use Rattle.dia_valid.proofs.RulesOfKeys.{all_middle, listed, is_listed_by}
use Rattle.dia_valid.proofs.Members.{in_at, at_in, contains_in, all_in, into_filter, in_right, count_append, count_all}
use Rattle.dia_breaking_levels.specs.CountsAndRanks.{AreSound, times, rank, InOrder, AreInPlace}
use Rattle.dia_breaking_levels.proofs.CountsAndRanks.{rules_sound, key_of_test, lists, not_both, fixed_part, loose_part, into_loose}
use Rattle.dia_breaking_levels.proofs.CountsAndRanks.{fixed_key, fixed_distinct, counted_key, counted_wild, none_of, AreFree, first_rank}
use Rattle.dia_breaking_levels.proofs.CountsAndRanks.{later_rank, rank_at, rank_of_none, order_as, order_following, runs_listed, runs_loose}

-- keys in order begin with all of the first rule's key
record FirstRun (r : DRule) (keys : List Key) : Type 0 where
  run : List Key
  after : List Key
  parts : keys ≡ run ++ after
  all : AllByRecursion (λ key. r.key ≡ Some key) run
  no_more : (q : Key) → IsIn q after → r.key ≢ Some q

-- after a key of another rule the first rule's key does not come
none_after : (r : DRule) (rules : List DRule) (k : Key) (keys : List Key) → InOrder (r ∷ rules) (k ∷ keys) → r.key ≢ Some k → (q : Key) → IsIn q (k ∷ keys) → r.key ≢ Some q
none_after r rules k keys o other q (inl same) e = other (e ∙ ap (λ (x : Key). Some x) same)
none_after r rules k keys o other q (inr i) e =
    let le : rank (r ∷ rules) k ≤ rank (r ∷ rules) q = in_all (λ (x : Key). rank (r ∷ rules) k ≤ rank (r ∷ rules) x) q keys o.0 i in
    let zero_rank = first_rank r rules q e in
    let some_rank = later_rank r rules k other in
    omega (arith, le, zero_rank, some_rank)

first_run : (r : DRule) (rules : List DRule) (keys : List Key) → InOrder (r ∷ rules) keys → FirstRun r keys
first_run r rules [] o = record { run = []; after = []; parts = refl; all = tt; no_more = λ q i e. absurd i }
first_run r rules (k ∷ keys) o = by (lists_key k r) refl (first_run r rules keys o.1)
  where
    by : (b : Bool) → lists_key k r ≡ b → FirstRun r keys → FirstRun r (k ∷ keys)
    by true e t = record { run = k ∷ t.run; after = t.after; parts = ap (λ (ks : List Key). k ∷ ks) t.parts; all = (key_of_test k r.key e, t.all); no_more = t.no_more }
    by false e t = record {
      run = [];
      after = k ∷ keys;
      parts = refl;
      all = tt;
      no_more = none_after r rules k keys o (λ same. not_both (lists_key k r) (lists r k same) e);
    }

-- the first rule's key comes as often as its run is long
times_run : (r : DRule) (keys : List Key) (t : FirstRun r keys) (k : Key) → r.key ≡ Some k → times k keys ≡ length t.run
times_run r keys t k e =
    let here = ap (times k) t.parts in
    let both = count_append (λ (q : Key). same_key q k) t.run t.after in
    let ones = count_all (λ (q : Key). same_key q k) t.run (all_map (λ (q : Key). r.key ≡ Some q) (λ (q : Key). same_key q k ≡ true)
    (λ q f. ap (λ (x : Key). same_key x k) (same_Some q k (sym f ∙ e)) ∙ same_key-refl k) t.run t.all) in
    let zeros = none_of k t.after (λ q i same. t.no_more q i (e ∙ ap (λ (x : Key). Some x) (sym same))) in
    omega (arith, here, both, ones, zeros)

-- and another key as often as it does after the run
times_after : (r : DRule) (keys : List Key) (t : FirstRun r keys) (k : Key) → r.key ≢ Some k → times k keys ≡ times k t.after
times_after r keys t k other =
    let here = ap (times k) t.parts in
    let both = count_append (λ (q : Key). same_key q k) t.run t.after in
    let zeros = none_of k t.run (λ q i same. other (in_all (λ (key : Key). r.key ≡ Some key) q t.run t.all i ∙ ap (λ (x : Key). Some x) same)) in
    omega (arith, here, both, zeros)

record After (rules : List DRule) (keys : List Key) : Type 0 where
  rest : List Key
  runs : Runs rules keys rest
  free : AreFree rules rest

order_after : (r : DRule) (rules : List DRule) (keys : List Key) (t : FirstRun r keys) → InOrder (r ∷ rules) keys → InOrder rules t.after
order_after r rules keys t o =
    order_as (r ∷ rules) rules t.after (λ x y i j le. omega (arith, le, later_rank r rules x (t.no_more x i), later_rank r rules y (t.no_more y j)))
    (order_following (r ∷ rules) t.run t.after (subst (InOrder (r ∷ rules)) t.parts o))

some_of : (o : Option Key) → IsSome o → (k : Key) × (o ≡ Some k)
some_of None h = absurd (let e : false ≡ true = h in cc)
some_of (Some k) h = (k, refl)

free_after : (r : DRule) (rules : List DRule) (keys : List Key) (t : FirstRun r keys) (b : After rules t.after) → AreFree (r ∷ rules) b.rest
free_after r rules keys t b q s i (inr j) e = b.free q s i j e
free_after r rules keys t b q s i (inl same) e =
    let m = all_middle rules t.after b.rest b.runs in
    t.no_more q (subst (λ (ks : List Key). IsIn q ks) (sym m.1) (in_right m.0 b.rest q i)) (ap (λ (x : DRule). x.key) (sym same) ∙ e)

-- each of these rules' keys comes as often as the rule says
abbrev AreAsOften : List DRule → List Key → Type 0
AreAsOften rules keys = (k : Key) (r : DRule) → IsIn r rules → r.key ≡ Some k → InBounds r (times k keys)

often_after : (r : DRule) (rules : List DRule) (keys : List Key) (t : FirstRun r keys) → AreDistinct (r ∷ rules) → AreAsOften (r ∷ rules) keys → AreAsOften rules t.after
often_after r rules keys t distinct counts k s i e =
    subst (InBounds s) (times_after r keys t k (λ f. in_all (λ (x : DRule). (key : Key) → r.key ≡ Some key → x.key ≢ Some key) s rules distinct.0 i k f e)) (counts k s (inr i) e)

order_runs : (rules : List DRule) (keys : List Key) → AreDistinct rules → AllByRecursion (λ r. IsSome r.key) rules → AreAsOften rules keys → InOrder rules keys → After rules keys
order_runs [] keys distinct keyed counts o = record { rest = keys; runs = refl; free = λ q r i j e. absurd j }
order_runs (r ∷ rules) keys distinct keyed counts o =
    let t = first_run r rules keys o in
    let own = some_of r.key keyed.0 in
    let bounds : InBounds r (length t.run) = subst (InBounds r) (times_run r keys t own.0 own.1) (counts own.0 r (inl refl) own.1) in
    let b = order_runs rules t.after distinct.1 keyed.1 (often_after r rules keys t distinct counts) (order_after r rules keys t o) in
    record { rest = b.rest; runs = (t.run, t.after, t.parts, t.all, bounds, b.runs); free = free_after r rules keys t b }

module _ (rules : List DRule) (sound : AreSound rules) (keys : List Key) (h : AreInPlace rules keys) where
  following : After (fixed_rules rules) keys
  following = order_runs (fixed_rules rules) keys (fixed_distinct rules sound)
      (all_in (λ (r : DRule). IsSome r.key) (fixed_rules rules) (λ r i. let p = fixed_part rules r i in fixed_key rules r sound p.0 p.1))
      (λ k r i e. h.counts k r (contains_in rules r (fixed_part rules r i).0, e))
      h.order

  may_be : (q : Key) → IsIn q following.rest → MayBeLoose rules q
  may_be q i = by (is_listed rules q) refl
    where
      in_keys : IsIn q keys
      in_keys = let m = all_middle (fixed_rules rules) keys following.rest following.runs in subst (λ (ks : List Key). IsIn q ks) (sym m.1) (in_right m.0 following.rest q i)

      by_rule : (r : DRule) → IsIn r rules → r.key ≡ Some q → (f : Bool) → is_fixed r ≡ f → MayBeLoose rules q
      by_rule r j e true f = absurd (following.free q r i (into_filter is_fixed rules r j f) e)
      by_rule r j e false f = inl (is_listed_by (loose_rules rules) q r (into_loose rules r j f) e)

      by : (b : Bool) → is_listed rules q ≡ b → MayBeLoose rules q
      by true e = let r = listed rules q e in by_rule r.0 r.1 r.2 (is_fixed r.0) refl
      by false e = inr (e, h.allowed q (contains_in keys q in_keys) e)

  loose_bounds : (r : DRule) (o : Option Key) → IsIn r rules → is_fixed r ≡ false → r.key ≡ o → InBounds r (counted rules r following.rest)
  loose_bounds r (Some k) i f e =
      subst (InBounds r) (runs_loose rules keys following.rest r k sound following.runs i f e ∙ sym (counted_key rules r following.rest k e)) (h.counts k r (contains_in rules r i, e))
  loose_bounds r None i f e =
      subst (InBounds r) (runs_listed rules keys following.rest following.runs ∙ sym (counted_wild rules r following.rest e)) (h.others r (contains_in rules r i, e))

  are_placed : Placed rules keys
  are_placed = record {
    rest = following.rest;
    runs = following.runs;
    loose = all_in (MayBeLoose rules) following.rest may_be;
    counts = all_in (λ (r : DRule). InBounds r (counted rules r following.rest)) (loose_rules rules) (λ r i. let p = loose_part rules r i in loose_bounds r r.key p.0 p.1 refl);
  }

pub in_place-placed : (rules : List DRule) (keys : List Key) → AreSound rules → AreInPlace rules keys → Placed rules keys
in_place-placed rules keys sound h = are_placed rules sound keys h

-- ---- what ranks are

pub rank_fixed : (rules : List DRule) (i : ℕ) (r : DRule) (k : Key) → AreSound rules → slice_get (fixed_rules rules) i ≡ Some r → r.key ≡ Some k → rank (fixed_rules rules) k ≡ i
rank_fixed rules i r k sound at e = rank_at (fixed_rules rules) i r k (fixed_distinct rules sound) at e

pub rank_other : (rules : List DRule) (k : Key) → ((r : DRule) → HasRule (fixed_rules rules) k r → ⊥) → rank (fixed_rules rules) k ≡ length (fixed_rules rules)
rank_other rules k none = rank_of_none (fixed_rules rules) k (λ r i e. none r (contains_in (fixed_rules rules) r i, e))

-- where the fixed rules come first, a fixed rule's key ranks by the rule's place among all
pub rank_rule : (rules : List DRule) (i : ℕ) (r : DRule) (k : Key) → AreRules rules → slice_get rules i ≡ Some r → is_fixed r ≡ true → r.key ≡ Some k → rank (fixed_rules rules) k ≡ i
rank_rule rules i r k are at f e =
    let p = at_in (fixed_rules rules) r (into_filter is_fixed rules r (in_at rules i r at) f) in
    let same : p.place ≡ i = are.distinct p.place i r r (fixed_place rules p.place r are p.at).0 at refl in
    rank_fixed rules p.place r k (rules_sound rules are) p.at e ∙ same
