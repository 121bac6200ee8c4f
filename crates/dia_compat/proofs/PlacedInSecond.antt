-- AVPs that are where the first definition says are where the second says, if the second passes N1 to N9.
use Rattle.std.proofs.Common.{◌≡◌, ◌≢◌, ℕ, zero, suc, ◌+◌, ◌<◌, ◌≤◌, Bool, true, false, List, [], ◌∷◌, ◌++◌, Option, Some, None, refl, sym, ap, subst, ◌∙◌, arith, inl, inr}
use Rattle.std.specs.Prelude.{◌⊎◌, not, IsTrue, IfSome, IsSome, is_some, slice_get, get_or, count_by, if◌then◌else◌}
use Rattle.std.specs.Option.{option_map_or}
use Rattle.std.specs.List.{AllByRecursion}
use Rattle.std.proofs.lemmas.Bool.{false_from_ne_true}
use Rattle.std.proofs.lemmas.Option.{same_Some, slice_get-get_or, slice_get_within}
use Rattle.dia_wire.specs.declared.Key.{Key}
use Rattle.dia_book.specs.declared.DRule.{DRule}
use Rattle.dia_book.specs.Keys.{same_key}
use Rattle.dia_book.proofs.SameKeys.{same_key-refl, same_key-true}
use Rattle.dia_book.proofs.Members.{AreApart, AreApart-filter}
use Rattle.dia_book.specs.Dictionary.{Dictionary, AreRules, is_fixed}
use Rattle.dia_terms.specs.declared.Unknown.{Unknown}
use Rattle.dia_terms.specs.declared.Unknown.TheVariants.{Kept}
use Rattle.dia_valid.specs.Valid.{InBounds, fixed_rules, loose_rules, is_listed, is_wildcard, has_wildcard, MayBeLoose, counted, Placed}
use Rattle.dia_valid.proofs.LongestRuns.{AreDistinct}
use Rattle.dia_compat.specs.declared.checking.Test.TheVariants.{N1, N2, N3, N5, N6, N7, N8}
use Rattle.dia_compat.specs.Below.{MaxWithin, FixedWithin, IsAboveZero, IsKnown, DefBelow}
use Rattle.dia_valid.specs.Rules.{HasRule, HasWildcard}
use Rattle.dia_compat.proofs.RunsOfFixedRules.{in_bounds, max_within, Split, split}
use Rattle.dia_valid.proofs.Members.{IsIn, in_all, at_in, in_contains, contains_in, all_in, in_filter, into_filter, any_in, in_any}
use Rattle.dia_valid.proofs.RulesOfKeys.{IsRunKey, all_middle, listed, is_listed_by, times, not_same, runs_none, runs_some}
use Rattle.dia_valid.proofs.Members.{in_right, in_append, count_append, count_none, count_mono, count_in, none_or_some}

-- ---- rules

not_both : (b : Bool) → b ≡ true → b ≡ false → ⊥
not_both b e f = absurd (let h : true ≡ false = sym e ∙ f in cc)

none_of : {X : Type 0} (o : Option X) → not (is_some o) ≡ true → o ≡ None
none_of None h = refl
none_of (Some x) h = absurd (let e : false ≡ true = h in cc)

not_true : (b : Bool) → not b ≡ true → b ≡ false
not_true true h = absurd (let e : false ≡ true = h in cc)
not_true false h = refl

not_false : (b : Bool) → b ≡ false → not b ≡ true
not_false b h = ap not h

fixed_part : (rules : List DRule) (r : DRule) → IsIn r (fixed_rules rules) → IsIn r rules × (is_fixed r ≡ true)
fixed_part rules r h = in_filter is_fixed rules r h

loose_part : (rules : List DRule) (r : DRule) → IsIn r (loose_rules rules) → IsIn r rules × (is_fixed r ≡ false)
loose_part rules r h = let s = in_filter (λ (t : DRule). not (is_fixed t)) rules r h in (s.0, not_true (is_fixed r) s.1)

into_loose : (rules : List DRule) (r : DRule) → IsIn r rules → is_fixed r ≡ false → IsIn r (loose_rules rules)
into_loose rules r h e = into_filter (λ (t : DRule). not (is_fixed t)) rules r h (not_false (is_fixed r) e)

one_rule : (rules : List DRule) (r s : DRule) → AreRules rules → IsIn r rules → IsIn s rules → r.key ≡ s.key → r ≡ s
one_rule rules r s are i j e =
    let p = at_in rules r i in
    let q = at_in rules s j in
    let same : p.place ≡ q.place = are.distinct p.place q.place r s p.at q.at e in
    same_Some r s (sym p.at ∙ ap (λ (n : ℕ). slice_get rules n) same ∙ q.at)

wild_loose : (rules : List DRule) (v : DRule) → AreRules rules → IsIn v rules → v.key ≡ None → is_fixed v ≡ false
wild_loose rules v are i e = false_from_ne_true (is_fixed v) (λ f.
    let p = at_in rules v i in
    let within = slice_get_within rules p.place v p.at in
    let here : get_or rules p.place v ≡ v = same_Some (get_or rules p.place v) v (sym (slice_get-get_or rules p.place v within) ∙ p.at) in
    let some : IsSome v.key = subst (λ (t : DRule). IsTrue (is_fixed t) → IsSome t.key) here (are.fixed_keys p.place v within) f in
    not_both (is_some v.key) some (ap (λ (o : Option Key). is_some o) e))

apart_distinct : (rules : List DRule) → AreApart (λ (r : DRule). r.key) rules → AreDistinct rules
apart_distinct [] h = tt
apart_distinct (r ∷ rules) h = (
  all_in (λ (s : DRule). (key : Key) → r.key ≡ Some key → s.key ≢ Some key) rules (λ s i key e f.
      let p = at_in rules s i in
      let z : 0 ≡ suc p.place = h 0 (suc p.place) r s refl p.at (e ∙ sym f) in
      absurd (omega (arith, z))),
  apart_distinct rules (λ i j x y at at' same. let z : suc i ≡ suc j = h (suc i) (suc j) x y at at' same in omega (arith, z)),
)

fixed_distinct : (rules : List DRule) → AreRules rules → AreDistinct (fixed_rules rules)
fixed_distinct rules are = apart_distinct (fixed_rules rules) (AreApart-filter (λ (r : DRule). r.key) is_fixed rules are.distinct)

-- each fixed rule of the second's has the key of one of the first's
fixed_in : (fa fb : List DRule) (s : DRule) → FixedWithin fa fb → IsIn s fb → (r : DRule) × IsIn r fa × (r.key ≡ s.key)
fixed_in fa [] s w h = absurd h
fixed_in [] (t ∷ fb) s w h = absurd w
fixed_in (r ∷ fa) (t ∷ fb) s w (inl e) = (r, inl refl, w.0 ∙ ap (λ (x : DRule). x.key) (sym e))
fixed_in (r ∷ fa) (t ∷ fb) s w (inr h) = let ih = fixed_in fa fb s w.2 h in (ih.0, inr ih.1, ih.2)

-- ---- how often a key comes

abbrev pub strangers : List DRule → List Key → ℕ
strangers rules keys = count_by (λ q. not (is_listed rules q)) keys

counted_key : (rules : List DRule) (s : DRule) (keys : List Key) (k : Key) → s.key ≡ Some k → counted rules s keys ≡ times k keys
counted_key rules s keys k e = ap (λ (o : Option Key). count_by (λ (q : Key). if not (is_some o) then not (is_listed rules q) else option_map_or (same_key q) o false) keys) e

counted_wild : (rules : List DRule) (s : DRule) (keys : List Key) → s.key ≡ None → counted rules s keys ≡ strangers rules keys
counted_wild rules s keys e = ap (λ (o : Option Key). count_by (λ (q : Key). if not (is_some o) then not (is_listed rules q) else option_map_or (same_key q) o false) keys) e

above : (m : Option ℕ) (n : ℕ) → 1 ≤ n → IfSome m (λ k. n ≤ k) → IfSome m (λ k. 0 < k)
above None n one h = tt
above (Some k) n one h = omega (arith, one, h)

at_most : (m : Option ℕ) (n k : ℕ) → n ≤ k → IfSome m (λ l. k ≤ l) → IfSome m (λ l. n ≤ l)
at_most None n k le h = tt
at_most (Some l) n k le h = omega (arith, le, h)

none_at_all : (m : Option ℕ) (n : ℕ) → n ≡ 0 → IfSome m (λ l. n ≤ l)
none_at_all None n e = tt
none_at_all (Some l) n e = omega (arith, e)

zero_or : (n : ℕ) → (n ≡ 0) ⊎ (0 < n)
zero_or zero = inl refl
zero_or (suc n) = inr (omega arith)

-- ---- why a key comes

-- a rule lists it
pub record ByRule (rules : List DRule) (key : Key) : Type 0 where
  pub rule : DRule
  pub is_rule : IsIn rule rules
  pub is_key : rule.key ≡ Some key
  pub allowed : IsAboveZero rule.max

-- no rule lists it, and there is a wildcard
pub record ByWild (rules : List DRule) (key : Key) : Type 0 where
  pub wild : DRule
  pub is_rule : IsIn wild rules
  pub no_key : wild.key ≡ None
  pub unlisted : is_listed rules key ≡ false
  pub allowed : IsAboveZero wild.max

abbrev pub Comes : List DRule → Key → Type 0
Comes rules key = ByRule rules key ⊎ ByWild rules key

abbrev LooseBy : List DRule → Key → Type 0
LooseBy rules key = ByRule (loose_rules rules) key ⊎ ByWild rules key

module _ (a : List DRule) (ra : AreRules a) (keys : List Key) (placed : Placed a keys) where
  loose_by : (q : Key) → IsIn q placed.rest → LooseBy a q
  loose_by q i = by (in_all (MayBeLoose a) q placed.rest placed.loose i)
    where
      by : MayBeLoose a q → LooseBy a q
      by (inl h) =
          let r = listed (loose_rules a) q h in
          let bounds = in_all (λ (s : DRule). InBounds s (counted a s placed.rest)) r.0 (loose_rules a) placed.counts r.1 in
          let one = count_in (λ (x : Key). same_key x q) placed.rest q i (same_key-refl q) in
          let same = counted_key a r.0 placed.rest q r.2 in
          inl (record { rule = r.0; is_rule = r.1; is_key = r.2; allowed = above r.0.max (counted a r.0 placed.rest) (omega (arith, one, same)) bounds.1 })
      by (inr h) =
          let w = any_in is_wildcard a h.1 in
          let none = none_of w.0.key w.2 in
          let bounds = in_all (λ (s : DRule). InBounds s (counted a s placed.rest)) w.0 (loose_rules a) placed.counts (into_loose a w.0 w.1 (wild_loose a w.0 ra w.1 none)) in
          let one = count_in (λ (x : Key). not (is_listed a x)) placed.rest q i (not_false (is_listed a q) h.0) in
          let same = counted_wild a w.0 placed.rest none in
          inr (record { wild = w.0; is_rule = w.1; no_key = none; unlisted = h.0; allowed = above w.0.max (counted a w.0 placed.rest) (omega (arith, one, same)) bounds.1 })

  rest_comes : (q : Key) → LooseBy a q → Comes a q
  rest_comes q (inl r) = inl (record { rule = r.rule; is_rule = (loose_part a r.rule r.is_rule).0; is_key = r.is_key; allowed = r.allowed })
  rest_comes q (inr w) = inr w

  run_comes : (q : Key) (others : List DRule) → IsRunKey (fixed_rules a) others q → Comes a q
  run_comes q others k = inl (record { rule = k.rule; is_rule = (fixed_part a k.rule k.is_rule).0; is_key = k.is_key; allowed = k.allowed })

  -- each key comes by a rule or by the wildcard
  pub comes : (q : Key) → IsIn q keys → Comes a q
  comes q i = by (in_append m.0 placed.rest q (subst (λ (ks : List Key). IsIn q ks) m.1 i))
    where
      m : (middle : List Key) × (keys ≡ middle ++ placed.rest) × AllByRecursion (IsRunKey (fixed_rules a) []) middle
      m = all_middle (fixed_rules a) keys placed.rest placed.runs

      by : IsIn q m.0 ⊎ IsIn q placed.rest → Comes a q
      by (inl h) = run_comes q [] (in_all (IsRunKey (fixed_rules a) []) q m.0 m.2 h)
      by (inr h) = rest_comes q (loose_by q h)

  -- no fixed rule has the key of what follows the runs
  not_fixed : (q : Key) → LooseBy a q → (r : DRule) → IsIn r (fixed_rules a) → r.key ≢ Some q
  not_fixed q (inl l) r i e =
      let f = fixed_part a r i in
      let g = loose_part a l.rule l.is_rule in
      let same = one_rule a r l.rule ra f.0 g.0 (e ∙ sym l.is_key) in
      not_both (is_fixed r) f.1 (ap (λ (t : DRule). is_fixed t) same ∙ g.1)
  not_fixed q (inr w) r i e = not_both (is_listed a q) (is_listed_by a q r (fixed_part a r i).0 e) w.unlisted

-- ---- what is where a says is where b says

module _ (da db : Dictionary) (u : Unknown) (paired : (Key → Type 0)) (a b : List DRule) (ra : AreRules a) (rb : AreRules b) (below : DefBelow da db u paired a b) (keys : List Key)
    (placed : Placed a keys)
    (can : ((q : Key) → IsIn q keys → (u ≡ Kept) ⊎ IsKnown da q)) where
  abbrev parts : Split (fixed_rules a) (fixed_rules b) keys placed.rest
  parts = split (fixed_rules a) (fixed_rules b) keys placed.rest (below N1) (fixed_distinct a ra) placed.runs

  loose_at : (q : Key) → IsIn q placed.rest → LooseBy a q
  loose_at q i = loose_by a ra keys placed q i

  in_keys : (q : Key) → IsIn q placed.rest → IsIn q keys
  in_keys q i =
      let m = all_middle (fixed_rules a) keys placed.rest placed.runs in
      subst (λ (ks : List Key). IsIn q ks) (sym m.1) (in_right m.0 placed.rest q i)

  -- what follows b's runs comes by a rule of a's or by its wildcard
  after_comes : (q : Key) → IsIn q parts.following → Comes a q
  after_comes q i = by (in_append parts.middle placed.rest q (subst (λ (ks : List Key). IsIn q ks) parts.parts i))
    where
      by : IsIn q parts.middle ⊎ IsIn q placed.rest → Comes a q
      by (inl h) = run_comes a ra keys placed q (fixed_rules b) (in_all (IsRunKey (fixed_rules a) (fixed_rules b)) q parts.middle parts.each h)
      by (inr h) = rest_comes a ra keys placed q (loose_at q h)

  -- and has the key of no fixed rule of b's
  after_free : (q : Key) → IsIn q parts.following → (s : DRule) → IsIn s (fixed_rules b) → s.key ≢ Some q
  after_free q i s j e = by (in_append parts.middle placed.rest q (subst (λ (ks : List Key). IsIn q ks) parts.parts i))
    where
      by : IsIn q parts.middle ⊎ IsIn q placed.rest → ⊥
      by (inl h) = let k = in_all (IsRunKey (fixed_rules a) (fixed_rules b)) q parts.middle parts.each h in in_all (λ (t : DRule). t.key ≢ Some q) s (fixed_rules b) k.no_other j e
      by (inr h) = let r = fixed_in (fixed_rules a) (fixed_rules b) s (below N1) j in not_fixed a ra keys placed q (loose_at q h) r.0 r.1 (r.2 ∙ e)

  wildcard_of : (q : Key) → Comes a q → is_listed b q ≡ false → has_wildcard b ≡ true
  wildcard_of q (inl r) e =
      let w = below N3 q r.rule (contains_in a r.rule r.is_rule, r.is_key) r.allowed (λ l. not_both (is_listed b q) (is_listed_by b q l.0 (in_contains b l.0 l.1.0) l.1.1) e) in
      in_any is_wildcard b w.0 (in_contains b w.0 w.1.0) (ap (λ (o : Option Key). not (is_some o)) w.1.1)
  wildcard_of q (inr v) e =
      let w = below N6 v.wild (contains_in a v.wild v.is_rule, v.no_key) in
      in_any is_wildcard b w.0 (in_contains b w.0 w.1.0) (ap (λ (o : Option Key). not (is_some o)) w.1.1)

  may_be : (q : Key) → IsIn q parts.following → (c : Bool) → is_listed b q ≡ c → MayBeLoose b q
  may_be q i true e = by (is_fixed r.0) refl
    where
      r : (s : DRule) × IsIn s b × (s.key ≡ Some q)
      r = listed b q e

      by : (f : Bool) → is_fixed r.0 ≡ f → MayBeLoose b q
      by true f = absurd (after_free q i r.0 (into_filter is_fixed b r.0 r.1 f) r.2)
      by false f = inl (is_listed_by (loose_rules b) q r.0 (into_loose b r.0 r.1 f) r.2)
  may_be q i false e = inr (e, wildcard_of q (after_comes q i) e)

  -- ---- the counts of a key

  -- as many after b's runs as in all
  same_times : (s : DRule) (k : Key) → IsIn s b → is_fixed s ≡ false → s.key ≡ Some k → times k parts.following ≡ times k keys
  same_times s k i loose e = sym (runs_none (fixed_rules b) keys parts.following k parts.runs (all_in (λ (t : DRule). t.key ≢ Some k) (fixed_rules b) (λ t j f.
      let here = fixed_part b t j in
      let same = one_rule b t s rb here.0 i (f ∙ sym e) in
      not_both (is_fixed t) here.1 (ap (λ (x : DRule). is_fixed x) same ∙ loose))))

  none_in_rest : (r : DRule) (k : Key) → IsIn r (fixed_rules a) → r.key ≡ Some k → times k placed.rest ≡ 0
  none_in_rest r k i e = count_none (λ (q : Key). same_key q k) placed.rest (λ q j.
      not_same q k (λ same. not_fixed a ra keys placed q (loose_at q j) r i (e ∙ ap (λ (x : Key). Some x) (sym same))))

  -- the bounds of the key's rule in a hold of its number after b's runs
  in_own_bounds : (r : DRule) (k : Key) (c : Bool) → IsIn r a → r.key ≡ Some k → is_fixed r ≡ c → InBounds r (times k keys)
  in_own_bounds r k true i e f =
      let j = into_filter is_fixed a r i f in
      let n = runs_some (fixed_rules a) keys placed.rest k r placed.runs (fixed_distinct a ra) j e in
      let none = none_in_rest r k j e in
      let same : n.0 ≡ times k keys = omega (arith, n.1, none) in
      subst (InBounds r) same n.2
  in_own_bounds r k false i e f =
      let bounds = in_all (λ (s : DRule). InBounds s (counted a s placed.rest)) r (loose_rules a) placed.counts (into_loose a r i f) in
      let same = runs_none (fixed_rules a) keys placed.rest k placed.runs (all_in (λ (t : DRule). t.key ≢ Some k) (fixed_rules a) (λ t j g.
      let here = fixed_part a t j in
      let one = one_rule a t r ra here.0 i (g ∙ sym e) in
      not_both (is_fixed t) here.1 (ap (λ (x : DRule). is_fixed x) one ∙ f))) in
      subst (InBounds r) (counted_key a r placed.rest k e ∙ sym same) bounds

  -- a key that a does not list comes through its wildcard alone
  unlisted_times : (k : Key) → is_listed a k ≡ false → times k keys ≡ times k placed.rest
  unlisted_times k f = runs_none (fixed_rules a) keys placed.rest k placed.runs (all_in (λ (t : DRule). t.key ≢ Some k) (fixed_rules a) (λ t j g.
      not_both (is_listed a k) (is_listed_by a k t (fixed_part a t j).0 g) f))

  -- so there are no more of it than the wildcard allows
  wild_bounds : (v : DRule) → IsIn v a → v.key ≡ None → InBounds v (strangers a placed.rest)
  wild_bounds v i e =
      let bounds = in_all (λ (s : DRule). InBounds s (counted a s placed.rest)) v (loose_rules a) placed.counts (into_loose a v i (wild_loose a v ra i e)) in
      subst (InBounds v) (counted_wild a v placed.rest e) bounds

  through_wild : (s : DRule) (k q : Key) → HasRule b k s → is_listed a k ≡ false → IsIn q placed.rest → q ≡ k → LooseBy a q → IfSome s.max (λ m. times k placed.rest ≤ m)
  through_wild s k q h f i same (inl r) =
      let e : r.rule.key ≡ Some k = r.is_key ∙ ap (λ (x : Key). Some x) same in
      absurd (not_both (is_listed a k) (is_listed_by a k r.rule (loose_part a r.rule r.is_rule).0 e) f)
  through_wild s k q h f i same (inr w) =
      let known = subst (λ (x : Key). (u ≡ Kept) ⊎ IsKnown da x) same (can q (in_keys q i)) in
      let within = (below N5 k s h (λ l. not_both (is_listed a k) (is_listed_by a k l.0 (in_contains a l.0 l.1.0) l.1.1) f)).1 w.wild (contains_in a w.wild w.is_rule, w.no_key) known in
      let bounds = wild_bounds w.wild w.is_rule w.no_key in
      let le : times k placed.rest ≤ strangers a placed.rest = count_mono (λ (x : Key). same_key x k) (λ (x : Key). not (is_listed a x)) placed.rest (λ x j e.
      not_false (is_listed a x) (ap (λ (y : Key). is_listed a y) (same_key-true x k e) ∙ f)) in
      max_within w.wild.max s.max (times k placed.rest) within (at_most w.wild.max (times k placed.rest) (strangers a placed.rest) le bounds.1)

  new_max : (s : DRule) (k : Key) → HasRule b k s → is_listed a k ≡ false → ((q : Key) → IsIn q placed.rest → same_key q k ≡ false) ⊎
      ((q : Key) × IsIn q placed.rest × (same_key q k ≡ true)) → IfSome s.max (λ m. times k placed.rest ≤ m)
  new_max s k h f (inl none) = none_at_all s.max (times k placed.rest) (count_none (λ (q : Key). same_key q k) placed.rest none)
  new_max s k h f (inr (q, i, e)) = through_wild s k q h f i (same_key-true q k e) (loose_at q i)

  key_bounds : (s : DRule) (k : Key) (c : Bool) → IsIn s b → s.key ≡ Some k → is_listed a k ≡ c → InBounds s (times k keys)
  key_bounds s k true i e f =
      let r = listed a k f in
      in_bounds r.0 s (times k keys) (below N2 k r.0 s (contains_in a r.0 r.1, r.2) (contains_in b s i, e)) (in_own_bounds r.0 k (is_fixed r.0) r.1 r.2 refl)
  key_bounds s k false i e f =
      let h : HasRule b k s = (contains_in b s i, e) in
      let zero_min = (below N5 k s h (λ l. not_both (is_listed a k) (is_listed_by a k l.0 (in_contains a l.0 l.1.0) l.1.1) f)).0 in
      subst (InBounds s) (sym (unlisted_times k f)) (omega (arith, zero_min), new_max s k h f (none_or_some (λ (q : Key). same_key q k) placed.rest))

  -- ---- the count of the wildcard

  after_strangers : strangers b parts.following ≡ strangers b parts.middle + strangers b placed.rest
  after_strangers = ap (strangers b) parts.parts ∙ count_append (λ (q : Key). not (is_listed b q)) parts.middle placed.rest

  listed_too : (w : DRule) (max : ℕ) (q : Key) → HasWildcard b w → w.max ≡ Some max → ByRule a q → is_listed b q ≡ true
  listed_too w max q h e r =
      let l = (below N7 w max h e).0 q r.rule (contains_in a r.rule r.is_rule, r.is_key) r.allowed in
      is_listed_by b q l.0 (in_contains b l.0 l.1.0) l.1.1

  no_strangers : (w : DRule) (max : ℕ) → HasWildcard b w → w.max ≡ Some max → strangers b parts.middle ≡ 0
  no_strangers w max h e = count_none (λ (q : Key). not (is_listed b q)) parts.middle (λ q i.
      let k = in_all (IsRunKey (fixed_rules a) (fixed_rules b)) q parts.middle parts.each i in
      ap not (listed_too w max q h e (record { rule = k.rule; is_rule = (fixed_part a k.rule k.is_rule).0; is_key = k.is_key; allowed = k.allowed })))

  within_some : (v : Option ℕ) (max n : ℕ) → MaxWithin v (Some max) → IfSome v (λ l. n ≤ l) → n ≤ max
  within_some None max n w h = absurd w
  within_some (Some l) max n w h = omega (arith, w, h)

  still_unlisted : (w : DRule) (max : ℕ) (q : Key) → HasWildcard b w → w.max ≡ Some max → is_listed b q ≡ false → LooseBy a q → ByWild a q
  still_unlisted w max q h e f (inl r) = absurd (not_both (is_listed b q)
      (listed_too w max q h e (record { rule = r.rule; is_rule = (loose_part a r.rule r.is_rule).0; is_key = r.is_key; allowed = r.allowed })) f)
  still_unlisted w max q h e f (inr v) = v

  some_strangers : (w : DRule) (max : ℕ) → HasWildcard b w → w.max ≡ Some max → ((q : Key) → IsIn q placed.rest → not (is_listed b q) ≡ false) ⊎
      ((q : Key) × IsIn q placed.rest × (not (is_listed b q) ≡ true)) → strangers b placed.rest ≤ max
  some_strangers w max h e (inl none) = let z = count_none (λ (q : Key). not (is_listed b q)) placed.rest none in omega (arith, z)
  some_strangers w max h e (inr (q, i, f)) =
      let v = still_unlisted w max q h e (not_true (is_listed b q) f) (loose_at q i) in
      let bounds = wild_bounds v.wild v.is_rule v.no_key in
      let within = (below N7 w max h e).1 v.wild (contains_in a v.wild v.is_rule, v.no_key) in
      let le : strangers b placed.rest ≤ strangers a placed.rest = count_mono (λ (x : Key). not (is_listed b x)) (λ (x : Key). not (is_listed a x)) placed.rest (λ x j g.
      not_false (is_listed a x) (still_unlisted w max x h e (not_true (is_listed b x) g) (loose_at x j)).unlisted) in
      let most = within_some v.wild.max max (strangers a placed.rest) within bounds.1 in
      omega (arith, le, most)

  wild_max : (w : DRule) (m : Option ℕ) → HasWildcard b w → w.max ≡ m → IfSome m (λ l. strangers b parts.following ≤ l)
  wild_max w None h e = tt
  wild_max w (Some max) h e =
      let zeros = no_strangers w max h e in
      let most = some_strangers w max h e (none_or_some (λ (q : Key). not (is_listed b q)) placed.rest) in
      omega (arith, after_strangers, zeros, most)

  wild_min : (w : DRule) → HasWildcard b w → (w.min ≡ 0) ⊎ (0 < w.min) → w.min ≤ strangers b parts.following
  wild_min w h (inl z) = omega (arith, z)
  wild_min w h (inr pos) =
      let n8 = below N8 w h pos in
      let v = n8.0.0 in
      let bounds = wild_bounds v (in_contains a v n8.0.1.0) n8.0.1.1 in
      let le : strangers a placed.rest ≤ strangers b placed.rest = count_mono (λ (x : Key). not (is_listed a x)) (λ (x : Key). not (is_listed b x)) placed.rest (λ x j g.
      not_false (is_listed b x) (false_from_ne_true (is_listed b x) (λ f.
      let r = listed b x f in
      let l = n8.1 x (r.0, (contains_in b r.0 r.1, r.2)) in
      not_both (is_listed a x) (is_listed_by a x l.0 (in_contains a l.0 l.1.0) l.1.1) (not_true (is_listed a x) g)))) in
      let least : w.min ≤ v.min = n8.0.2 in
      let low : v.min ≤ strangers a placed.rest = bounds.0 in
      omega (arith, after_strangers, le, least, low)

  -- ---- all of it

  rule_bounds : (s : DRule) (o : Option Key) → IsIn s b → is_fixed s ≡ false → s.key ≡ o → InBounds s (counted b s parts.following)
  rule_bounds s (Some k) i loose e =
      subst (InBounds s) (sym (counted_key b s parts.following k e ∙ same_times s k i loose e)) (key_bounds s k (is_listed a k) i e refl)
  rule_bounds s None i loose e =
      let h : HasWildcard b s = (contains_in b s i, e) in
      subst (InBounds s) (sym (counted_wild b s parts.following e)) (wild_min s h (zero_or s.min), wild_max s s.max h refl)

  pub still_placed : Placed b keys
  still_placed = record {
    rest = parts.following;
    runs = parts.runs;
    loose = all_in (MayBeLoose b) parts.following (λ q i. may_be q i (is_listed b q) refl);
    counts = all_in (λ (s : DRule). InBounds s (counted b s parts.following)) (loose_rules b) (λ s i. let p = loose_part b s i in rule_bounds s s.key p.0 p.1 refl);
  }
