-- The plan of a level is placed, and no keys that are placed cost less.
use Rattle.std.proofs.Common.{◌≡◌, ◌≢◌, ℕ, zero, suc, ◌+◌, ◌<◌, ◌≤◌, Bool, true, false, cond, List, [], ◌∷◌, ◌++◌, length, filter, Option, Some, None, refl, sym, ap, subst, ◌∙◌, append_assoc, arith, inl, inr}
use Rattle.std.specs.Prelude.{◌⊎◌, not, ◌&&◌, ◌||◌, IsTrue, IsSome, IfSome, is_some, count_by, if◌then◌else◌, Contains, ⊤}
use Rattle.std.specs.Option.{option_map_or}
use Rattle.std.specs.List.{list_all, list_any}
use Rattle.std.proofs.lemmas.Bool.{false_from_ne_true}
use Rattle.std.proofs.lemmas.List.{append-nil}
use Rattle.std.proofs.lemmas.List.Elements.{filter-append}
use Rattle.dia_wire.specs.declared.Key.{Key}
use Rattle.dia_book.specs.declared.DRule.{DRule}
use Rattle.dia_book.specs.Keys.{same_key}
use Rattle.dia_book.specs.Dictionary.{Dictionary, IsDictionary, PlainDefinition, AreRules, definitions, is_fixed}
use Rattle.dia_book.proofs.SameKeys.{same_key-refl, same_key-true}
use Rattle.dia_book.proofs.Members.{AreApart, AreApart-filter}
use Rattle.dia_valid.specs.Valid.{InBounds, Runs, Placed, MayBeLoose, fixed_rules, loose_rules, is_listed, is_wildcard, counted}
use Rattle.dia_valid.proofs.RuleCounts.{filter_all, filter_none, counts_key}
use Rattle.dia_valid.proofs.Members.{IsIn}
use Rattle.dia_valid.proofs.Members.{at_in, in_contains, contains_in, all_in, in_filter, in_any, in_append, count_cons, count_append, count_none, count_all}
use Rattle.dia_valid.proofs.RulesOfKeys.{is_listed_by}
use Rattle.dia_valid.proofs.Members.{all_of}
use Rattle.dia_breaking_levels.specs.CountsAndRanks.{AreSound, times, strangers, AreInPlace}
use Rattle.dia_breaking_levels.specs.LeastLevels.{total, copies, or_filler, planned, counts_part, plan_by, plan, CountsWild, IsFiller, IsCheapest}
use Rattle.dia_breaking_levels.proofs.CountsAndRanks.{placed-in_place}

pub not_both : (b : Bool) → b ≡ true → b ≡ false → ⊥
not_both b e f = absurd (let h : true ≡ false = sym e ∙ f in cc)

pub not_true : (b : Bool) → not b ≡ true → b ≡ false
not_true true h = absurd (let e : false ≡ true = h in cc)
not_true false h = refl

-- ---- what keys cost

pub total-append : (cost : Key → ℕ) (xs ys : List Key) → total cost (xs ++ ys) ≡ total cost xs + total cost ys
total-append cost [] ys = omega arith
total-append cost (x ∷ xs) ys = let ih = total-append cost xs ys in omega (arith, ih)

-- what those of the keys that pass a test cost
abbrev pub share : (Key → ℕ) → (Key → Bool) → List Key → ℕ
share cost p [] = 0
share cost p (key ∷ keys) = cond (p key) (cost key) 0 + share cost p keys

-- what a key costs, where those that pass the test are free
abbrev pub without : (Key → Bool) → (Key → ℕ) → Key → ℕ
without p cost key = cond (p key) 0 (cost key)

both_costs : (b : Bool) (n : ℕ) → n ≡ cond b n 0 + cond b 0 n
both_costs true n = omega arith
both_costs false n = omega arith

pub total_split : (cost : Key → ℕ) (p : Key → Bool) (keys : List Key) → total cost keys ≡ share cost p keys + total (without p cost) keys
total_split cost p [] = refl
total_split cost p (k ∷ keys) =
    let here = both_costs (p k) (cost k) in
    let ih = total_split cost p keys in
    omega (arith, here, ih)

one_as : (b : Bool) (m n : ℕ) → (b ≡ true → m ≡ n) → cond b m 0 ≡ cond b n 0
one_as true m n h = h refl
one_as false m n h = refl

share_as : (cost other : Key → ℕ) (p : Key → Bool) (keys : List Key) → ((q : Key) → p q ≡ true → cost q ≡ other q) → share cost p keys ≡ share other p keys
share_as cost other p [] h = refl
share_as cost other p (k ∷ keys) h =
    let here = one_as (p k) (cost k) (other k) (h k) in
    let ih = share_as cost other p keys h in
    omega (arith, here, ih)

-- the keys that each rule counts, rule by rule
abbrev pub shares : (DRule → Key → Bool) → (Key → ℕ) → List DRule → List Key → ℕ
shares f cost [] keys = 0
shares f cost (r ∷ rules) keys = share cost (f r) keys + shares f cost rules keys

-- no key is counted by two rules
abbrev pub CountApart : (DRule → Key → Bool) → List DRule → Type 0
CountApart f [] = ⊤
CountApart f (r ∷ rules) = ((s : DRule) → IsIn s rules → (q : Key) → f s q ≡ true → f r q ≡ false) × CountApart f rules

shares_as : (f : DRule → Key → Bool) (cost other : Key → ℕ) (rules : List DRule) (keys : List Key) → ((s : DRule) → IsIn s rules → (q : Key) → f s q ≡ true → cost q ≡ other q)
    → shares f cost rules keys ≡ shares f other rules keys
shares_as f cost other [] keys h = refl
shares_as f cost other (r ∷ rules) keys h =
    let here = share_as cost other (f r) keys (h r (inl refl)) in
    let ih = shares_as f cost other rules keys (λ s i. h s (inr i)) in
    omega (arith, here, ih)

pub shares_within : (f : DRule → Key → Bool) (cost : Key → ℕ) (rules : List DRule) (keys : List Key) → CountApart f rules → shares f cost rules keys ≤ total cost keys
shares_within f cost [] keys apart = omega arith
shares_within f cost (r ∷ rules) keys apart =
    let parts = total_split cost (f r) keys in
    let same = shares_as f cost (without (f r) cost) rules keys (λ s i q e. sym (ap (λ (b : Bool). cond b 0 (cost q)) (apart.0 s i q e))) in
    let ih = shares_within f (without (f r) cost) rules keys apart.1 in
    omega (arith, parts, same, ih)

abbrev pub one_if : Bool → ℕ
one_if b = cond b 1 0

-- n copies of a cheapest key cost no more than n keys or more
pub copies_within : (cost : Key → ℕ) (p : Key → Bool) (key : Key) (n : ℕ) (keys : List Key) → ((q : Key) → IsIn q keys → p q ≡ true → cost key ≤ cost q) → n ≤ count_by p keys
    → total cost (copies n key) ≤ share cost p keys
copies_within cost p key zero keys h le = omega arith
copies_within cost p key (suc n) [] h le = absurd (let none : suc n ≤ 0 = le in omega (arith, none))
copies_within cost p key (suc n) (k ∷ keys) h le = by (p k) refl (copies_within cost p key n keys (λ q i. h q (inr i))) (copies_within cost p key (suc n) keys (λ q i. h q (inr i)))
  where
    by : (b : Bool) → p k ≡ b → (n ≤ count_by p keys → total cost (copies n key) ≤ share cost p keys) → (suc n ≤ count_by p keys → total cost (copies (suc n) key) ≤ share cost p keys)
        → total cost (copies (suc n) key) ≤ cond b (cost k) 0 + share cost p keys
    by true e less same =
        let one : one_if (p k) ≡ 1 = ap one_if e in
        let ih = less (omega (arith, le, count_cons p k keys, one)) in
        let cheap = h k (inl refl) e in
        omega (arith, ih, cheap)
    by false e less same =
        let none : one_if (p k) ≡ 0 = ap one_if e in
        let ih = same (omega (arith, le, count_cons p k keys, none)) in
        omega (arith, ih)

-- ---- which keys a rule counts

key_of_test : (key : Key) (o : Option Key) → option_map_or (same_key key) o false ≡ true → o ≡ Some key
key_of_test key None h = absurd (let e : false ≡ true = h in cc)
key_of_test key (Some k) h = ap (λ (x : Key). Some x) (sym (same_key-true key k h))

abbrev pub by_key : List DRule → Key → Option Key → Bool
by_key rules q o = if not (is_some o) then not (is_listed rules q) else option_map_or (same_key q) o false

pub counts_own : (rules : List DRule) (r : DRule) (q : Key) → counts_key rules r q ≡ true → (r.key ≡ Some q) ⊎ ((r.key ≡ None) × (is_listed rules q ≡ false))
counts_own rules r q h = by r.key refl h
  where
    by : (o : Option Key) → r.key ≡ o → by_key rules q o ≡ true → (r.key ≡ Some q) ⊎ ((r.key ≡ None) × (is_listed rules q ≡ false))
    by None e t = inr (e, not_true (is_listed rules q) t)
    by (Some k) e t = inl (e ∙ key_of_test q (Some k) t)

counts_apart : (rules : List DRule) (r s : DRule) (q : Key) → IsIn r rules → IsIn s rules → r.key ≢ s.key → counts_key rules s q ≡ true → counts_key rules r q ≡ false
counts_apart rules r s q i j other h = false_from_ne_true (counts_key rules r q) (λ e. by (counts_own rules s q h) (counts_own rules r q e))
  where
    by : (s.key ≡ Some q) ⊎ ((s.key ≡ None) × (is_listed rules q ≡ false)) → (r.key ≡ Some q) ⊎ ((r.key ≡ None) × (is_listed rules q ≡ false)) → ⊥
    by (inl e) (inl f) = other (f ∙ sym e)
    by (inl e) (inr f) = not_both (is_listed rules q) (is_listed_by rules q s j e) f.1
    by (inr e) (inl f) = not_both (is_listed rules q) (is_listed_by rules q r i f) e.1
    by (inr e) (inr f) = other (f.0 ∙ sym e.0)

pub count_apart : (all rules : List DRule) → AreApart (λ (r : DRule). r.key) rules → ((r : DRule) → IsIn r rules → IsIn r all) → CountApart (counts_key all) rules
count_apart all [] apart among = tt
count_apart all (r ∷ rules) apart among = (
  (λ s i q e. counts_apart all r s q (among r (inl refl)) (among s (inr i))
      (λ same. let p = at_in rules s i in let z : 0 ≡ suc p.place = apart 0 (suc p.place) r s refl p.at same in absurd (omega (arith, z)))
      e),
  count_apart all rules (λ i j x y at at' same. let z : suc i ≡ suc j = apart (suc i) (suc j) x y at at' same in omega (arith, z)) (λ s i. among s (inr i)),
)

pub counted_key : (rules : List DRule) (r : DRule) (keys : List Key) (k : Key) → r.key ≡ Some k → counted rules r keys ≡ times k keys
counted_key rules r keys k e = ap (λ (o : Option Key). count_by (λ q. by_key rules q o) keys) e

pub counted_wild : (rules : List DRule) (r : DRule) (keys : List Key) → r.key ≡ None → counted rules r keys ≡ strangers rules keys
counted_wild rules r keys e = ap (λ (o : Option Key). count_by (λ q. by_key rules q o) keys) e

-- keys that are placed have as many of each rule as it says
pub counted_bounds : (rules : List DRule) (keys : List Key) (r : DRule) → AreInPlace rules keys → IsIn r rules → InBounds r (counted rules r keys)
counted_bounds rules keys r h i = by r.key refl
  where
    by : (o : Option Key) → r.key ≡ o → InBounds r (counted rules r keys)
    by (Some k) e = subst (InBounds r) (sym (counted_key rules r keys k e)) (h.counts k r (contains_in rules r i, e))
    by None e = subst (InBounds r) (sym (counted_wild rules r keys e)) (h.others r (contains_in rules r i, e))

-- ---- what is planned

-- keys that the rule counts, as many as it may have
pub record IsPart (rules : List DRule) (r : DRule) (keys : List Key) : Type 0 where
  pub own : (q : Key) → IsIn q keys → counts_key rules r q ≡ true
  pub bounds : InBounds r (length keys)

planned-append : (part : DRule → List Key) (xs ys : List DRule) → planned part (xs ++ ys) ≡ planned part xs ++ planned part ys
planned-append part [] ys = refl
planned-append part (x ∷ xs) ys = ap (λ (t : List Key). part x ++ t) (planned-append part xs ys) ∙ sym (append_assoc (part x) (planned part xs) (planned part ys))

in_planned : (part : DRule → List Key) (rules : List DRule) (q : Key) → IsIn q (planned part rules) → (r : DRule) × IsIn r rules × IsIn q (part r)
in_planned part [] q i = absurd i
in_planned part (r ∷ rules) q i = by (in_append (part r) (planned part rules) q i) (in_planned part rules q)
  where
    by : IsIn q (part r) ⊎ IsIn q (planned part rules) → (IsIn q (planned part rules) → (s : DRule) × IsIn s rules × IsIn q (part s)) → (s : DRule) × IsIn s (r ∷ rules) × IsIn q (part s)
    by (inl here) ih = (r, inl refl, here)
    by (inr more) ih = let s = ih more in (s.0, inr s.1, s.2)

-- a rule counts its own part alone
count_first : (f : DRule → Key → Bool) (part : DRule → List Key) (r : DRule) (rules : List DRule) → CountApart f (r ∷ rules)
    → ((s : DRule) → IsIn s (r ∷ rules) → (q : Key) → IsIn q (part s) → f s q ≡ true)
    → count_by (f r) (planned part (r ∷ rules)) ≡ length (part r)
count_first f part r rules apart own =
    let all = count_append (f r) (part r) (planned part rules) in
    let here = count_all (f r) (part r) (all_in (λ (q : Key). f r q ≡ true) (part r) (own r (inl refl))) in
    let none = count_none (f r) (planned part rules) (λ q i. let s = in_planned part rules q i in apart.0 s.0 s.1 q (own s.0 (inr s.1) q s.2)) in
    omega (arith, all, here, none)

pub count_planned : (f : DRule → Key → Bool) (part : DRule → List Key) (rules : List DRule) (r : DRule) → CountApart f rules → ((s : DRule) → IsIn s rules → (q : Key) → IsIn q (part s) → f s q ≡ true)
    → IsIn r rules → count_by (f r) (planned part rules) ≡ length (part r)
count_planned f part [] r apart own i = absurd i
count_planned f part (s ∷ rules) r apart own (inl same) =
    subst (λ (t : DRule). count_by (f t) (planned part (s ∷ rules)) ≡ length (part t)) (sym same) (count_first f part s rules apart own)
count_planned f part (s ∷ rules) r apart own (inr i) =
    let all = count_append (f r) (part s) (planned part rules) in
    let none = count_none (f r) (part s) (λ q j. false_from_ne_true (f r q) (λ e. not_both (f s q) (own s (inl refl) q j) (apart.0 r i q e))) in
    let ih = count_planned f part rules r apart.1 (λ t k. own t (inr k)) i in
    omega (arith, all, none, ih)

-- ---- fixed rules first

fixed_none : (rules : List DRule) → list_all is_fixed rules ≡ true → loose_rules rules ≡ []
fixed_none [] h = refl
fixed_none (r ∷ rules) h = by (is_fixed r) h (fixed_none rules)
  where
    by : (b : Bool) → (b && list_all is_fixed rules) ≡ true → (list_all is_fixed rules ≡ true → loose_rules rules ≡ []) → cond (not b) (r ∷ loose_rules rules) (loose_rules rules) ≡ []
    by true e ih = ih e
    by false e ih = absurd (let f : false ≡ true = e in cc)

loose_all : (rules : List DRule) → list_any is_fixed rules ≡ false → loose_rules rules ≡ rules
loose_all [] h = refl
loose_all (r ∷ rules) h = by (is_fixed r) h (loose_all rules)
  where
    by : (b : Bool) → (b || list_any is_fixed rules) ≡ false → (list_any is_fixed rules ≡ false → loose_rules rules ≡ rules) → cond (not b) (r ∷ loose_rules rules) (loose_rules rules) ≡ r ∷ rules
    by false e ih = ap (λ (t : List DRule). r ∷ t) (ih e)
    by true e ih = absurd (let f : true ≡ false = e in cc)

fixed_then_loose : (rules : List DRule) → AreRules rules → rules ≡ fixed_rules rules ++ loose_rules rules
fixed_then_loose rules are =
    let (fixed, loose, parts, all, none) = are.fixed_first in
    let kept : fixed_rules rules ≡ fixed = ap (filter is_fixed) parts ∙ filter-append is_fixed fixed loose ∙ ap (λ (t : List DRule). t ++ filter is_fixed loose) (filter_all is_fixed fixed all)
    ∙ ap (λ (t : List DRule). fixed ++ t) (filter_none is_fixed loose none) ∙ append-nil fixed in
    let left : loose_rules rules ≡ loose = ap loose_rules parts ∙ filter-append (λ (r : DRule). not (is_fixed r)) fixed loose ∙ ap (λ (t : List DRule). t ++ loose_rules loose) (fixed_none fixed all)
    ∙ loose_all loose none in
    parts ∙ ap (λ (t : List DRule). t ++ loose) (sym kept) ∙ ap (λ (t : List DRule). fixed_rules rules ++ t) (sym left)

-- ---- what is planned is placed

own_key : (rules : List DRule) (r : DRule) (q : Key) → IsSome r.key → counts_key rules r q ≡ true → r.key ≡ Some q
own_key rules r q some h = by (counts_own rules r q h)
  where
    by : (r.key ≡ Some q) ⊎ ((r.key ≡ None) × (is_listed rules q ≡ false)) → r.key ≡ Some q
    by (inl e) = e
    by (inr e) = absurd (not_both (is_some r.key) some (ap (λ (o : Option Key). is_some o) e.0))

runs_planned : (all : List DRule) (part : DRule → List Key) (rules : List DRule) (rest : List Key) → ((r : DRule) → IsIn r rules → IsPart all r (part r)) → ((r : DRule) → IsIn r rules → IsSome r.key)
    → Runs rules (planned part rules ++ rest) rest
runs_planned all part [] rest parts keyed = refl
runs_planned all part (r ∷ rules) rest parts keyed = (
  part r,
  planned part rules ++ rest,
  append_assoc (part r) (planned part rules) rest,
  all_in (λ (q : Key). r.key ≡ Some q) (part r) (λ q i. own_key all r q (keyed r (inl refl)) ((parts r (inl refl)).own q i)),
  (parts r (inl refl)).bounds,
  runs_planned all part rules rest (λ s i. parts s (inr i)) (λ s i. keyed s (inr i)),
)

module _ (rules : List DRule) (are : AreRules rules) (part : DRule → List Key) (parts : (r : DRule) → IsIn r rules → IsPart rules r (part r)) where
  loose_part : (r : DRule) → IsIn r (loose_rules rules) → IsIn r rules
  loose_part r i = (in_filter (λ (t : DRule). not (is_fixed t)) rules r i).0

  fixed_keyed : (r : DRule) → IsIn r (fixed_rules rules) → IsSome r.key
  fixed_keyed r i = let p = in_filter is_fixed rules r i in all_of (λ (t : DRule). IsTrue (is_fixed t) → IsSome t.key) rules r are.fixed_keys p.0 p.1

  abbrev loose_keys : List Key
  loose_keys = planned part (loose_rules rules)

  may_be : (q : Key) → IsIn q loose_keys → MayBeLoose rules q
  may_be q i = let s = in_planned part (loose_rules rules) q i in by s.0 s.1 (counts_own rules s.0 q ((parts s.0 (loose_part s.0 s.1)).own q s.2))
    where
      by : (r : DRule) → IsIn r (loose_rules rules) → (r.key ≡ Some q) ⊎ ((r.key ≡ None) × (is_listed rules q ≡ false)) → MayBeLoose rules q
      by r j (inl e) = inl (is_listed_by (loose_rules rules) q r j e)
      by r j (inr e) = inr (e.1, in_any is_wildcard rules r (loose_part r j) (ap (λ (o : Option Key). not (is_some o)) e.0))

  loose_bounds : (r : DRule) → IsIn r (loose_rules rules) → InBounds r (counted rules r loose_keys)
  loose_bounds r i =
      let apart = count_apart rules (loose_rules rules) (AreApart-filter (λ (t : DRule). t.key) (λ (t : DRule). not (is_fixed t)) rules are.distinct) loose_part in
      let many = count_planned (counts_key rules) part (loose_rules rules) r apart (λ s j. (parts s (loose_part s j)).own) i in
      subst (InBounds r) (sym many) (parts r (loose_part r i)).bounds

  in_parts : Placed rules (planned part (fixed_rules rules) ++ loose_keys)
  in_parts = record {
    rest = loose_keys;
    runs = runs_planned rules part (fixed_rules rules) loose_keys (λ r i. parts r (in_filter is_fixed rules r i).0) fixed_keyed;
    loose = all_in (MayBeLoose rules) loose_keys may_be;
    counts = all_in (λ (r : DRule). InBounds r (counted rules r loose_keys)) (loose_rules rules) loose_bounds;
  }

-- parts in bounds, of keys that their rules count, are placed
pub planned_placed : (rules : List DRule) (part : DRule → List Key) → AreRules rules → ((r : DRule) → IsIn r rules → IsPart rules r (part r)) → Placed rules (planned part rules)
planned_placed rules part are parts =
    let e : planned part rules ≡ planned part (fixed_rules rules) ++ planned part (loose_rules rules) =
    ap (planned part) (fixed_then_loose rules are) ∙ planned-append part (fixed_rules rules) (loose_rules rules) in
    subst (Placed rules) (sym e) (in_parts rules are part parts)

-- ---- what is planned is least

-- parts that cost no more than the keys that their rules count
pub planned_least : (rules : List DRule) (part : DRule → List Key) (cost : Key → ℕ) (keys : List Key) → AreSound rules
    → ((r : DRule) → IsIn r rules → total cost (part r) ≤ share cost (counts_key rules r) keys)
    → total cost (planned part rules) ≤ total cost keys
planned_least rules part cost keys sound each =
    let within = shares_within (counts_key rules) cost rules keys (count_apart rules rules sound.distinct (λ r i. i)) in
    let le = parts_within rules each in
    omega (arith, within, le)
  where
    parts_within : (some : List DRule) → ((r : DRule) → IsIn r some → total cost (part r) ≤ share cost (counts_key rules r) keys)
        → total cost (planned part some) ≤ shares (counts_key rules) cost some keys
    parts_within [] h = omega arith
    parts_within (r ∷ some) h =
        let here = h r (inl refl) in
        let ih = parts_within some (λ s i. h s (inr i)) in
        let all = total-append cost (part r) (planned part some) in
        omega (arith, here, ih, all)

-- ---- each rule's key n times

pub in_copies : (n : ℕ) (k q : Key) → IsIn q (copies n k) → (q ≡ k) × (0 < n)
in_copies zero k q i = absurd i
in_copies (suc n) k q (inl e) = (e, omega arith)
in_copies (suc n) k q (inr i) = ((in_copies n k q i).0, omega arith)

pub length_copies : (n : ℕ) (k : Key) → length (copies n k) ≡ n
length_copies zero k = refl
length_copies (suc n) k = ap suc (length_copies n k)

pub counts_by : (rules : List DRule) (r : DRule) (q : Key) (o : Option Key) → r.key ≡ o → by_key rules q o ≡ true → counts_key rules r q ≡ true
counts_by rules r q o e h = ap (by_key rules q) e ∙ h

-- the filler serves where the wildcard's part has any
pub copies_part : (rules : List DRule) (filler : Key) (r : DRule) (n : ℕ) → IsIn r rules → (r.key ≡ None → 0 < n → is_listed rules filler ≡ false) → InBounds r n
    → IsPart rules r (copies n (or_filler filler r.key))
copies_part rules filler r n i free bounds = record {
  own = λ q j. let s = in_copies n (or_filler filler r.key) q j in by q r.key refl s.0 s.1;
  bounds = subst (InBounds r)
      (sym (length_copies n (or_filler filler r.key))) bounds;
}
  where
    by : (q : Key) (o : Option Key) → r.key ≡ o → q ≡ or_filler filler o → 0 < n → counts_key rules r q ≡ true
    by q None e same some = counts_by rules r q None e (ap (λ (x : Key). not (is_listed rules x)) same ∙ ap not (free e some))
    by q (Some k) e same some = counts_by rules r q (Some k) e (ap (λ (x : Key). same_key x k) same ∙ same_key-refl k)

pub copies_least : (rules : List DRule) (cost : Key → ℕ) (filler : Key) (keys : List Key) (r : DRule) (n : ℕ)
    → (r.key ≡ None → 0 < n → (q : Key) → Contains keys q → is_listed rules q ≡ false → cost filler ≤ cost q) → n ≤ counted rules r keys
    → total cost (copies n (or_filler filler r.key)) ≤ share cost (counts_key rules r) keys
copies_least rules cost filler keys r zero cheap le = omega arith
copies_least rules cost filler keys r (suc n) cheap le = copies_within cost (counts_key rules r) (or_filler filler r.key) (suc n) keys (λ q i h. by q i (counts_own rules r q h)) le
  where
    by : (q : Key) → IsIn q keys → (r.key ≡ Some q) ⊎ ((r.key ≡ None) × (is_listed rules q ≡ false)) → cost (or_filler filler r.key) ≤ cost q
    by q i (inl e) = let same : cost (or_filler filler r.key) ≡ cost q = ap (λ (o : Option Key). cost (or_filler filler o)) e in omega (arith, same)
    by q i (inr e) =
        let same : cost (or_filler filler r.key) ≡ cost filler = ap (λ (o : Option Key). cost (or_filler filler o)) e.0 in
        let more : cost filler ≤ cost q = cheap e.0 (omega arith) q (contains_in keys q i) e.1 in
        omega (arith, same, more)

-- ---- any counts in bounds

by_parts : (rules : List DRule) (count : DRule → ℕ) (filler : Key) → ((r : DRule) → Contains rules r → InBounds r (count r)) → (CountsWild count rules → is_listed rules filler ≡ false)
    → (r : DRule) → IsIn r rules → IsPart rules r (counts_part count filler r)
by_parts rules count filler bounds free r i = copies_part rules filler r (count r) i (λ e some. free (r, (contains_in rules r i, e), some)) (bounds r (contains_in rules r i))

pub plan_by_placed : (rules : List DRule) (count : DRule → ℕ) (filler : Key) → AreRules rules → ((r : DRule) → Contains rules r → InBounds r (count r))
    → (CountsWild count rules → is_listed rules filler ≡ false) → Placed rules (plan_by count filler rules)
plan_by_placed rules count filler are bounds free = planned_placed rules (counts_part count filler) are (by_parts rules count filler bounds free)

-- keys of which each rule counts as many or more cost no less
pub plan_by_least : (rules : List DRule) (count : DRule → ℕ) (filler : Key) (cost : Key → ℕ) (keys : List Key) → AreSound rules → ((r : DRule) → Contains rules r → count r ≤ counted rules r keys)
    → (CountsWild count rules → (key : Key) → Contains keys key → is_listed rules key ≡ false → cost filler ≤ cost key) → total cost (plan_by count filler rules) ≤ total cost keys
plan_by_least rules count filler cost keys sound often_enough cheap = planned_least rules (counts_part count filler) cost keys sound
    (λ r i. copies_least rules cost filler keys r (count r) (λ e some. cheap (r, (contains_in rules r i, e), some)) (often_enough r (contains_in rules r i)))

-- ---- each rule's least count

pub bounds_of : (rules : List DRule) (r : DRule) → AreRules rules → IsIn r rules → IfSome r.max (λ max. r.min ≤ max)
bounds_of rules r are i = all_of (λ (t : DRule). IfSome t.max (λ max. t.min ≤ max)) rules r are.bounds i

min_bounds : (rules : List DRule) → AreRules rules → (r : DRule) → Contains rules r → InBounds r r.min
min_bounds rules are r c = (omega arith, bounds_of rules r are (in_contains rules r c))

pub plan_placed : (rules : List DRule) (filler : Key) → AreRules rules → IsFiller 0 rules filler → Placed rules (plan filler rules)
plan_placed rules filler are free = plan_by_placed rules (λ r. r.min) filler are (min_bounds rules are) free

pub plan_least : (rules : List DRule) (filler : Key) (cost : Key → ℕ) (keys : List Key) → AreSound rules → Placed rules keys → IsCheapest 0 cost filler rules keys
    → total cost (plan filler rules) ≤ total cost keys
plan_least rules filler cost keys sound placed cheap =
    plan_by_least rules (λ r. r.min) filler cost keys sound (λ r c. (counted_bounds rules keys r (placed-in_place rules keys sound placed) (in_contains rules r c)).0) cheap

-- ---- the rules of a dictionary

pub definition_rules : (d : Dictionary) (def : PlainDefinition) → IsDictionary d → Contains (definitions d) def → AreRules def.rules
definition_rules d def is c = subst (λ (x : PlainDefinition). AreRules x.rules) c.2 (is.rules c.0 def c.1)
