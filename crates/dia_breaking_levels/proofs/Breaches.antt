-- Keys are placed, or there is a breach, and not both.
use Rattle.std.proofs.Common.{◌≡◌, ℕ, suc, ◌<◌, ◌≤◌, Bool, true, false, List, [], ◌∷◌, Option, Some, None, refl, sym, subst, ◌∙◌, arith, inl, inr}
use Rattle.std.specs.Prelude.{◌⊎◌, IsTrue, IfSome, slice_get, nat_lt}
use Rattle.std.specs.List.{AllByRecursion}
use Rattle.std.proofs.lemmas.Bool.{ltb-true, ltb-false}
use Rattle.std.proofs.lemmas.Option.{none-some, same_Some}
use Rattle.dia_wire.specs.declared.Key.{Key}
use Rattle.dia_book.specs.declared.DRule.{DRule}
use Rattle.dia_valid.specs.Valid.{InBounds, Placed, fixed_rules, is_listed, has_wildcard}
use Rattle.dia_valid.proofs.Members.{IsIn, in_all, at_in, in_contains, contains_in, all_in, none_or_some}
use Rattle.dia_breaking_levels.specs.CountsAndRanks.{AreSound, times, strangers, rank, InOrder, AreInPlace}
use Rattle.dia_breaking_levels.specs.Breaches.{IsLate, Breach}
use Rattle.dia_breaking_levels.specs.Breaches.Breach.{Few, Many, Not_allowed, Few_others, Many_others, Late}
use Rattle.dia_breaking_levels.proofs.CountsAndRanks.{rank_within, ranked, order_at, placed-in_place}
use Rattle.dia_breaking_levels.proofs.KeysInPlace.{in_place-placed}

-- each has P, or else there is a B
all_or : {X : Type 0} (P : X → Type 0) (B : Type 0) (xs : List X) → ((x : X) → IsIn x xs → P x ⊎ B) → AllByRecursion P xs ⊎ B
all_or P B [] each = inl tt
all_or {X} P B (x ∷ xs) each = by (each x (inl refl)) (all_or P B xs (λ y i. each y (inr i)))
  where
    by : P x ⊎ B → AllByRecursion P xs ⊎ B → AllByRecursion P (x ∷ xs) ⊎ B
    by (inr b) more = inr b
    by (inl p) (inr b) = inr b
    by (inl p) (inl more) = inl (p, more)

-- within a rule's bounds, below or above
max_or : (m : Option ℕ) (n : ℕ) → IfSome m (λ k. n ≤ k) ⊎ ((max : ℕ) × (m ≡ Some max) × (max < n))
max_or None n = inl tt
max_or (Some k) n = by (nat_lt k n) refl
  where
    by : (b : Bool) → nat_lt k n ≡ b → (n ≤ k) ⊎ ((max : ℕ) × (Some k ≡ Some max) × (max < n))
    by true e = inr (k, refl, ltb-true k n e)
    by false e = inl (ltb-false k n e)

bounds_or : (rule : DRule) (n : ℕ) → InBounds rule n ⊎ ((n < rule.min) ⊎ ((max : ℕ) × (rule.max ≡ Some max) × (max < n)))
bounds_or rule n = by (nat_lt n rule.min) refl (max_or rule.max n)
  where
    by : (b : Bool) → nat_lt n rule.min ≡ b → IfSome rule.max (λ k. n ≤ k) ⊎ ((max : ℕ) × (rule.max ≡ Some max) × (max < n))
        → InBounds rule n ⊎ ((n < rule.min) ⊎ ((max : ℕ) × (rule.max ≡ Some max) × (max < n)))
    by true e more = inr (inl (ltb-true n rule.min e))
    by false e (inl le) = inl (ltb-false n rule.min e, le)
    by false e (inr above) = inr (inr above)

-- a key with a lower one after it
record IsAhead (rules : List DRule) (k : Key) (keys : List Key) : Type 0 where
  place : ℕ
  y : Key
  at : slice_get keys place ≡ Some y
  greater : rank rules y < rank rules k

none_lower : (rules : List DRule) (k : Key) (keys : List Key) → AllByRecursion (λ q. rank rules k ≤ rank rules q) keys ⊎ IsAhead rules k keys
none_lower rules k keys = by (none_or_some (λ (q : Key). nat_lt (rank rules q) (rank rules k)) keys)
  where
    by : ((q : Key) → IsIn q keys → nat_lt (rank rules q) (rank rules k) ≡ false) ⊎ ((q : Key) × IsIn q keys × (nat_lt (rank rules q) (rank rules k) ≡ true))
        → AllByRecursion (λ q. rank rules k ≤ rank rules q) keys ⊎ IsAhead rules k keys
    by (inl none) = inl (all_in (λ (q : Key). rank rules k ≤ rank rules q) keys (λ q i. ltb-false (rank rules q) (rank rules k) (none q i)))
    by (inr s) = let p = at_in keys s.0 s.1 in inr (record { place = p.place; y = s.0; at = p.at; greater = ltb-true (rank rules s.0) (rank rules k) s.2 })

is_late : (rules : List DRule) (k : Key) (keys : List Key) → IsAhead rules k keys → IsLate rules (k ∷ keys)
is_late rules k keys a =
    let within = rank_within rules k in
    let r = ranked rules a.y (omega (arith, a.greater, within)) in
    record {
      early = 0;
      late = suc a.place;
      x = k;
      y = a.y;
      rule = r.0;
      following = omega arith;
      is_x = refl;
      is_y = a.at;
      has_rule = (contains_in rules r.0 r.1, r.2);
      greater = a.greater;
    }

later_late : (rules : List DRule) (k : Key) (keys : List Key) → IsLate rules keys → IsLate rules (k ∷ keys)
later_late rules k keys l = record {
  early = suc l.early;
  late = suc l.late;
  x = l.x;
  y = l.y;
  rule = l.rule;
  following = omega (arith, l.following);
  is_x = l.is_x;
  is_y = l.is_y;
  has_rule = l.has_rule;
  greater = l.greater;
}

order_or : (rules : List DRule) (keys : List Key) → InOrder rules keys ⊎ IsLate rules keys
order_or rules [] = inl tt
order_or rules (k ∷ keys) = by (none_lower rules k keys) (order_or rules keys)
  where
    by : AllByRecursion (λ q. rank rules k ≤ rank rules q) keys ⊎ IsAhead rules k keys → InOrder rules keys ⊎ IsLate rules keys → InOrder rules (k ∷ keys) ⊎ IsLate rules (k ∷ keys)
    by (inl none) (inl more) = inl (none, more)
    by (inl none) (inr l) = inr (later_late rules k keys l)
    by (inr a) more = inr (is_late rules k keys a)

-- ---- placed, or a breach

-- what is said of a rule by its key
abbrev HasCount : List DRule → List Key → DRule → Type 0
HasCount rules keys r = ((k : Key) → r.key ≡ Some k → InBounds r (times k keys)) × (r.key ≡ None → InBounds r (strangers rules keys))

key_or : (rules : List DRule) (keys : List Key) (r : DRule) (k : Key) → IsIn r rules → r.key ≡ Some k → InBounds r (times k keys) ⊎ Breach rules keys
key_or rules keys r k i e = by (bounds_or r (times k keys))
  where
    by : InBounds r (times k keys) ⊎ ((times k keys < r.min) ⊎ ((max : ℕ) × (r.max ≡ Some max) × (max < times k keys))) → InBounds r (times k keys) ⊎ Breach rules keys
    by (inl h) = inl h
    by (inr (inl h)) = inr (Few k r (contains_in rules r i, e) h)
    by (inr (inr h)) = inr (Many k r h.0 (contains_in rules r i, e) h.1 h.2)

wild_or : (rules : List DRule) (keys : List Key) (r : DRule) → IsIn r rules → r.key ≡ None → InBounds r (strangers rules keys) ⊎ Breach rules keys
wild_or rules keys r i e = by (bounds_or r (strangers rules keys))
  where
    by : InBounds r (strangers rules keys) ⊎ ((strangers rules keys < r.min) ⊎ ((max : ℕ) × (r.max ≡ Some max) × (max < strangers rules keys))) → InBounds r (strangers rules keys) ⊎ Breach rules keys
    by (inl h) = inl h
    by (inr (inl h)) = inr (Few_others r (contains_in rules r i, e) h)
    by (inr (inr h)) = inr (Many_others r h.0 (contains_in rules r i, e) h.1 h.2)

rule_or : (rules : List DRule) (keys : List Key) (r : DRule) (o : Option Key) → IsIn r rules → r.key ≡ o → HasCount rules keys r ⊎ Breach rules keys
rule_or rules keys r (Some k) i e = by (key_or rules keys r k i e)
  where
    by : InBounds r (times k keys) ⊎ Breach rules keys → HasCount rules keys r ⊎ Breach rules keys
    by (inl h) = inl ((λ q f. subst (λ (x : Key). InBounds r (times x keys)) (same_Some k q (sym e ∙ f)) h), (λ f. absurd (none-some k (sym f ∙ e))))
    by (inr b) = inr b
rule_or rules keys r None i e = by (wild_or rules keys r i e)
  where
    by : InBounds r (strangers rules keys) ⊎ Breach rules keys → HasCount rules keys r ⊎ Breach rules keys
    by (inl h) = inl ((λ q f. absurd (none-some q (sym e ∙ f))), (λ f. h))
    by (inr b) = inr b

allowed_or : (rules : List DRule) (keys : List Key) (q : Key) → IsIn q keys → (is_listed rules q ≡ false → IsTrue (has_wildcard rules)) ⊎ Breach rules keys
allowed_or rules keys q i = by (is_listed rules q) (has_wildcard rules) refl refl
  where
    by : (l w : Bool) → is_listed rules q ≡ l → has_wildcard rules ≡ w → (l ≡ false → IsTrue w) ⊎ Breach rules keys
    by true w e f = inl (λ h. absurd (let g : true ≡ false = h in cc))
    by false true e f = inl (λ h. refl)
    by false false e f = inr (Not_allowed q (contains_in keys q i) e f)

pub placed_or_breach : (rules : List DRule) (keys : List Key) → AreSound rules → Placed rules keys ⊎ Breach rules keys
placed_or_breach rules keys sound = by
    (all_or (HasCount rules keys) (Breach rules keys) rules (λ r i. rule_or rules keys r r.key i refl))
    (all_or (λ (q : Key). is_listed rules q ≡ false → IsTrue (has_wildcard rules)) (Breach rules keys) keys (λ q i. allowed_or rules keys q i))
    (order_or (fixed_rules rules) keys)
  where
    by : AllByRecursion (HasCount rules keys) rules ⊎ Breach rules keys → AllByRecursion (λ q. is_listed rules q ≡ false → IsTrue (has_wildcard rules)) keys ⊎ Breach rules keys
        → InOrder (fixed_rules rules) keys ⊎ IsLate (fixed_rules rules) keys → Placed rules keys ⊎ Breach rules keys
    by (inr b) allowed order = inr b
    by (inl counts) (inr b) order = inr b
    by (inl counts) (inl allowed) (inr l) = inr (Late l)
    by (inl counts) (inl allowed) (inl order) = inl (in_place-placed rules keys sound (record {
      counts = λ k r h. (in_all (HasCount rules keys) r rules counts (in_contains rules r h.0)).0 k h.1;
      allowed = λ q c. in_all (λ (x : Key). is_listed rules x ≡ false → IsTrue (has_wildcard rules)) q keys allowed (in_contains keys q c);
      others = λ w h. (in_all (HasCount rules keys) w rules counts (in_contains rules w h.0)).1 h.1;
      order = order;
    }))

-- ---- and not both

above_max : (m : Option ℕ) (max n : ℕ) → m ≡ Some max → IfSome m (λ k. n ≤ k) → max < n → ⊥
above_max m max n e le lt = let h : n ≤ max = subst (λ (o : Option ℕ). IfSome o (λ k. n ≤ k)) e le in omega (arith, h, lt)

pub breach_unplaced : (rules : List DRule) (keys : List Key) → AreSound rules → Breach rules keys → Placed rules keys → ⊥
breach_unplaced rules keys sound breach placed = by breach (placed-in_place rules keys sound placed)
  where
    by : Breach rules keys → AreInPlace rules keys → ⊥
    by (Few k r h lt) p = let bounds = p.counts k r h in omega (arith, lt, bounds.0)
    by (Many k r max h e lt) p = above_max r.max max (times k keys) e (p.counts k r h).1 lt
    by (Not_allowed k c none no_wild) p = absurd (let e : true ≡ false = sym (p.allowed k c none) ∙ no_wild in cc)
    by (Few_others w h lt) p = let bounds = p.others w h in omega (arith, lt, bounds.0)
    by (Many_others w max h e lt) p = above_max w.max max (strangers rules keys) e (p.others w h).1 lt
    by (Late l) p = let le = order_at (fixed_rules rules) keys l.early l.late l.x l.y p.order l.is_x l.is_y l.following in omega (arith, le, l.greater)
