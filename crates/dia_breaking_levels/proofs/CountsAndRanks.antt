-- Keys are placed exactly where they come as often as the rules say, and in the order of the fixed rules.
use Rattle.std.proofs.Common.{◌≡◌, ◌≢◌, ℕ, zero, suc, ◌<◌, ◌≤◌, Bool, true, false, List, [], ◌∷◌, ◌++◌, length, Option, Some, None, refl, sym, ap, subst, ◌∙◌, get_or, arith, inl, inr}
use Rattle.std.specs.Prelude.{◌⊎◌, not, IsTrue, IsSome, is_some, slice_get, count_by, if◌then◌else◌, Contains}
use Rattle.std.specs.Option.{option_map_or}
use Rattle.std.specs.List.{AllByRecursion}
use Rattle.std.proofs.lemmas.Bool.{false_from_ne_true}
use Rattle.std.proofs.lemmas.Option.{none-some, same_Some}
use Rattle.dia_wire.specs.declared.Key.{Key}
use Rattle.dia_book.specs.declared.DRule.{DRule}
use Rattle.dia_book.specs.Keys.{same_key}
use Rattle.dia_book.specs.Dictionary.{Dictionary, IsDictionary, PlainDefinition, AreRules, definitions, is_fixed, lists_key}
use Rattle.dia_book.proofs.SameKeys.{same_key-refl, same_key-true}
use Rattle.dia_book.proofs.Members.{AreApart, AreApart-filter}
use Rattle.dia_valid.specs.Valid.{InBounds, Runs, Placed, MayBeLoose, fixed_rules, loose_rules, is_listed, has_wildcard, counted}
use Rattle.dia_valid.proofs.LongestRuns.{AreDistinct}
use Rattle.dia_valid.specs.Rules.{HasRule, HasWildcard}
use Rattle.dia_valid.proofs.Members.{IsIn, in_all}
use Rattle.dia_valid.proofs.RulesOfKeys.{all_middle, IsRunKey, listed, is_listed_by, runs_none, runs_some}
use Rattle.dia_valid.proofs.Members.{in_at, at_in, in_contains, contains_in, all_in, in_filter, into_filter, in_append, count_append, count_none}
use Rattle.dia_breaking_levels.specs.CountsAndRanks.{AreSound, times, strangers, rank, InOrder, AreInPlace}

-- ---- the rules of a dictionary

pub rules_sound : (rules : List DRule) → AreRules rules → AreSound rules
rules_sound rules are = record { distinct = are.distinct; fixed_keys = are.fixed_keys }

pub definition_sound : (d : Dictionary) (def : PlainDefinition) → IsDictionary d → Contains (definitions d) def → AreSound def.rules
definition_sound d def is c = subst (λ (x : PlainDefinition). AreSound x.rules) c.2 (rules_sound (get_or (definitions d) c.0 def).rules (is.rules c.0 def c.1))

-- ---- sound rules

pub key_of_test : (key : Key) (o : Option Key) → option_map_or (same_key key) o false ≡ true → o ≡ Some key
key_of_test key None h = absurd (let e : false ≡ true = h in cc)
key_of_test key (Some k) h = ap (λ (x : Key). Some x) (sym (same_key-true key k h))

pub lists : (r : DRule) (key : Key) → r.key ≡ Some key → lists_key key r ≡ true
lists r key e = ap (λ (o : Option Key). option_map_or (same_key key) o false) e ∙ same_key-refl key

lists_not : (r : DRule) (key : Key) → r.key ≢ Some key → lists_key key r ≡ false
lists_not r key other = false_from_ne_true (lists_key key r) (λ e. other (key_of_test key r.key e))

pub not_both : (b : Bool) → b ≡ true → b ≡ false → ⊥
not_both b e f = absurd (let h : true ≡ false = sym e ∙ f in cc)

not_true : (b : Bool) → not b ≡ true → b ≡ false
not_true true h = absurd (let e : false ≡ true = h in cc)
not_true false h = refl

pub fixed_part : (rules : List DRule) (r : DRule) → IsIn r (fixed_rules rules) → IsIn r rules × (is_fixed r ≡ true)
fixed_part rules r h = in_filter is_fixed rules r h

pub loose_part : (rules : List DRule) (r : DRule) → IsIn r (loose_rules rules) → IsIn r rules × (is_fixed r ≡ false)
loose_part rules r h = let s = in_filter (λ (t : DRule). not (is_fixed t)) rules r h in (s.0, not_true (is_fixed r) s.1)

pub into_loose : (rules : List DRule) (r : DRule) → IsIn r rules → is_fixed r ≡ false → IsIn r (loose_rules rules)
into_loose rules r h e = into_filter (λ (t : DRule). not (is_fixed t)) rules r h (ap not e)

pub one_rule : (rules : List DRule) (r s : DRule) → AreSound rules → IsIn r rules → IsIn s rules → r.key ≡ s.key → r ≡ s
one_rule rules r s sound i j e =
    let p = at_in rules r i in
    let q = at_in rules s j in
    let same : p.place ≡ q.place = sound.distinct p.place q.place r s p.at q.at e in
    same_Some r s (sym p.at ∙ ap (λ (n : ℕ). slice_get rules n) same ∙ q.at)

-- a fixed rule and one that is not have two keys
fixed_or_loose : (rules : List DRule) (r s : DRule) → AreSound rules → IsIn r rules → IsIn s rules → r.key ≡ s.key → is_fixed r ≡ true → is_fixed s ≡ false → ⊥
fixed_or_loose rules r s sound i j e f g = not_both (is_fixed r) f (ap (λ (t : DRule). is_fixed t) (one_rule rules r s sound i j e) ∙ g)

pub fixed_key : (rules : List DRule) (r : DRule) → AreSound rules → IsIn r rules → is_fixed r ≡ true → IsSome r.key
fixed_key rules r sound i f =
    let c = contains_in rules r i in
    subst (λ (t : DRule). IsTrue (is_fixed t) → IsSome t.key) c.2 (sound.fixed_keys c.0 r c.1) f

pub wild_loose : (rules : List DRule) (w : DRule) → AreSound rules → IsIn w rules → w.key ≡ None → is_fixed w ≡ false
wild_loose rules w sound i e = false_from_ne_true (is_fixed w) (λ f. not_both (is_some w.key) (fixed_key rules w sound i f) (ap (λ (o : Option Key). is_some o) e))

apart_distinct : (rules : List DRule) → AreApart (λ (r : DRule). r.key) rules → AreDistinct rules
apart_distinct [] h = tt
apart_distinct (r ∷ rules) h = (
  all_in (λ (s : DRule). (key : Key) → r.key ≡ Some key → s.key ≢ Some key) rules (λ s i key e f.
      let p = at_in rules s i in
      let z : 0 ≡ suc p.place = h 0 (suc p.place) r s refl p.at (e ∙ sym f) in
      absurd (omega (arith, z))),
  apart_distinct rules (λ i j x y at at' same. let z : suc i ≡ suc j = h (suc i) (suc j) x y at at' same in omega (arith, z)),
)

pub fixed_distinct : (rules : List DRule) → AreSound rules → AreDistinct (fixed_rules rules)
fixed_distinct rules sound = apart_distinct (fixed_rules rules) (AreApart-filter (λ (r : DRule). r.key) is_fixed rules sound.distinct)

-- ---- how many

pub counted_key : (rules : List DRule) (s : DRule) (keys : List Key) (k : Key) → s.key ≡ Some k → counted rules s keys ≡ times k keys
counted_key rules s keys k e = ap (λ (o : Option Key). count_by (λ (q : Key). if not (is_some o) then not (is_listed rules q) else option_map_or (same_key q) o false) keys) e

pub counted_wild : (rules : List DRule) (s : DRule) (keys : List Key) → s.key ≡ None → counted rules s keys ≡ strangers rules keys
counted_wild rules s keys e = ap (λ (o : Option Key). count_by (λ (q : Key). if not (is_some o) then not (is_listed rules q) else option_map_or (same_key q) o false) keys) e

-- none of a key among others
pub none_of : (k : Key) (keys : List Key) → ((q : Key) → IsIn q keys → q ≢ k) → times k keys ≡ 0
none_of k keys other = count_none (λ (q : Key). same_key q k) keys (λ q i. false_from_ne_true (same_key q k) (λ e. other q i (same_key-true q k e)))

-- no rule of these has a key of those
abbrev pub AreFree : List DRule → List Key → Type 0
AreFree rules keys = (q : Key) (r : DRule) → IsIn q keys → IsIn r rules → r.key ≢ Some q

-- ---- ranks

pub first_rank : (r : DRule) (rules : List DRule) (q : Key) → r.key ≡ Some q → rank (r ∷ rules) q ≡ 0
first_rank r rules q e = ap (λ (b : Bool). if b then 0 else suc (rank rules q)) (lists r q e)

pub later_rank : (r : DRule) (rules : List DRule) (q : Key) → r.key ≢ Some q → rank (r ∷ rules) q ≡ suc (rank rules q)
later_rank r rules q other = ap (λ (b : Bool). if b then 0 else suc (rank rules q)) (lists_not r q other)

pub rank_within : (rules : List DRule) (q : Key) → rank rules q ≤ length rules
rank_within [] q = omega arith
rank_within (r ∷ rules) q = by (lists_key q r) (rank_within rules q)
  where
    by : (b : Bool) → rank rules q ≤ length rules → (if b then 0 else suc (rank rules q)) ≤ length (r ∷ rules)
    by true le = omega arith
    by false le = omega (arith, le)

-- a rule's key ranks by its place
pub rank_at : (rules : List DRule) (i : ℕ) (r : DRule) (q : Key) → AreDistinct rules → slice_get rules i ≡ Some r → r.key ≡ Some q → rank rules q ≡ i
rank_at [] i r q distinct at e = absurd (none-some r at)
rank_at (s ∷ rules) zero r q distinct at e = first_rank s rules q (ap (λ (x : DRule). x.key) (same_Some s r at) ∙ e)
rank_at (s ∷ rules) (suc i) r q distinct at e =
    later_rank s rules q (λ f. in_all (λ (x : DRule). (key : Key) → s.key ≡ Some key → x.key ≢ Some key) r rules distinct.0 (in_at rules i r at) q f e)
    ∙ ap suc (rank_at rules i r q distinct.1 at e)

-- a key of no rule ranks after them all
pub rank_of_none : (rules : List DRule) (q : Key) → ((r : DRule) → IsIn r rules → r.key ≢ Some q) → rank rules q ≡ length rules
rank_of_none [] q none = refl
rank_of_none (r ∷ rules) q none = later_rank r rules q (none r (inl refl)) ∙ ap suc (rank_of_none rules q (λ s i. none s (inr i)))

-- a key that ranks before the end has a rule
pub ranked : (rules : List DRule) (q : Key) → rank rules q < length rules → (r : DRule) × IsIn r rules × (r.key ≡ Some q)
ranked [] q lt = absurd (omega (arith, lt))
ranked (r ∷ rules) q lt = by (lists_key q r) refl lt (λ h. ranked rules q h)
  where
    by : (b : Bool) → lists_key q r ≡ b → (if b then 0 else suc (rank rules q)) < length (r ∷ rules) → (rank rules q < length rules → (s : DRule) × IsIn s rules × (s.key ≡ Some q))
        → (s : DRule) × IsIn s (r ∷ rules) × (s.key ≡ Some q)
    by true e h ih = (r, inl refl, key_of_test q r.key e)
    by false e h ih = let s = ih (omega (arith, h)) in (s.0, inr s.1, s.2)

-- of two keys in order the later ranks no lower
pub order_at : (rules : List DRule) (keys : List Key) (i j : ℕ) (x y : Key) → InOrder rules keys → slice_get keys i ≡ Some x → slice_get keys j ≡ Some y → i < j → rank rules x ≤ rank rules y
order_at rules [] i j x y o at at' lt = absurd (none-some x at)
order_at rules (k ∷ keys) i zero x y o at at' lt = absurd (omega (arith, lt))
order_at rules (k ∷ keys) zero (suc j) x y o at at' lt =
    subst (λ (q : Key). rank rules q ≤ rank rules y) (same_Some k x at) (in_all (λ (q : Key). rank rules k ≤ rank rules q) y keys o.0 (in_at keys j y at'))
order_at rules (k ∷ keys) (suc i) (suc j) x y o at at' lt = order_at rules keys i j x y o.1 at at' (omega (arith, lt))

-- without rules any order will do
any_order : (keys : List Key) → InOrder [] keys
any_order [] = tt
any_order (k ∷ keys) = (all_in (λ (q : Key). rank [] k ≤ rank [] q) keys (λ q i. omega arith), any_order keys)

-- keys in order by some rules are so by others that rank them alike
pub order_as : (rules others : List DRule) (keys : List Key) → ((x y : Key) → IsIn x keys → IsIn y keys → rank rules x ≤ rank rules y → rank others x ≤ rank others y) → InOrder rules keys
    → InOrder others keys
order_as rules others [] alike o = tt
order_as rules others (k ∷ keys) alike o = (
  all_in (λ (q : Key). rank others k ≤ rank others q) keys (λ q i. alike k q (inl refl) (inr i) (in_all (λ (q : Key). rank rules k ≤ rank rules q) q keys o.0 i)),
  order_as rules others keys (λ x y i j. alike x y (inr i) (inr j)) o.1,
)

-- keys after a run
pub order_following : (rules : List DRule) (run after : List Key) → InOrder rules (run ++ after) → InOrder rules after
order_following rules [] after o = o
order_following rules (k ∷ run) after o = order_following rules run after o.1

-- a run of the first rule's key may precede
order_run : (r : DRule) (rules : List DRule) (run after : List Key) → AllByRecursion (λ key. r.key ≡ Some key) run → InOrder (r ∷ rules) after → InOrder (r ∷ rules) (run ++ after)
order_run r rules [] after all o = o
order_run r rules (k ∷ run) after all o =
    let zero_rank = first_rank r rules k all.0 in
    (all_in (λ (q : Key). rank (r ∷ rules) k ≤ rank (r ∷ rules) q) (run ++ after) (λ q i. omega (arith, zero_rank)), order_run r rules run after all.1 o)

-- ---- keys that are placed come as often as the rules say, and in order

-- a key of the runs has a rule
pub runs_keyed : (rules : List DRule) (keys rest : List Key) (q : Key) → Runs rules keys rest → IsIn q keys → ((r : DRule) × IsIn r rules × (r.key ≡ Some q)) ⊎ IsIn q rest
runs_keyed rules keys rest q runs i = by (in_append m.0 rest q (subst (λ (ks : List Key). IsIn q ks) m.1 i))
  where
    m : (middle : List Key) × (keys ≡ middle ++ rest) × AllByRecursion (IsRunKey rules []) middle
    m = all_middle rules keys rest runs

    by : IsIn q m.0 ⊎ IsIn q rest → ((r : DRule) × IsIn r rules × (r.key ≡ Some q)) ⊎ IsIn q rest
    by (inl h) = let k = in_all (IsRunKey rules []) q m.0 m.2 h in inl (k.rule, k.is_rule, k.is_key)
    by (inr h) = inr h

runs_order : (rules : List DRule) (keys rest : List Key) → AreDistinct rules → Runs rules keys rest → AreFree rules rest → InOrder rules keys
runs_order [] keys rest distinct runs free = any_order keys
runs_order (r ∷ rules) keys rest distinct (run, after, parts, all, bounds, more) free =
    subst (InOrder (r ∷ rules)) (sym parts) (order_run r rules run after all (order_as rules (r ∷ rules) after
    (λ x y i j le. omega (arith, le, later_rank r rules x (λ e. other x i e), later_rank r rules y (λ e. other y j e)))
    (runs_order rules after rest distinct.1 more (λ q s i j. free q s i (inr j)))))
  where
    other : (q : Key) → IsIn q after → r.key ≡ Some q → ⊥
    other q i e = by (runs_keyed rules after rest q more i)
      where
        by : ((s : DRule) × IsIn s rules × (s.key ≡ Some q)) ⊎ IsIn q rest → ⊥
        by (inl s) = in_all (λ (t : DRule). (key : Key) → r.key ≡ Some key → t.key ≢ Some key) s.0 rules distinct.0 s.1 q e s.2
        by (inr h) = free q r h (inl refl) e

-- the runs of rules that are among these have no stranger
pub runs_listed : (rules : List DRule) (keys rest : List Key) → Runs (fixed_rules rules) keys rest → strangers rules keys ≡ strangers rules rest
runs_listed rules keys rest runs =
    let m = all_middle (fixed_rules rules) keys rest runs in
    let here = ap (strangers rules) m.1 in
    let both = count_append (λ (q : Key). not (is_listed rules q)) m.0 rest in
    let none = count_none (λ (q : Key). not (is_listed rules q)) m.0 (λ q i.
    let k = in_all (IsRunKey (fixed_rules rules) []) q m.0 m.2 i in
    ap not (is_listed_by rules q k.rule (fixed_part rules k.rule k.is_rule).0 k.is_key)) in
    omega (arith, here, both, none)

-- nor the key of a loose rule
pub runs_loose : (rules : List DRule) (keys rest : List Key) (r : DRule) (k : Key) → AreSound rules → Runs (fixed_rules rules) keys rest → IsIn r rules → is_fixed r ≡ false → r.key ≡ Some k
    → times k keys ≡ times k rest
runs_loose rules keys rest r k sound runs i f e = runs_none (fixed_rules rules) keys rest k runs (all_in (λ (t : DRule). t.key ≢ Some k) (fixed_rules rules) (λ t j g.
    let p = fixed_part rules t j in
    fixed_or_loose rules t r sound p.0 i (g ∙ sym e) p.1 f))

module _ (rules : List DRule) (sound : AreSound rules) (keys : List Key) (placed : Placed rules keys) where
  -- after the runs no key is that of a fixed rule
  rest_free : AreFree (fixed_rules rules) placed.rest
  rest_free q r i j e = by (in_all (MayBeLoose rules) q placed.rest placed.loose i)
    where
      f : IsIn r rules × (is_fixed r ≡ true)
      f = fixed_part rules r j

      by : MayBeLoose rules q → ⊥
      by (inl h) =
          let l = listed (loose_rules rules) q h in
          let p = loose_part rules l.0 l.1 in
          fixed_or_loose rules r l.0 sound f.0 p.0 (e ∙ sym l.2) f.1 p.1
      by (inr h) = not_both (is_listed rules q) (is_listed_by rules q r f.0 e) h.0

  fixed_count : (r : DRule) (k : Key) → IsIn r rules → is_fixed r ≡ true → r.key ≡ Some k → InBounds r (times k keys)
  fixed_count r k i f e =
      let j = into_filter is_fixed rules r i f in
      let n = runs_some (fixed_rules rules) keys placed.rest k r placed.runs (fixed_distinct rules sound) j e in
      let none = none_of k placed.rest (λ q h same. rest_free q r h j (e ∙ ap (λ (x : Key). Some x) (sym same))) in
      let all : n.0 ≡ times k keys = omega (arith, n.1, none) in
      subst (InBounds r) all n.2

  loose_count : (r : DRule) (k : Key) → IsIn r rules → is_fixed r ≡ false → r.key ≡ Some k → InBounds r (times k keys)
  loose_count r k i f e =
      let bounds = in_all (λ (s : DRule). InBounds s (counted rules s placed.rest)) r (loose_rules rules) placed.counts (into_loose rules r i f) in
      subst (InBounds r) (counted_key rules r placed.rest k e ∙ sym (runs_loose rules keys placed.rest r k sound placed.runs i f e)) bounds

  key_count : (k : Key) (r : DRule) → HasRule rules k r → InBounds r (times k keys)
  key_count k r h = by (is_fixed r) refl
    where
      by : (b : Bool) → is_fixed r ≡ b → InBounds r (times k keys)
      by true f = fixed_count r k (in_contains rules r h.0) f h.1
      by false f = loose_count r k (in_contains rules r h.0) f h.1

  wild_allowed : (q : Key) → Contains keys q → is_listed rules q ≡ false → IsTrue (has_wildcard rules)
  wild_allowed q c none = by (runs_keyed (fixed_rules rules) keys placed.rest q placed.runs (in_contains keys q c))
    where
      loose : MayBeLoose rules q → IsTrue (has_wildcard rules)
      loose (inl h) =
          let l = listed (loose_rules rules) q h in
          absurd (not_both (is_listed rules q) (is_listed_by rules q l.0 (loose_part rules l.0 l.1).0 l.2) none)
      loose (inr h) = h.1

      by : ((r : DRule) × IsIn r (fixed_rules rules) × (r.key ≡ Some q)) ⊎ IsIn q placed.rest → IsTrue (has_wildcard rules)
      by (inl s) = absurd (not_both (is_listed rules q) (is_listed_by rules q s.0 (fixed_part rules s.0 s.1).0 s.2) none)
      by (inr i) = loose (in_all (MayBeLoose rules) q placed.rest placed.loose i)

  wild_count : (w : DRule) → HasWildcard rules w → InBounds w (strangers rules keys)
  wild_count w h =
      let i = in_contains rules w h.0 in
      let bounds = in_all (λ (s : DRule). InBounds s (counted rules s placed.rest)) w (loose_rules rules) placed.counts (into_loose rules w i (wild_loose rules w sound i h.1)) in
      subst (InBounds w) (counted_wild rules w placed.rest h.1 ∙ sym (runs_listed rules keys placed.rest placed.runs)) bounds

  in_place : AreInPlace rules keys
  in_place = record {
    counts = key_count;
    allowed = wild_allowed;
    others = wild_count;
    order = runs_order (fixed_rules rules) keys placed.rest (fixed_distinct rules sound) placed.runs rest_free;
  }

pub placed-in_place : (rules : List DRule) (keys : List Key) → AreSound rules → Placed rules keys → AreInPlace rules keys
placed-in_place rules keys sound placed = in_place rules sound keys placed

-- the later of two keys that are placed ranks no lower
pub placed_order : (rules : List DRule) (keys : List Key) (i j : ℕ) (x y : Key) → AreSound rules → Placed rules keys → slice_get keys i ≡ Some x → slice_get keys j ≡ Some y → i < j
    → rank (fixed_rules rules) x ≤ rank (fixed_rules rules) y
placed_order rules keys i j x y sound placed at at' lt = order_at (fixed_rules rules) keys i j x y (in_place rules sound keys placed).order at at' lt
