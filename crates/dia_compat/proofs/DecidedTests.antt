-- What the answers of yes or no say: each decides its test.
use Rattle.std.proofs.Common.{◌≡◌, ◌≢◌, ℕ, ◌<◌, ◌≤◌, Bool, true, false, List, [], ◌∷◌, ◌++◌, Option, Some, None, refl, sym, ap, subst, ◌∙◌, arith, inl, inr, Decides, cond}
use Rattle.std.specs.Prelude.{◌⊎◌, ◌↔◌, ◌||◌, ◌&&◌, ◌==◌, not, nat_le, nat_eq, find, is_some, Contains, slice_get}
use Rattle.std.specs.List.{list_any, list_all}
use Rattle.std.specs.Option.{option_eq, option_map_or}
use Rattle.std.proofs.lemmas.Bool.{eqb-true, eqb-false, or_parts, and_parts}
use Rattle.std.proofs.lemmas.Bool.Decides.{Decides-and, Decides-like, Decides-eqb, leb_tells}
use Rattle.std.proofs.lemmas.Option.{none-some, same_Some}
use Rattle.dia_wire.specs.declared.Key.{Key}
use Rattle.dia_book.specs.Keys.{same_key}
use Rattle.dia_book.proofs.SameKeys.{same_key-refl, same_key-true}
use Rattle.dia_book.proofs.Members.{at_find, find-found}
use Rattle.dia_data.specs.Plain.{AnyBytes, OctetString}
use Rattle.dia_book.specs.declared.MRule.TheVariants.{Must}
use Rattle.dia_book.specs.declared.DRule.{DRule}
use Rattle.dia_book.specs.Dictionary.{Dictionary, DictEntry, AreRules, is_fixed, lists_key}
use Rattle.dia_terms.specs.declared.Unknown.{Unknown}
use Rattle.dia_terms.specs.declared.Unknown.TheVariants.{Kept}
use Rattle.dia_valid.specs.Valid.{known, fixed_rules, is_listed, is_wildcard, has_wildcard}
use Rattle.dia_compat.specs.declared.checking.Test.{Test}
use Rattle.dia_compat.specs.declared.checking.Test.TheVariants.{N1, N2, N3, N4, N5, N6, N7, N8, N9, N10}
use Rattle.dia_compat.specs.Below.{MaxWithin, Within, IsAboveZero, IsCovered, FixedWithin, IsKnown, WildcardCovered, Passes}
use Rattle.dia_valid.specs.Rules.{HasRule, IsListed, HasWildcard, rule_of, wildcard_of}
use Rattle.dia_compat.specs.Tests.{is_max_within, is_within, is_above_zero, of_key, begins_with, common_rule}
use Rattle.dia_compat.specs.Tests.{let_in_rule, covered_rule, has_room, own_rule, listed_rule, bounded_wildcard, required_wildcard, may_come}
use Rattle.dia_compat.specs.Sides.{Compared}
use Rattle.dia_compat.specs.PairTests.{is_covered, uncovered_keys, strangers_fit, is_passed}
use Rattle.dia_valid.proofs.Members.{IsIn, in_at, at_in, in_contains, contains_in, any_in, in_any}
use Rattle.dia_valid.proofs.RulesOfKeys.{listed, is_listed_by}

-- ---- answers put together

pub implied : {P Q : Type 0} (x y : Bool) → Decides x P → Decides y Q → Decides (not x || y) (P → Q)
implied true y d k = (λ e p. k.0 e, λ h. k.1 (h (d.0 refl)))
implied false y d k = (λ e p. absurd (let f : false ≡ true = d.1 p in cc), λ h. refl)

pub unless : {P Q : Type 0} (x y : Bool) → Decides x P → Decides y Q → Decides (x || y) (¬ P → Q)
unless true y d k = (λ e no_p. absurd (no_p (d.0 refl)), λ h. refl)
unless false y d k = (λ e no_p. k.0 e, λ h. k.1 (h (λ p. let f : false ≡ true = d.1 p in cc)))

implied_unless : {P Q R : Type 0} (x y z : Bool) → Decides x P → Decides y Q → Decides z R → Decides (not x || y || z) (P → ¬ Q → R)
implied_unless true y z d k m = let u = unless y z k m in (λ e p. u.0 e, λ h. u.1 (h (d.0 refl)))
implied_unless false y z d k m = (λ e p. absurd (let f : false ≡ true = d.1 p in cc), λ h. refl)

pub all_in_decides : {X : Type 0} (test : X → Bool) (P : X → Type 0) (xs : List X) → ((x : X) → IsIn x xs → Decides (test x) (P x)) → Decides (list_all test xs) ((x : X) → IsIn x xs → P x)
all_in_decides test P [] each = (λ e x i. absurd i, λ h. refl)
all_in_decides {X} test P (y ∷ ys) each =
    Decides-like (test y && list_all test ys) (λ h x i. split h x i) (λ h. (h y (inl refl), λ x i. h x (inr i)))
    (Decides-and (test y) (list_all test ys) (each y (inl refl)) (all_in_decides test P ys (λ x i. each x (inr i))))
  where
    split : P y × ((x : X) → IsIn x ys → P x) → (x : X) → IsIn x (y ∷ ys) → P x
    split h x (inl e) = subst P (sym e) h.0
    split h x (inr i) = h.1 x i

pub all_decides : {X : Type 0} (test : X → Bool) (P : X → Type 0) → ((x : X) → Decides (test x) (P x)) → (xs : List X) → Decides (list_all test xs) ((x : X) → IsIn x xs → P x)
all_decides test P each xs = all_in_decides test P xs (λ x i. each x)

-- what may be there is there as an option says
some_decides : {X : Type 0} (test : X → Bool) (P H : X → Type 0) → ((x : X) → Decides (test x) (P x)) → (o : Option X) → ((x : X) → H x ↔ (o ≡ Some x))
    → Decides (option_map_or test o true) ((x : X) → H x → P x)
some_decides test P H each None is = (λ e x h. absurd (none-some x ((is x).0 h)), λ h. refl)
some_decides test P H each (Some y) is = Decides-like (test y) (λ p x h. subst P (same_Some y x ((is x).0 h)) p) (λ h. h y ((is y).1 refl)) (each y)

any_decides : {X : Type 0} (test : X → Bool) (P H : X → Type 0) → ((x : X) → Decides (test x) (P x)) → (o : Option X) → ((x : X) → H x ↔ (o ≡ Some x))
    → Decides (option_map_or test o false) ((x : X) × H x × P x)
any_decides test P H each None is = (λ e. absurd (let f : false ≡ true = e in cc), λ h. absurd (none-some h.0 ((is h.0).0 h.1)))
any_decides test P H each (Some y) is = Decides-like (test y) (λ p. (y, (is y).1 refl, p)) (λ h. subst P (sym (same_Some y h.0 ((is h.0).0 h.1))) h.2) (each y)

key_decides : (test : Key → Bool) (P : Key → Type 0) → ((key : Key) → Decides (test key) (P key)) → (r : DRule) → Decides (of_key test r) ((key : Key) → r.key ≡ Some key → P key)
key_decides test P each r = some_decides test P (λ key. r.key ≡ Some key) each r.key (λ key. (λ e. e, λ e. e))

-- ---- bounds

le_decides : (m n : ℕ) → Decides (nat_le m n) (m ≤ n)
le_decides m n = by (leb_tells m n)
  where
    by : ((nat_le m n ≡ true) × (m ≤ n)) ⊎ ((nat_le m n ≡ false) × (n < m)) → Decides (nat_le m n) (m ≤ n)
    by (inl h) = (λ e. h.1, λ p. h.0)
    by (inr h) = (λ e. absurd (let f : true ≡ false = sym e ∙ h.0 in cc), λ p. absurd (omega (arith, h.1, p)))

max_decides : (a b : Option ℕ) → Decides (is_max_within a b) (MaxWithin a b)
max_decides a None = (λ e. tt, λ h. refl)
max_decides None (Some n) = (λ e. absurd (let f : false ≡ true = e in cc), λ h. absurd h)
max_decides (Some m) (Some n) = le_decides m n

pub within_decides : (r s : DRule) → Decides (is_within r s) (Within r s)
within_decides r s = Decides-and (nat_le s.min r.min) (is_max_within r.max s.max) (le_decides s.min r.min) (max_decides r.max s.max)

pub above_decides : (m : Option ℕ) → Decides (is_above_zero m) (IsAboveZero m)
above_decides None = (λ e. tt, λ h. refl)
above_decides (Some n) = by (nat_eq n 0) refl
  where
    by : (b : Bool) → nat_eq n 0 ≡ b → Decides (not b) (0 < n)
    by true e = (λ f. absurd (let g : false ≡ true = f in cc), λ h. absurd (let z = eqb-true n 0 e in omega (arith, h, z)))
    by false e = (λ f. let z = eqb-false n 0 e in above z, λ h. refl)
      where
        above : n ≢ 0 → 0 < n
        above z = omega (arith, z)

zero_decides : (n : ℕ) → Decides (n == 0) (n ≡ 0)
zero_decides n = Decides-eqb n 0

-- ---- look-ups

lists-key : (key : Key) (o : Option Key) → option_map_or (same_key key) o false ≡ true → o ≡ Some key
lists-key key None h = absurd (let e : false ≡ true = h in cc)
lists-key key (Some k) h = ap (λ (x : Key). Some x) (sym (same_key-true key k h))

lists-own : (key : Key) (o : Option Key) → o ≡ Some key → option_map_or (same_key key) o false ≡ true
lists-own key o e = ap (λ (x : Option Key). option_map_or (same_key key) x false) e ∙ same_key-refl key

no_key : (o : Option Key) → not (is_some o) ≡ true → o ≡ None
no_key None h = refl
no_key (Some k) h = absurd (let e : false ≡ true = h in cc)

no_key-own : (o : Option Key) → o ≡ None → not (is_some o) ≡ true
no_key-own o e = ap (λ (x : Option Key). not (is_some x)) e

-- the first rule that passes, where no other rule has its key
found_first : (test : DRule → Bool) (key : Option Key) (rules : List DRule) → AreRules rules → ((r : DRule) → test r ≡ true → r.key ≡ key) → ((r : DRule) → r.key ≡ key → test r ≡ true)
    → (s : DRule) → (Contains rules s × (s.key ≡ key)) ↔ (find test rules ≡ Some s)
found_first test key rules are to from s = (there, back)
  where
    back : find test rules ≡ Some s → Contains rules s × (s.key ≡ key)
    back e = let f = at_find test rules s e in (contains_in rules s (in_at rules f.0 s f.1), to s f.2)

    there : Contains rules s × (s.key ≡ key) → find test rules ≡ Some s
    there (i, k) =
        let p = at_in rules s (in_contains rules s i) in
        let f = find-found test rules p.place s p.at (from s k) in
        let g = at_find test rules f.0 f.1 in
        let same : g.0 ≡ p.place = are.distinct g.0 p.place f.0 s g.1 p.at (to f.0 g.2 ∙ sym k) in
        f.1 ∙ sym g.1 ∙ ap (slice_get rules) same ∙ p.at

pub rule_is : (rules : List DRule) → AreRules rules → (key : Key) (s : DRule) → HasRule rules key s ↔ (rule_of rules key ≡ Some s)
rule_is rules are key s = found_first (lists_key key) (Some key) rules are (λ r. lists-key key r.key) (λ r. lists-own key r.key) s

pub wildcard_is : (rules : List DRule) → AreRules rules → (w : DRule) → HasWildcard rules w ↔ (wildcard_of rules ≡ Some w)
wildcard_is rules are w = found_first is_wildcard None rules are (λ r. no_key r.key) (λ r. no_key-own r.key) w

pub listed_decides : (rules : List DRule) (key : Key) → Decides (is_listed rules key) (IsListed rules key)
listed_decides rules key = (λ h. let r = listed rules key h in (r.0, (contains_in rules r.0 r.1, r.2)), λ h. is_listed_by rules key h.0 (in_contains rules h.0 h.1.0) h.1.1)

pub has_wildcard_decides : (rules : List DRule) → Decides (has_wildcard rules) ((w : DRule) × HasWildcard rules w)
has_wildcard_decides rules = (
  λ h. let r = any_in is_wildcard rules h in (r.0, (contains_in rules r.0 r.1, no_key r.0.key r.2)),
  λ h. in_any is_wildcard rules h.0 (in_contains rules h.0 h.1.0) (no_key-own h.0.key h.1.1),
)

-- ---- the fixed rules

abbrev pub FixedFirst : List DRule → Type 0
FixedFirst [] = Unit {0}
FixedFirst (r ∷ rules) = ((is_fixed r ≡ true) × FixedFirst rules) ⊎ (fixed_rules (r ∷ rules) ≡ [])

pub fixed_here : (r : DRule) (rules : List DRule) (b : Bool) → is_fixed r ≡ b → fixed_rules (r ∷ rules) ≡ cond b (r ∷ fixed_rules rules) (fixed_rules rules)
fixed_here r rules b e = ap (λ (x : Bool). cond x (r ∷ fixed_rules rules) (fixed_rules rules)) e

none_fixed : (loose : List DRule) → list_any is_fixed loose ≡ false → fixed_rules loose ≡ []
none_fixed [] h = refl
none_fixed (r ∷ rules) h = let p = or_parts (is_fixed r) (list_any is_fixed rules) h in fixed_here r rules false p.0 ∙ none_fixed rules p.1

loose_first : (loose : List DRule) → list_any is_fixed loose ≡ false → FixedFirst loose
loose_first [] h = tt
loose_first (r ∷ rules) h = inr (none_fixed (r ∷ rules) h)

parts_first : (fixed loose : List DRule) → list_all is_fixed fixed ≡ true → list_any is_fixed loose ≡ false → FixedFirst (fixed ++ loose)
parts_first [] loose h k = loose_first loose k
parts_first (r ∷ fixed) loose h k = let p = and_parts (is_fixed r) (list_all is_fixed fixed) h in inl (p.0, parts_first fixed loose p.1 k)

pub fixed_first : (rules : List DRule) → AreRules rules → FixedFirst rules
fixed_first rules are = let f = are.fixed_first in subst FixedFirst (sym f.2) (parts_first f.0 f.1 f.3 f.4)

agrees_decides : (r s : DRule) → Decides (option_eq same_key r.key s.key) (r.key ≡ s.key)
agrees_decides r s = by r.key s.key
  where
    by : (x y : Option Key) → Decides (option_eq same_key x y) (x ≡ y)
    by None None = (λ e. refl, λ h. refl)
    by None (Some k) = (λ e. absurd (let f : false ≡ true = e in cc), λ h. absurd (none-some k h))
    by (Some k) None = (λ e. absurd (let f : false ≡ true = e in cc), λ h. absurd (none-some k (sym h)))
    by (Some k) (Some l) = (λ e. ap (λ (x : Key). Some x) (same_key-true k l e), λ h. subst (λ (x : Key). same_key k x ≡ true) (same_Some k l h) (same_key-refl k))

pub no_rule : (r : DRule) (rules : List DRule) → is_fixed r ≡ true → fixed_rules (r ∷ rules) ≢ []
no_rule r rules e none = let f : r ∷ fixed_rules rules ≡ [] = sym (fixed_here r rules true e) ∙ none in cc

fixed_head : (r : DRule) (rules : List DRule) → FixedFirst (r ∷ rules) → (b : Bool) → is_fixed r ≡ b → fixed_rules (r ∷ rules) ≡ cond b (r ∷ fixed_rules rules) []
fixed_head r rules h true e = fixed_here r rules true e
fixed_head r rules (inl h) false e = absurd (let f : true ≡ false = sym h.0 ∙ e in cc)
fixed_head r rules (inr h) false e = h

pub tail_first : (r : DRule) (rules : List DRule) → FixedFirst (r ∷ rules) → is_fixed r ≡ true → FixedFirst rules
tail_first r rules (inl h) e = h.1
tail_first r rules (inr h) e = absurd (no_rule r rules e h)

same_within : (f g : List DRule) (x y : List DRule) (b : Bool) → f ≡ x → g ≡ y → Decides b (FixedWithin x y) → Decides b (FixedWithin f g)
same_within f g x y b e k d = subst (λ (z : List DRule). Decides b (FixedWithin z g)) (sym e) (subst (λ (z : List DRule). Decides b (FixedWithin x z)) (sym k) d)

begins_decides : (a b : List DRule) → FixedFirst a → FixedFirst b → Decides (begins_with a b) (FixedWithin (fixed_rules a) (fixed_rules b))
begins_decides [] [] h k = (λ e. tt, λ e. refl)
begins_decides (r ∷ a) [] h k = (λ e. tt, λ e. refl)
begins_decides [] (s ∷ b) h k = by (is_fixed s) refl
  where
    by : (x : Bool) → is_fixed s ≡ x → Decides (not x) (FixedWithin [] (fixed_rules (s ∷ b)))
    by true e = same_within [] (fixed_rules (s ∷ b)) [] (s ∷ fixed_rules b) false refl (fixed_head s b k true e) (λ f. absurd (let g : false ≡ true = f in cc), λ f. absurd f)
    by false e = same_within [] (fixed_rules (s ∷ b)) [] [] true refl (fixed_head s b k false e) (λ f. tt, λ f. refl)
begins_decides (r ∷ a) (s ∷ b) h k = by (is_fixed r) (is_fixed s) refl refl (λ f g. begins_decides a b (tail_first r a h f) (tail_first s b k g))
  where
    by : (x y : Bool) → is_fixed r ≡ x → is_fixed s ≡ y → (is_fixed r ≡ true → is_fixed s ≡ true → Decides (begins_with a b) (FixedWithin (fixed_rules a) (fixed_rules b)))
        → Decides (not y || (x && option_eq same_key r.key s.key && is_within r s && begins_with a b)) (FixedWithin (fixed_rules (r ∷ a)) (fixed_rules (s ∷ b)))
    by x false e f rest = same_within (fixed_rules (r ∷ a)) (fixed_rules (s ∷ b)) (fixed_rules (r ∷ a)) [] true refl (fixed_head s b k false f) (λ g. tt, λ g. refl)
    by false true e f rest = same_within (fixed_rules (r ∷ a)) (fixed_rules (s ∷ b)) [] (s ∷ fixed_rules b) false (fixed_head r a h false e) (fixed_head s b k true f)
        (λ g. absurd (let i : false ≡ true = g in cc), λ g. absurd g)
    by true true e f rest = same_within (fixed_rules (r ∷ a)) (fixed_rules (s ∷ b)) (r ∷ fixed_rules a) (s ∷ fixed_rules b) (option_eq same_key r.key s.key && is_within r s && begins_with a b)
        (fixed_head r a h true e) (fixed_head s b k true f)
        (Decides-like (option_eq same_key r.key s.key && is_within r s && begins_with a b) (λ g. (g.0.0, g.0.1, g.1)) (λ g. ((g.0, g.1), g.2))
        (Decides-and (option_eq same_key r.key s.key && is_within r s) (begins_with a b)
        (Decides-and (option_eq same_key r.key s.key) (is_within r s) (agrees_decides r s) (within_decides r s)) (rest e f)))

-- ---- the tests

module _ (c : Compared) (paired : (Key → Type 0)) (a b : List DRule) (are_a : AreRules a) (are_b : AreRules b)
    (covers : (key : Key) → Decides (is_covered c key) (IsCovered c.sides.first c.sides.second c.sides.unknown paired key))
    (comes : (key : Key) → Decides (may_come c.sides key) ((c.sides.unknown ≡ Kept) ⊎ IsKnown c.sides.first key))
    (is_uncovered : (key : Key) → IsIn key (uncovered_keys c) ↔ (IsKnown c.sides.first key × (is_covered c key ≡ false)))
    (fits : Decides (strangers_fit c.sides)
    (c.sides.unknown ≡ Kept → (key : Key) (e : DictEntry) → known c.sides.second key ≡ Some e → ¬ IsKnown c.sides.first key → (e.format ≡ AnyBytes OctetString) × (e.rule ≢ Must))) where
  abbrev da : Dictionary
  da = c.sides.first

  abbrev db : Dictionary
  db = c.sides.second

  abbrev u : Unknown
  u = c.sides.unknown

  abbrev covered : Key → Bool
  covered = is_covered c

  abbrev comes_in : Key → Bool
  comes_in = may_come c.sides

  abbrev uncovered : List Key
  uncovered = uncovered_keys c

  abbrev fit : Bool
  fit = strangers_fit c.sides

  -- what holds of the key of each rule
  of_rules : (rules : List DRule) (test : DRule → Key → Bool) (P : DRule → Key → Type 0) → ((r : DRule) (key : Key) → Decides (test r key) (P r key))
      → Decides (list_all (λ r. of_key (test r) r) rules) ((key : Key) (r : DRule) → HasRule rules key r → P r key)
  of_rules rules test P each =
      Decides-like (list_all (λ r. of_key (test r) r) rules) (λ h key r has. h r (in_contains rules r has.0) key has.1) (λ h r i key k. h key r (contains_in rules r i, k))
      (all_decides (λ r. of_key (test r) r) (λ r. (key : Key) → r.key ≡ Some key → P r key) (λ r. key_decides (test r) (P r) (each r) r) rules)

  n2 : Decides (list_all (common_rule b) a) (Passes N2 da db u paired a b)
  n2 = Decides-like (list_all (common_rule b) a) (λ h key r s i j. h key r i s j) (λ h key r i s j. h key r s i j)
      (of_rules a (λ r key. option_map_or (is_within r) (rule_of b key) true) (λ r key. (s : DRule) → HasRule b key s → Within r s)
      (λ r key. some_decides (is_within r) (Within r) (HasRule b key) (within_decides r) (rule_of b key) (rule_is b are_b key)))

  n3 : Decides (list_all (let_in_rule b (has_wildcard b)) a) (Passes N3 da db u paired a b)
  n3 = of_rules a (λ r key. not (is_above_zero r.max) || is_listed b key || has_wildcard b) (λ r key. IsAboveZero r.max → ¬ IsListed b key → (w : DRule) × HasWildcard b w)
      (λ r key. implied_unless (is_above_zero r.max) (is_listed b key) (has_wildcard b) (above_decides r.max) (listed_decides b key) (has_wildcard_decides b))

  n4 : Decides (list_all (covered_rule covered) a) (Passes N4 da db u paired a b)
  n4 = of_rules a (λ r key. not (is_above_zero r.max) || covered key) (λ r key. IsAboveZero r.max → IsCovered da db u paired key)
      (λ r key. implied (is_above_zero r.max) (covered key) (above_decides r.max) (covers key))

  room : (max : Option ℕ) → Decides (has_room (wildcard_of a) max) ((w : DRule) → HasWildcard a w → MaxWithin w.max max)
  room max = some_decides (λ w. is_max_within w.max max) (λ w. MaxWithin w.max max) (HasWildcard a) (λ w. max_decides w.max max) (wildcard_of a) (wildcard_is a are_a)

  n5_key : (s : DRule) (key : Key) → Decides (is_listed a key || ((s.min == 0) && (not (comes_in key) || has_room (wildcard_of a) s.max)))
      (¬ IsListed a key → (s.min ≡ 0) × ((u ≡ Kept) ⊎ IsKnown da key → (w : DRule) → HasWildcard a w → MaxWithin w.max s.max))
  n5_key s key = unless (is_listed a key) ((s.min == 0) && (not (comes_in key) || has_room (wildcard_of a) s.max)) (listed_decides a key)
      (Decides-and (s.min == 0) (not (comes_in key) || has_room (wildcard_of a) s.max) (zero_decides s.min)
      (implied (comes_in key) (has_room (wildcard_of a) s.max) (comes key) (room s.max)))

  n5 : Decides (list_all (own_rule comes_in a (wildcard_of a)) b) (Passes N5 da db u paired a b)
  n5 = Decides-like (list_all (own_rule comes_in a (wildcard_of a)) b) (λ h key s i no. let p = h key s i no in (p.0, λ w j k. p.1 k w j))
      (λ h key s i no. let p = h key s i no in (p.0, λ k w j. p.1 w j k))
      (of_rules b (λ s key. is_listed a key || ((s.min == 0) && (not (comes_in key) || has_room (wildcard_of a) s.max)))
      (λ s key. ¬ IsListed a key → (s.min ≡ 0) × ((u ≡ Kept) ⊎ IsKnown da key → (w : DRule) → HasWildcard a w → MaxWithin w.max s.max)) n5_key)

  n6 : Decides (not (has_wildcard a) || has_wildcard b) (Passes N6 da db u paired a b)
  n6 = Decides-like (not (has_wildcard a) || has_wildcard b) (λ h v i. h (v, i)) (λ h p. h p.0 p.1) (implied (has_wildcard a) (has_wildcard b) (has_wildcard_decides a) (has_wildcard_decides b))

  abbrev Bounded : Option ℕ → Type 0
  Bounded m = (max : ℕ) → m ≡ Some max → ((key : Key) (r : DRule) → HasRule a key r → IsAboveZero r.max → IsListed b key) × ((v : DRule) → HasWildcard a v → MaxWithin v.max (Some max))

  n7_of : (m : Option ℕ) → Decides (bounded_wildcard a b m) (Bounded m)
  n7_of None = (λ e max h. absurd (none-some max h), λ h. refl)
  n7_of (Some k) = Decides-like (list_all (listed_rule b) a && has_room (wildcard_of a) (Some k))
      (λ h max e. (h.0, subst (λ (n : ℕ). (v : DRule) → HasWildcard a v → MaxWithin v.max (Some n)) (same_Some k max e) h.1)) (λ h. h k refl)
      (Decides-and (list_all (listed_rule b) a) (has_room (wildcard_of a) (Some k))
      (of_rules a (λ r key. not (is_above_zero r.max) || is_listed b key) (λ r key. IsAboveZero r.max → IsListed b key)
      (λ r key. implied (is_above_zero r.max) (is_listed b key) (above_decides r.max) (listed_decides b key)))
      (room (Some k)))

  n7 : Decides (option_map_or (λ w. bounded_wildcard a b w.max) (wildcard_of b) true) (Passes N7 da db u paired a b)
  n7 = Decides-like (option_map_or (λ w. bounded_wildcard a b w.max) (wildcard_of b) true) (λ h w max i e. h w i max e) (λ h w i max e. h w max i e)
      (some_decides (λ w. bounded_wildcard a b w.max) (λ w. Bounded w.max) (HasWildcard b) (λ w. n7_of w.max) (wildcard_of b) (wildcard_is b are_b))

  abbrev Needed : ℕ → Type 0
  Needed min = 0 < min → ((v : DRule) × HasWildcard a v × (min ≤ v.min)) × ((key : Key) → IsListed b key → IsListed a key)

  n8_of : (min : ℕ) → Decides (required_wildcard a b min) (Needed min)
  n8_of min = by (min == 0) refl
    where
      rest : Bool
      rest = option_map_or (λ v. nat_le min v.min) (wildcard_of a) false && list_all (of_key (is_listed a)) b

      both : Decides (option_map_or (λ v. nat_le min v.min) (wildcard_of a) false && list_all (of_key (is_listed a)) b)
          (((v : DRule) × HasWildcard a v × (min ≤ v.min)) × ((key : Key) → IsListed b key → IsListed a key))
      both = Decides-and (option_map_or (λ v. nat_le min v.min) (wildcard_of a) false) (list_all (of_key (is_listed a)) b)
          (any_decides (λ v. nat_le min v.min) (λ v. min ≤ v.min) (HasWildcard a) (λ v. le_decides min v.min) (wildcard_of a) (wildcard_is a are_a))
          (Decides-like (list_all (of_key (is_listed a)) b) (λ h key i. h key i.0 i.1) (λ h key s i. h key (s, i))
          (of_rules b (λ s key. is_listed a key) (λ s key. IsListed a key) (λ s key. listed_decides a key)))

      by : (x : Bool) → (min == 0) ≡ x → Decides (x || (option_map_or (λ v. nat_le min v.min) (wildcard_of a) false && list_all (of_key (is_listed a)) b)) (Needed min)
      by true e = (λ f up. absurd (let z = eqb-true min 0 e in omega (arith, z, up)), λ h. refl)
      by false e = let z = eqb-false min 0 e in (λ f up. both.0 f, λ h. both.1 (h (above z)))
        where
          above : min ≢ 0 → 0 < min
          above z = omega (arith, z)

  n8 : Decides (option_map_or (λ w. required_wildcard a b w.min) (wildcard_of b) true) (Passes N8 da db u paired a b)
  n8 = some_decides (λ w. required_wildcard a b w.min) (λ w. Needed w.min) (HasWildcard b) (λ w. n8_of w.min) (wildcard_of b) (wildcard_is b are_b)

  n9_let_in : Decides (fit && list_all (is_listed a) uncovered) (WildcardCovered da db u paired a)
  n9_let_in = Decides-like (fit && list_all (is_listed a) uncovered) (λ h. record { known_keys = old h.1; new_keys = h.0 }) (λ h. (h.new_keys, new h.known_keys))
      (Decides-and fit (list_all (is_listed a) uncovered) fits (all_decides (is_listed a) (IsListed a) (listed_decides a) uncovered))
    where
      old : ((key : Key) → IsIn key uncovered → IsListed a key) → (key : Key) → IsKnown da key → ¬ IsListed a key → IsCovered da db u paired key
      old h key is no_rule_of = by (covered key) refl
        where
          by : (x : Bool) → covered key ≡ x → IsCovered da db u paired key
          by true e = (covers key).0 e
          by false e = absurd (no_rule_of (h key ((is_uncovered key).1 (is, e))))

      new : ((key : Key) → IsKnown da key → ¬ IsListed a key → IsCovered da db u paired key) → (key : Key) → IsIn key uncovered → IsListed a key
      new h key i = by (is_listed a key) refl
        where
          by : (x : Bool) → is_listed a key ≡ x → IsListed a key
          by true e = (listed_decides a key).0 e
          by false e =
              let there = (is_uncovered key).0 i in
              let k = (covers key).1 (h key there.0 (λ l. let f : false ≡ true = sym e ∙ (listed_decides a key).1 l in cc)) in
              absurd (let f : false ≡ true = sym there.1 ∙ k in cc)

  n9 : Decides (option_map_or (λ v. not (is_above_zero v.max) || (fit && list_all (is_listed a) uncovered)) (wildcard_of a) true) (Passes N9 da db u paired a b)
  n9 = some_decides (λ v. not (is_above_zero v.max) || (fit && list_all (is_listed a) uncovered)) (λ v. IsAboveZero v.max → WildcardCovered da db u paired a) (HasWildcard a)
      (λ v. implied (is_above_zero v.max) (fit && list_all (is_listed a) uncovered) (above_decides v.max) n9_let_in) (wildcard_of a) (wildcard_is a are_a)

  pub decides : (t : Test) → Decides (is_passed c t a b) (Passes t c.sides.first c.sides.second c.sides.unknown paired a b)
  decides N1 = begins_decides a b (fixed_first a are_a) (fixed_first b are_b)
  decides N2 = n2
  decides N3 = n3
  decides N4 = n4
  decides N5 = n5
  decides N6 = n6
  decides N7 = n7
  decides N8 = n8
  decides N9 = n9
  decides N10 = (λ e. tt, λ h. refl)
