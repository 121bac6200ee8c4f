-- What a proposal reaches, step by step.
use Rattle.std.proofs.Common.{◌≡◌, ℕ, ◌+◌, ◌<◌, ◌≤◌, Bool, true, false, not, cond, List, [], ◌∷◌, ◌++◌}
use Rattle.std.proofs.Common.{length, map, filter, take, get_or, Option, Some, None, refl, sym, ap, subst, ◌∙◌, arith, inl, inr}
use Rattle.std.specs.Prelude.{◌⊎◌, is_some, IsSome, Contains, slice_get, count_by, option_and_then}
use Rattle.std.specs.Option.{option_map_or}
use Rattle.std.proofs.lemmas.Bool.{not-true}
use Rattle.std.proofs.lemmas.List.{take_more, length-append}
use Rattle.dia_wire.specs.declared.Key.{Key}
use Rattle.dia_book.specs.Keys.{same_key}
use Rattle.dia_book.proofs.SameKeys.{same_key-refl, same_key-true}
use Rattle.dia_book.proofs.Members.{into_map}
use Rattle.dia_book.specs.declared.DRule.{DRule}
use Rattle.dia_book.specs.Dictionary.{Dictionary, DictEntry, PlainDefinition, definitions, entry_of}
use Rattle.dia_valid.specs.Valid.{known, is_listed}
use Rattle.dia_compat.specs.declared.proposing.reaching.Reached.{Reached}
use Rattle.dia_compat.specs.Sides.{Sides}
use Rattle.dia_valid.specs.Rules.{rules_in, IsListed, HasWildcard}
use Rattle.dia_compat.specs.Below.{IsAboveZero, IsKnown}
use Rattle.dia_compat.specs.ReachedKeys.{has, Waits, IsShared, IsAllowedBy, IsAllowed, Admits, Inserts, potential, Grew}
use Rattle.dia_compat.specs.ReachedKeys.{ComesTo, ComesToAll, AreRest, Sorts}
use Rattle.dia_valid.proofs.Members.{IsIn, in_at, at_in, in_contains, contains_in, in_left, in_right, in_append, into_filter, count_cons, count_mono}
use Rattle.dia_valid.proofs.RulesOfKeys.{listed, is_listed_by}
use Rattle.dia_compat.proofs.FitInSecond.{known_entry}
use Rattle.dia_valid.proofs.Members.{some_of}
use Rattle.dia_valid.proofs.KnownKeys.{known_by_entry}

-- ---- keys that are known

pub is_known : (d : Dictionary) (key : Key) → IsSome (entry_of d key) → IsKnown d key
is_known d key h = let i = some_of (entry_of d key) h in let k = known_by_entry d key i.0 i.1 in ap (λ (o : Option DictEntry). is_some o) k.2

-- ---- counts

count_less : {X : Type 0} (p q : X → Bool) (xs : List X) (x : X) → ((y : X) → q y ≡ true → p y ≡ true) → IsIn x xs → p x ≡ true → q x ≡ false → count_by q xs + 1 ≤ count_by p xs
count_less p q [] x le i px qx = absurd i
count_less p q (y ∷ xs) x le (inl same) px qx =
    let one : cond {A = ℕ} (q y) 1 0 ≡ 0 = ap (λ (b : Bool). cond {A = ℕ} b 1 0) (ap q (sym same) ∙ qx) in
    let other : cond {A = ℕ} (p y) 1 0 ≡ 1 = ap (λ (b : Bool). cond {A = ℕ} b 1 0) (ap p (sym same) ∙ px) in
    let rest = count_mono q p xs (λ z _. le z) in
    omega (arith, count_cons p y xs, count_cons q y xs)
count_less p q (y ∷ xs) x le (inr i) px qx =
    let rest = count_less p q xs x le i px qx in
    let first = one_less (q y) (p y) (le y) in
    omega (arith, count_cons p y xs, count_cons q y xs)
  where
    one_less : (a b : Bool) → (a ≡ true → b ≡ true) → cond {A = ℕ} a 1 0 ≤ cond {A = ℕ} b 1 0
    one_less true true h = omega arith
    one_less true false h = absurd (let e : false ≡ true = h refl in cc)
    one_less false b h = omega arith

-- ---- one key more

module _ (key : Key) (old new : Reached) (ins : Inserts key old new) where
  has_more : (other : Key) → has old other ≡ true → has new other ≡ true
  has_more other h = ins.keys other ∙ by (same_key key other)
    where
      by : (b : Bool) → cond b true (has old other) ≡ true
      by true = refl
      by false = h

  has_it : has new key ≡ true
  has_it = ins.keys key ∙ ap (λ (b : Bool). cond b true (has old key)) (same_key-refl key)

  had_or_is : (other : Key) → has new other ≡ true → (has old other ≡ true) ⊎ (other ≡ key)
  had_or_is other h = by (same_key key other) refl
    where
      by : (b : Bool) → same_key key other ≡ b → (has old other ≡ true) ⊎ (other ≡ key)
      by true e = inr (sym (same_key-true key other e))
      by false e = inl (ap (λ (b : Bool). cond b true (has old other)) (sym e) ∙ sym (ins.keys other) ∙ h)

  pub grew_by_one : (sides : Sides) → IsShared sides key → Grew sides.first (λ other. (other ≡ key) × IsShared sides other) old new
  grew_by_one sides shared = by (has old key) refl
    where
      e : (e : DictEntry) × (known sides.first key ≡ Some e)
      e = some_of (known sides.first key) shared.0

      only : (other : Key) → has new other ≡ true → (has old other ≡ true) ⊎ ((other ≡ key) × IsShared sides other)
      only other h = pick (had_or_is other h)
        where
          pick : (has old other ≡ true) ⊎ (other ≡ key) → (has old other ≡ true) ⊎ ((other ≡ key) × IsShared sides other)
          pick (inl g) = inl g
          pick (inr same) = inr (same, subst (IsShared sides) (sym same) shared)

      fewer : (entry : DictEntry) → not (has new entry.key) ≡ true → not (has old entry.key) ≡ true
      fewer entry h = flip (has old entry.key) refl
        where
          flip : (b : Bool) → has old entry.key ≡ b → not b ≡ true
          flip false g = refl
          flip true g = absurd (let f : true ≡ false = sym (has_more entry.key g) ∙ not-true (has new entry.key) h in cc)

      by : (b : Bool) → has old key ≡ b → Grew sides.first (λ other. (other ≡ key) × IsShared sides other) old new
      by true had =
          let same : new.waiting.items ≡ old.waiting.items = ins.waiting ∙ ap (λ (b : Bool). cond b old.waiting.items (old.waiting.items ++ key ∷ [])) had in
          let less = count_mono (λ (x : DictEntry). not (has new x.key)) (λ (x : DictEntry). not (has old x.key)) sides.first.entries (λ x _. fewer x) in
          record {
            grows = has_more;
            only = only;
            still = λ other w. subst (λ (xs : List Key). Contains xs other) (sym same) w;
            waits = λ other w. inl (subst (λ (xs : List Key). Contains xs other) same w);
            queued = λ other h. stay other (had_or_is other h);
            nearer = omega (arith, ap length same);
          }
        where
          stay : (other : Key) → (has old other ≡ true) ⊎ (other ≡ key) → (has old other ≡ true) ⊎ Waits new other
          stay other (inl g) = inl g
          stay other (inr is) = inl (ap (has old) is ∙ had)
      by false had =
          let same : new.waiting.items ≡ old.waiting.items ++ key ∷ [] = ins.waiting ∙ ap (λ (b : Bool). cond b old.waiting.items (old.waiting.items ++ key ∷ [])) had in
          let there = known_entry sides.first key e.0 e.1 in
          let less = count_less (λ (x : DictEntry). not (has old x.key)) (λ (x : DictEntry). not (has new x.key)) sides.first.entries e.0 fewer there.0
          (ap (λ (k : Key). not (has old k)) there.1 ∙ ap not had) (ap (λ (k : Key). not (has new k)) there.1 ∙ ap not has_it) in
          record {
            grows = has_more;
            only = only;
            still = λ other w. subst (λ (xs : List Key). Contains xs other) (sym same)
                (contains_in (old.waiting.items ++ key ∷ []) other (in_left old.waiting.items (key ∷ []) other (in_contains old.waiting.items other w)));
            waits = λ other w. left other (in_append old.waiting.items (key ∷ []) other (in_contains (old.waiting.items ++ key ∷ []) other (subst (λ (xs : List Key). Contains xs other) same w)));
            queued = λ other h. last other (had_or_is other h) same;
            nearer = omega (arith, ap length same, length-append old.waiting.items (key ∷ []));
          }
        where
          left : (other : Key) → IsIn other old.waiting.items ⊎ IsIn other (key ∷ []) → Waits old other ⊎ (has new other ≡ true)
          left other (inl i) = inl (contains_in old.waiting.items other i)
          left other (inr (inl is)) = inr (ap (has new) is ∙ has_it)
          left other (inr (inr none)) = absurd none

          last : (other : Key) → (has old other ≡ true) ⊎ (other ≡ key) → new.waiting.items ≡ old.waiting.items ++ key ∷ [] → (has old other ≡ true) ⊎ Waits new other
          last other (inl g) same = inl g
          last other (inr is) same = inr (subst (λ (xs : List Key). Contains xs other) (sym same)
              (contains_in (old.waiting.items ++ key ∷ []) other (in_right old.waiting.items (key ∷ []) other (inl is))))

  pub came_to : (sides : Sides) → IsShared sides key → ComesTo sides key old new
  came_to sides shared = record { grew = grew_by_one sides shared; there = λ _. has_it; rest = λ other _ i. inr (subst (λ (xs : List Key). Contains xs other) (sym ins.rest) i) }

-- ---- several steps

pub grew_none : (da : Dictionary) (P : Key → Type 0) (r : Reached) → Grew da P r r
grew_none da P r = record {
  grows = λ key h. h;
  only = λ key h. inl h;
  still = λ key h. h;
  waits = λ key h. inl h;
  queued = λ key h. inl h;
  nearer = omega arith;
}

pub grew_then : (da : Dictionary) (P Q R : Key → Type 0) (x y z : Reached) → Grew da P x y → Grew da Q y z → ((key : Key) → P key → R key) → ((key : Key) → Q key → R key) → Grew da R x z
grew_then da P Q R x y z one two first second = record {
  grows = λ key h. two.grows key (one.grows key h);
  only = λ key h. only key (two.only key h);
  still = λ key w. two.still key (one.still key w);
  waits = λ key w. waits key (two.waits key w);
  queued = λ key h. queued key (two.queued key h);
  nearer = let a = one.nearer in let b = two.nearer in omega arith;
}
  where
    only : (key : Key) → (has y key ≡ true) ⊎ Q key → (has x key ≡ true) ⊎ R key
    only key (inr q) = inr (second key q)
    only key (inl h) = by (one.only key h)
      where
        by : (has x key ≡ true) ⊎ P key → (has x key ≡ true) ⊎ R key
        by (inl g) = inl g
        by (inr p) = inr (first key p)

    waits : (key : Key) → Waits y key ⊎ (has z key ≡ true) → Waits x key ⊎ (has z key ≡ true)
    waits key (inr h) = inr h
    waits key (inl w) = by (one.waits key w)
      where
        by : Waits x key ⊎ (has y key ≡ true) → Waits x key ⊎ (has z key ≡ true)
        by (inl v) = inl v
        by (inr h) = inr (two.grows key h)

    queued : (key : Key) → (has y key ≡ true) ⊎ Waits z key → (has x key ≡ true) ⊎ Waits z key
    queued key (inr w) = inr w
    queued key (inl h) = by (one.queued key h)
      where
        by : (has x key ≡ true) ⊎ Waits y key → (has x key ≡ true) ⊎ Waits z key
        by (inl g) = inl g
        by (inr w) = inr (two.still key w)

-- what reaches all with P and then all with Q has reached all with one of them
pub all_then : (sides : Sides) (P Q R : Key → Type 0) (x y z : Reached) → ComesToAll sides P x y → ComesToAll sides Q y z
    → ((key : Key) → P key → R key) → ((key : Key) → Q key → R key) → ((key : Key) → R key → P key ⊎ Q key) → ComesToAll sides R x z
all_then sides P Q R x y z one two first second either = record {
  grew = grew_then sides.first (λ key. P key × IsShared sides key) (λ key. Q key × IsShared sides key) (λ key. R key × IsShared sides key) x y z one.grew two.grew (λ key p. (first key p.0, p.1))
      (λ key q. (second key q.0, q.1));
  there = λ key r shared. by key shared (either key r);
  rest = λ key shared i. rest key shared (one.rest key shared i);
}
  where
    rest : (key : Key) → IsShared sides key → (has y key ≡ true) ⊎ Contains y.rest.items key → (has z key ≡ true) ⊎ Contains z.rest.items key
    rest key shared (inl h) = inl (two.grew.grows key h)
    rest key shared (inr i) = two.rest key shared i

    by : (key : Key) → IsShared sides key → P key ⊎ Q key → has z key ≡ true
    by key shared (inl p) = two.grew.grows key (one.there key p shared)
    by key shared (inr q) = two.there key q shared

pub all_none : (sides : Sides) (P : Key → Type 0) (r : Reached) → ((key : Key) → ¬ P key) → ComesToAll sides P r r
all_none sides P r none = record { grew = grew_none sides.first (λ key. P key × IsShared sides key) r; there = λ key p _. absurd (none key p); rest = λ key _ i. inr i }

pub all_one : (sides : Sides) (P : Key → Type 0) (key : Key) (x y : Reached) → ComesTo sides key x y → P key → ((other : Key) → P other → other ≡ key) → ComesToAll sides P x y
all_one sides P key x y one p only = record {
  grew = grew_then sides.first (λ other. (other ≡ key) × IsShared sides other) (λ _. ⊥) (λ other. P other × IsShared sides other) x y y one.grew (grew_none sides.first (λ _. ⊥) y)
      (λ other h. (subst P (sym h.0) p, h.1)) (λ other none. absurd none);
  there = λ other q shared. ap (has y) (only other q) ∙ one.there (subst (IsShared sides) (only other q) shared);
  rest = one.rest;
}

-- ---- the rules of a definition

in_more : {X : Type 0} (xs : List X) (i : ℕ) (x d : X) → i < length xs → IsIn x (take (i + 1) xs) → IsIn x (take i xs) ⊎ (x ≡ get_or xs i d)
in_more {X} xs i x d within h = by (in_append (take i xs) (get_or xs i d ∷ []) x (subst (IsIn x) (take_more xs i d within) h))
  where
    by : IsIn x (take i xs) ⊎ IsIn x (get_or xs i d ∷ []) → IsIn x (take i xs) ⊎ (x ≡ get_or xs i d)
    by (inl j) = inl j
    by (inr (inl same)) = inr same
    by (inr (inr none)) = absurd none

in_front_too : {X : Type 0} (xs : List X) (i : ℕ) (x d : X) → i < length xs → IsIn x (take i xs) → IsIn x (take (i + 1) xs)
in_front_too {X} xs i x d within h = subst (IsIn x) (sym (take_more xs i d within)) (in_left (take i xs) (get_or xs i d ∷ []) x h)

in_last : {X : Type 0} (xs : List X) (i : ℕ) (d : X) → i < length xs → IsIn (get_or xs i d) (take (i + 1) xs)
in_last {X} xs i d within = subst (IsIn (get_or xs i d)) (sym (take_more xs i d within)) (in_right (take i xs) (get_or xs i d ∷ []) (get_or xs i d) (inl refl))

-- one rule more
pub listed_more : (sides : Sides) (rules : List DRule) (i : ℕ) (d : DRule) (x y z : Reached) → i < length rules → ComesToAll sides (IsAllowed (take i rules)) x y
    → ComesToAll sides (IsAllowedBy (get_or rules i d)) y z → ComesToAll sides (IsAllowed (take (i + 1) rules)) x z
listed_more sides rules i d x y z within one two = all_then sides (IsAllowed (take i rules)) (IsAllowedBy r) (IsAllowed (take (i + 1) rules)) x y z one two
    (λ key p. (p.0, (contains_in (take (i + 1) rules) p.0 (in_front_too rules i p.0 d within (in_contains (take i rules) p.0 p.1.0)), p.1.1), p.2))
    (λ key q. (r, (contains_in (take (i + 1) rules) r (in_last rules i d within), q.0), q.1))
    (λ key p. by key p (in_more rules i p.0 d within (in_contains (take (i + 1) rules) p.0 p.1.0)))
  where
    r : DRule
    r = get_or rules i d

    by : (key : Key) (p : IsAllowed (take (i + 1) rules) key) → IsIn p.0 (take i rules) ⊎ (p.0 ≡ r) → IsAllowed (take i rules) key ⊎ IsAllowedBy r key
    by key p (inl j) = inl (p.0, (contains_in (take i rules) p.0 j, p.1.1), p.2)
    by key p (inr same) = inr (ap (λ (s : DRule). s.key) (sym same) ∙ p.1.1, subst (λ (s : DRule). IsAboveZero s.max) same p.2)

-- all rules, and the AVPs that are not listed
pub admitted : (sides : Sides) (rules : List DRule) (x y z : Reached) → ((w : DRule) × HasWildcard rules w × IsAboveZero w.max) → ComesToAll sides (IsAllowed rules) x y
    → ComesToAll sides (λ key. ¬ IsListed rules key) y z → ComesToAll sides (Admits rules) x z
admitted sides rules x y z w one two = all_then sides (IsAllowed rules) (λ key. ¬ IsListed rules key) (Admits rules) x y z one two (λ key p. inl p) (λ key q. inr (w, q)) either
  where
    either : (key : Key) → Admits rules key → IsAllowed rules key ⊎ (¬ IsListed rules key)
    either key (inl p) = inl p
    either key (inr q) = inr q.1

-- without an open wildcard, the definition lets in what its rules list
pub only_listed : (sides : Sides) (rules : List DRule) (x y : Reached) → (¬ ((w : DRule) × HasWildcard rules w × IsAboveZero w.max)) → ComesToAll sides (IsAllowed rules) x y
    → ComesToAll sides (Admits rules) x y
only_listed sides rules x y none one =
    all_then sides (IsAllowed rules) (λ key. ⊥) (Admits rules) x y y one (all_none sides (λ key. ⊥) y (λ key h. h)) (λ key p. inl p) (λ key h. absurd h) (λ key p. inl (listed key p))
  where
    listed : (key : Key) → Admits rules key → IsAllowed rules key
    listed key (inl p) = p
    listed key (inr q) = absurd (none q.0)

-- what the test of a key says
pub listed_by_test : (rules : List DRule) (key : Key) → is_listed rules key ≡ true → IsListed rules key
listed_by_test rules key h = let r = listed rules key h in (r.0, (contains_in rules r.0 r.1, r.2))

pub unlisted_by_test : (rules : List DRule) (key : Key) → is_listed rules key ≡ false → ¬ IsListed rules key
unlisted_by_test rules key h i = absurd (let e : true ≡ false = sym (is_listed_by rules key i.0 (in_contains rules i.0 i.1.0) i.1.1) ∙ h in cc)

-- the rules of a definition by its number
pub rules_at : (d : Dictionary) (n : ℕ) (g : PlainDefinition) → slice_get (definitions d) n ≡ Some g → rules_in d n ≡ g.rules
rules_at d n g at = ap (λ (o : Option PlainDefinition). option_map_or (λ x. x.rules) o []) at

-- ---- the keys that a definition does not list

pub entry_there : (d : Dictionary) (key : Key) → IsKnown d key → is_some (entry_of d key) ≡ true
entry_there d key h = by (entry_of d key) refl
  where
    by : (o : Option ℕ) → entry_of d key ≡ o → is_some (entry_of d key) ≡ true
    by (Some i) e = ap (λ (o : Option ℕ). is_some o) e
    by None e =
        let none : known d key ≡ None = ap (λ (o : Option ℕ). option_and_then (λ (n : ℕ). slice_get d.entries n) o) e in
        absurd (let f : false ≡ true = sym (ap (λ (o : Option DictEntry). is_some o) none) ∙ h in cc)

-- at first the rest are all keys that both know
pub first_rest : (sides : Sides) (r : Reached) → r.rest.items ≡ filter (λ key. is_some (entry_of sides.second key)) (map (λ e. e.key) sides.first.entries) → AreRest sides r
first_rest sides r is = λ key shared.
    let e = some_of (known sides.first key) shared.0 in
    let there = known_entry sides.first key e.0 e.1 in
    let p = at_in sides.first.entries e.0 there.0 in
    let keys = map (λ (x : DictEntry). x.key) sides.first.entries in
    let inside = subst (λ (k : Key). IsIn k keys) there.1 (in_at keys p.place e.0.key (into_map (λ (x : DictEntry). x.key) sides.first.entries p.place e.0 p.at)) in
    let all = filter (λ (k : Key). is_some (entry_of sides.second k)) keys in
    let found = contains_in all key (into_filter (λ (k : Key). is_some (entry_of sides.second k)) keys key inside (entry_there sides.second key shared.1)) in
    inr (subst (λ (ks : List Key). Contains ks key) (sym is) found)

pub rest_then : (sides : Sides) (P : Key → Type 0) (x y : Reached) → AreRest sides x → ComesToAll sides P x y → AreRest sides y
rest_then sides P x y rest all = λ key shared. by key shared (rest key shared)
  where
    by : (key : Key) → IsShared sides key → (has x key ≡ true) ⊎ Contains x.rest.items key → (has y key ≡ true) ⊎ Contains y.rest.items key
    by key shared (inl h) = inl (all.grew.grows key h)
    by key shared (inr i) = all.rest key shared i

-- the rest changes, and nothing else
pub grew_same : (da : Dictionary) (P : Key → Type 0) (x y : Reached) → ((key : Key) → has y key ≡ has x key) → y.waiting.items ≡ x.waiting.items → potential da y ≡ potential da x → Grew da P x y
grew_same da P x y same waits near = record {
  grows = λ key h. same key ∙ h;
  only = λ key h. inl (sym (same key) ∙ h);
  still = λ key w. subst (λ (xs : List Key). Contains xs key) (sym waits) w;
  waits = λ key w. inl (subst (λ (xs : List Key). Contains xs key) waits w);
  queued = λ key h. inl (sym (same key) ∙ h);
  nearer = omega (arith, near);
}

-- a key that is not listed is reached, and one that is listed is left
pub sorts_new : (sides : Sides) (rules : List DRule) (key : Key) (x y : Reached) → ¬ IsListed rules key → ComesTo sides key x y → Sorts sides rules key x y
sorts_new sides rules key x y new one = record {
  comes = all_one sides (λ other. (other ≡ key) × ¬ IsListed rules other) key x y one (refl, new) (λ other h. h.0);
  left = λ shared. inl (one.there shared);
}

pub sorts_listed : (sides : Sides) (rules : List DRule) (key : Key) (x y : Reached) → (¬ ¬ IsListed rules key) → ((other : Key) → has y other ≡ has x other)
    → y.waiting.items ≡ x.waiting.items → potential sides.first y ≡ potential sides.first x
    → y.rest.items ≡ x.rest.items ++ key ∷ [] → Sorts sides rules key x y
sorts_listed sides rules key x y listed same waits near pushed = record {
  comes = record {
    grew = grew_same sides.first (λ other. ((other ≡ key) × ¬ IsListed rules other) × IsShared sides other) x y same waits near;
    there = λ other q _. absurd (listed (subst (λ (k : Key). ¬ IsListed rules k) q.0 q.1));
    rest = λ other _ i. inr (subst (λ (ks : List Key). Contains ks other) (sym pushed)
        (contains_in (x.rest.items ++ key ∷ []) other (in_left x.rest.items (key ∷ []) other (in_contains x.rest.items other i))));
  };
  left = λ _. inr (subst (λ (ks : List Key). Contains ks key) (sym pushed) (contains_in (x.rest.items ++ key ∷ []) key (in_right x.rest.items (key ∷ []) key (inl refl))));
}

-- one of these keys, which no rule lists
abbrev pub IsUnlistedOf : List Key → List DRule → Key → Type 0
IsUnlistedOf keys rules key = IsIn key keys × ¬ IsListed rules key

-- all of these keys, one after the other
pub record SortsAll (sides : Sides) (rules : List DRule) (keys : List Key) (x y : Reached) : Type 0 where
  pub comes : ComesToAll sides (IsUnlistedOf keys rules) x y
  pub left : (key : Key) → IsIn key keys → IsShared sides key → (has y key ≡ true) ⊎ Contains y.rest.items key

pub sorts_none : (sides : Sides) (rules : List DRule) (x : Reached) → SortsAll sides rules [] x x
sorts_none sides rules x = record { comes = all_none sides (IsUnlistedOf [] rules) x (λ key p. p.0); left = λ key i _. absurd i }

pub sorts_more : (sides : Sides) (rules : List DRule) (keys : List Key) (i : ℕ) (d : Key) (x y z : Reached) → i < length keys → SortsAll sides rules (take i keys) x y
    → Sorts sides rules (get_or keys i d) y z
    → SortsAll sides rules (take (i + 1) keys) x z
sorts_more sides rules keys i d x y z within one two = record {
  comes = all_then sides (IsUnlistedOf (take i keys) rules) (λ other. (other ≡ k) × ¬ IsListed rules other) (IsUnlistedOf (take (i + 1) keys) rules) x y z one.comes two.comes
      (λ other p. (in_front_too keys i other d within p.0, p.1))
      (λ other q. (subst (λ (w : Key). IsIn w (take (i + 1) keys)) (sym q.0) (in_last keys i d within), q.1))
      (λ other p. by other p (in_more keys i other d within p.0));
  left = λ key j shared. left key shared (in_more keys i key d within j);
}
  where
    k : Key
    k = get_or keys i d

    by : (other : Key) → IsUnlistedOf (take (i + 1) keys) rules other → IsIn other (take i keys) ⊎ (other ≡ k) → IsUnlistedOf (take i keys) rules other ⊎ ((other ≡ k) × ¬ IsListed rules other)
    by other p (inl j) = inl (j, p.1)
    by other p (inr same) = inr (same, p.1)

    after : (key : Key) → IsShared sides key → (has y key ≡ true) ⊎ Contains y.rest.items key → (has z key ≡ true) ⊎ Contains z.rest.items key
    after key shared (inl h) = inl (two.comes.grew.grows key h)
    after key shared (inr j) = two.comes.rest key shared j

    left : (key : Key) → IsShared sides key → IsIn key (take i keys) ⊎ (key ≡ k) → (has z key ≡ true) ⊎ Contains z.rest.items key
    left key shared (inl j) = after key shared (one.left key j shared)
    left key shared (inr same) = subst (λ (w : Key). (has z w ≡ true) ⊎ Contains z.rest.items w) (sym same) (two.left (subst (IsShared sides) same shared))

-- all of the rest
pub sorts_all : (sides : Sides) (rules : List DRule) (x mid y : Reached) → AreRest sides x → ((key : Key) → has mid key ≡ has x key) → mid.waiting.items ≡ x.waiting.items
    → potential sides.first mid ≡ potential sides.first x
    → SortsAll sides rules x.rest.items mid y → ComesToAll sides (λ key. ¬ IsListed rules key) x y
sorts_all sides rules x mid y rest same waits near all = record {
  grew = grew_then sides.first (λ _. ⊥) (λ key. IsUnlistedOf x.rest.items rules key × IsShared sides key) (λ key. (¬ IsListed rules key) × IsShared sides key) x mid y
      (grew_same sides.first (λ _. ⊥) x mid same waits near) all.comes.grew
      (λ key none. absurd none) (λ key q. (q.0.1, q.1));
  there = λ key q shared. there key q shared (rest key shared);
  rest = λ key shared i. all.left key (in_contains x.rest.items key i) shared;
}
  where
    there : (key : Key) → (¬ IsListed rules key) → IsShared sides key → (has x key ≡ true) ⊎ Contains x.rest.items key → has y key ≡ true
    there key q shared (inl h) = all.comes.grew.grows key (same key ∙ h)
    there key q shared (inr i) = all.comes.there key (in_contains x.rest.items key i, q) shared
