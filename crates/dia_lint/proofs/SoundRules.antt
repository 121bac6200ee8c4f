-- Rules of which each key has one, and the runs of those that let AVPs in.
use Rattle.std.proofs.Common.{◌≡◌, ℕ, ◌≤◌, Bool, true, false, cond, List, [], ◌∷◌, ◌++◌, length, filter, Option, Some, None, refl, sym, ap, subst, ◌∙◌, arith, inl, inr}
use Rattle.std.specs.Prelude.{◌⊎◌, nat_eq, not, ◌&&◌, if◌then◌else◌, find, is_some, option_and_then, slice_get, IfSome, IsSome, IsTrue}
use Rattle.std.specs.Option.{option_eq}
use Rattle.std.proofs.lemmas.Bool.{and_parts, eqb-true, not-true, not-false}
use Rattle.std.proofs.lemmas.Option.{none-some, same_Some}
use Rattle.dia_wire.specs.declared.Key.{Key}
use Rattle.dia_book.specs.declared.DRule.{DRule}
use Rattle.dia_book.specs.Dictionary.{AreRules, is_fixed}
use Rattle.dia_valid.specs.Valid.{InBounds, Runs, is_wildcard}
use Rattle.dia_valid.proofs.Members.{IsIn, all_of, at_in}
use Rattle.dia_lint.specs.Guidelines.{lets_in}
use Rattle.dia_lint.specs.LevelParts.{is_first}

-- each key and the wildcard have one rule, fixed rules have keys, and bounds can be met
pub record AreSound (rules : List DRule) : Type 0 where
  pub one : (a b : DRule) → IsIn a rules → IsIn b rules → a.key ≡ b.key → a ≡ b
  pub keyed : (r : DRule) → IsIn r rules → is_fixed r ≡ true → is_some r.key ≡ true
  pub bounds : (r : DRule) → IsIn r rules → IfSome r.max (λ max. r.min ≤ max)

pub sound : (rules : List DRule) → AreRules rules → AreSound rules
sound rules are = record {
  one = λ a b ia ib same.
      let p = at_in rules a ia in
      let q = at_in rules b ib in
      let e : p.place ≡ q.place = are.distinct p.place q.place a b p.at q.at same in
      same_Some a b (sym p.at ∙ ap (slice_get rules) e ∙ q.at);
  keyed = λ r i fixed. all_of (λ (x : DRule). IsTrue (is_fixed x) → IsSome x.key) rules r are.fixed_keys i fixed;
  bounds = λ r i. all_of (λ (x : DRule). IfSome x.max (λ max. x.min ≤ max)) rules r are.bounds i;
}

pub sound_tail : (r : DRule) (rules : List DRule) → AreSound (r ∷ rules) → AreSound rules
sound_tail r rules s = record {
  one = λ a b ia ib same. s.one a b (inr ia) (inr ib) same;
  keyed = λ x i fixed. s.keyed x (inr i) fixed;
  bounds = λ x i. s.bounds x (inr i);
}

-- ---- rules that let nothing in

pub never_max : (o : Option ℕ) → not (option_eq nat_eq o (Some 0)) ≡ false → o ≡ Some 0
never_max None h = absurd (let e : true ≡ false = h in cc)
never_max (Some m) h = ap (λ (k : ℕ). Some k) (eqb-true m 0 (not-false (nat_eq m 0) h))

pub zero_from : (r : DRule) (n : ℕ) → lets_in r ≡ false → InBounds r n → n ≡ 0
zero_from r n never within =
    let le : IfSome (Some 0) (λ max. n ≤ max) = subst (λ (o : Option ℕ). IfSome o (λ max. n ≤ max)) (never_max r.max never) within.1 in
    omega (arith, le)

pub zero_to : (r : DRule) → lets_in r ≡ false → IfSome r.max (λ max. r.min ≤ max) → InBounds r 0
zero_to r never bounds =
    let is = never_max r.max never in
    let le : IfSome (Some 0) (λ max. r.min ≤ max) = subst (λ (o : Option ℕ). IfSome o (λ max. r.min ≤ max)) is bounds in
    let zero_le : IfSome (Some 0) (λ max. 0 ≤ max) = omega arith in
    (le, subst (λ (o : Option ℕ). IfSome o (λ max. 0 ≤ max)) (sym is) zero_le)

-- no least and no greatest count
pub uncounted : (r : DRule) (n : ℕ) → nat_eq r.min 0 && not (is_some r.max) ≡ true → InBounds r n
uncounted r n h =
    let parts = and_parts (nat_eq r.min 0) (not (is_some r.max)) h in
    let least : r.min ≡ 0 = eqb-true r.min 0 parts.0 in
    (omega (arith, least), any r.max (not-true (is_some r.max) parts.1))
  where
    any : (o : Option ℕ) → is_some o ≡ false → IfSome o (λ max. n ≤ max)
    any None e = tt
    any (Some m) e = absurd (let f : true ≡ false = e in cc)

pub nil_of : {X : Type 0} (xs : List X) → length xs ≡ 0 → xs ≡ []
nil_of [] e = refl
nil_of (x ∷ xs) e = absurd (omega (arith, e))

-- ---- the runs

pub runs_firsts : (rules : List DRule) (keys rest : List Key) → AreSound rules → Runs (filter is_fixed rules) keys rest → Runs (filter is_first rules) keys rest
runs_firsts [] keys rest s h = h
runs_firsts (r ∷ rules) keys rest s h = by (is_some r.key) (is_fixed r) (lets_in r) (s.keyed r (inl refl)) refl refl (λ ks more. runs_firsts rules ks rest (sound_tail r rules s) more) h
  where
    by : (a b c : Bool) → (is_fixed r ≡ true → a ≡ true) → is_fixed r ≡ b → lets_in r ≡ c → ((ks : List Key) → Runs (filter is_fixed rules) ks rest → Runs (filter is_first rules) ks rest)
        → Runs (cond b (r ∷ filter is_fixed rules) (filter is_fixed rules)) keys rest → Runs (cond (a && (b && c)) (r ∷ filter is_first rules) (filter is_first rules)) keys rest
    by true false c ea eb ec ih h = ih keys h
    by false false c ea eb ec ih h = ih keys h
    by false true c ea eb ec ih h = absurd (let e : false ≡ true = ea eb in cc)
    by true true true ea eb ec ih (run, after, parts, all, bounds, more) = (run, after, parts, all, bounds, ih after more)
    by true true false ea eb ec ih (run, after, parts, all, bounds, more) =
        let none = nil_of run (zero_from r (length run) ec bounds) in
        let same : keys ≡ after = parts ∙ ap (λ (xs : List Key). xs ++ after) none in
        subst (λ (ks : List Key). Runs (filter is_first rules) ks rest) (sym same) (ih after more)

pub runs_fixed : (rules : List DRule) (keys rest : List Key) → AreSound rules → Runs (filter is_first rules) keys rest → Runs (filter is_fixed rules) keys rest
runs_fixed [] keys rest s h = h
runs_fixed (r ∷ rules) keys rest s h = by (is_some r.key) (is_fixed r) (lets_in r) (s.keyed r (inl refl)) refl refl (λ ks more. runs_fixed rules ks rest (sound_tail r rules s) more) h
  where
    by : (a b c : Bool) → (is_fixed r ≡ true → a ≡ true) → is_fixed r ≡ b → lets_in r ≡ c → ((ks : List Key) → Runs (filter is_first rules) ks rest → Runs (filter is_fixed rules) ks rest)
        → Runs (cond (a && (b && c)) (r ∷ filter is_first rules) (filter is_first rules)) keys rest → Runs (cond b (r ∷ filter is_fixed rules) (filter is_fixed rules)) keys rest
    by true false c ea eb ec ih h = ih keys h
    by false false c ea eb ec ih h = ih keys h
    by false true c ea eb ec ih h = absurd (let e : false ≡ true = ea eb in cc)
    by true true true ea eb ec ih (run, after, parts, all, bounds, more) = (run, after, parts, all, bounds, ih after more)
    by true true false ea eb ec ih h = ([], keys, refl, tt, zero_to r ec (s.bounds r (inl refl)), ih keys h)

-- ---- members of the parts

pub cases : (b : Bool) → (b ≡ true) ⊎ (b ≡ false)
cases true = inl refl
cases false = inr refl

pub differ : (b : Bool) → b ≡ true → b ≡ false → ⊥
differ b holds fails = absurd (let e : true ≡ false = sym holds ∙ fails in cc)

pub find_in : {X : Type 0} (p : X → Bool) (xs : List X) (x : X) → find p xs ≡ Some x → IsIn x xs × (p x ≡ true)
find_in p [] x e = absurd (none-some x e)
find_in {X} p (y ∷ xs) x e = by (p y) refl (find_in p xs x) e
  where
    by : (b : Bool) → p y ≡ b → (find p xs ≡ Some x → IsIn x xs × (p x ≡ true)) → cond b (Some y) (find p xs) ≡ Some x → IsIn x (y ∷ xs) × (p x ≡ true)
    by true is ih e = let same = same_Some y x e in (inl (sym same), ap p (sym same) ∙ is)
    by false is ih e = let r = ih e in (inr r.0, r.1)

pub find_none : {X : Type 0} (p : X → Bool) (xs : List X) → find p xs ≡ None → (x : X) → IsIn x xs → p x ≡ false
find_none p [] e x i = absurd i
find_none {X} p (y ∷ xs) e x i = by (p y) refl (find_none p xs) e i
  where
    by : (b : Bool) → p y ≡ b → (find p xs ≡ None → (z : X) → IsIn z xs → p z ≡ false) → cond b (Some y) (find p xs) ≡ None → IsIn x (y ∷ xs) → p x ≡ false
    by true is ih e i = absurd (none-some y (sym e))
    by false is ih e (inl same) = ap p same ∙ is
    by false is ih e (inr j) = ih e x j

pub kept : (o : Option DRule) (w : DRule) → option_and_then (λ x. if lets_in x then Some x else None) o ≡ Some w → (o ≡ Some w) × (lets_in w ≡ true)
kept None w e = absurd (none-some w e)
kept (Some x) w e = by (lets_in x) refl e
  where
    by : (b : Bool) → lets_in x ≡ b → cond b (Some x) None ≡ Some w → (Some x ≡ Some w) × (lets_in w ≡ true)
    by true is e = (e, ap lets_in (sym (same_Some x w e)) ∙ is)
    by false is e = absurd (none-some w e)

pub dropped : (o : Option DRule) → option_and_then (λ x. if lets_in x then Some x else None) o ≡ None → (w : DRule) → o ≡ Some w → lets_in w ≡ false
dropped None e w at = absurd (none-some w at)
dropped (Some x) e w at = by (lets_in x) refl e
  where
    by : (b : Bool) → lets_in x ≡ b → cond b (Some x) None ≡ None → lets_in w ≡ false
    by true is e = absurd (none-some x (sym e))
    by false is e = ap lets_in (sym (same_Some x w at)) ∙ is

pub no_key : (r : DRule) → is_wildcard r ≡ true → r.key ≡ None
no_key r h = by r.key (not-true (is_some r.key) h)
  where
    by : (o : Option Key) → is_some o ≡ false → o ≡ None
    by None e = refl
    by (Some k) e = absurd (let f : true ≡ false = e in cc)

pub some_key : (r : DRule) (key : Key) → r.key ≡ Some key → is_some r.key ≡ true
some_key r key e = ap (λ (o : Option Key). is_some o) e
