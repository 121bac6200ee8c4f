-- Lists of keys that normal parts are met by: how many of each key, what comes first, and which keys may change places.
use Rattle.std.proofs.Common.{◌≡◌, ℕ, ◌+◌, ◌≤◌, Bool, true, false, cond, List, [], ◌∷◌, ◌++◌, Option, Some, None, refl, sym, ap, subst, ◌∙◌, arith, inl, inr, append_assoc}
use Rattle.std.specs.Prelude.{◌⊎◌, not, ◌||◌, count_by, is_some, IfSome, IsSome}
use Rattle.std.specs.Option.{option_map_or}
use Rattle.std.specs.List.{AllByRecursion}
use Rattle.std.proofs.lemmas.Bool.{false_from_ne_true}
use Rattle.dia_wire.specs.declared.Key.{Key}
use Rattle.dia_book.specs.declared.DRule.{DRule}
use Rattle.dia_book.specs.Dictionary.{lists_key}
use Rattle.dia_book.specs.Keys.{same_key}
use Rattle.dia_book.proofs.SameKeys.{same_key-refl, same_key-true}
use Rattle.dia_valid.specs.Valid.{InBounds, Runs, is_listed}
use Rattle.dia_valid.proofs.LongestRuns.{AreDistinct}
use Rattle.dia_valid.proofs.Members.{IsIn, all_in, at_some, count_append, count_cons, count_none, in_all, in_append, in_left, in_right, none_or_some, when_some}
use Rattle.dia_valid.proofs.RulesOfKeys.{is_listed_by, listed, runs_none, runs_some, times}
use Rattle.dia_lint.specs.Guidelines.{lets_in}
use Rattle.dia_lint.specs.LevelParts.{MayFollow, Meets, Parts, is_first, is_other}
use Rattle.dia_lint.proofs.SoundRules.{differ}
use Rattle.dia_lint.proofs.SamePartsSpelled.{listed_append, new_key, not_listed}

abbrev pub rules_of : Parts → List DRule
rules_of p = p.firsts ++ p.anys

-- neither counts: no least and no greatest count
abbrev pub AreUncounted : DRule → DRule → Type 0
AreUncounted r w = (r.min ≡ 0) × (r.max ≡ None) × (w.min ≡ 0) × (w.max ≡ None)

-- what the parts of a definition's rules have
pub record AreParts (p : Parts) : Type 0 where
  pub distinct : AreDistinct (rules_of p)
  pub keyed : (r : DRule) → IsIn r (rules_of p) → is_some r.key ≡ true
  pub bounds : (r : DRule) → IsIn r (rules_of p) → IfSome r.max (λ max. r.min ≤ max)
  pub firsts : (r : DRule) → IsIn r p.firsts → is_first r ≡ true
  pub lets : p.others ≡ None → (r : DRule) → IsIn r p.anys → lets_in r ≡ true
  pub wild_lets : (w : DRule) → p.others ≡ Some w → lets_in w ≡ true
  pub wild_bounds : (w : DRule) → p.others ≡ Some w → IfSome w.max (λ max. w.min ≤ max)
  pub counts : (w : DRule) → p.others ≡ Some w → (r : DRule) → IsIn r p.anys → AreUncounted r w → ⊥

-- where others may follow the first AVPs, too
pub record IsNormal (p : Parts) : Type 0 where
  pub parts : AreParts p
  pub followed : (r : DRule) → IsIn r p.firsts → p.others ≡ None → (t : DRule) × IsIn t p.anys

-- ---- distinct rules

pub distinct_left : (xs ys : List DRule) → AreDistinct (xs ++ ys) → AreDistinct xs
distinct_left [] ys d = tt
distinct_left (x ∷ xs) ys d = (
  all_in (λ (t : DRule). (key : Key) → x.key ≡ Some key → t.key ≡ Some key → ⊥) xs (λ t i key e f. new_key x (xs ++ ys) t key d (in_left xs ys t i) e f),
  distinct_left xs ys d.1,
)

distinct_apart : (xs ys : List DRule) (a b : DRule) (k : Key) → AreDistinct (xs ++ ys) → IsIn a xs → IsIn b ys → a.key ≡ Some k → b.key ≡ Some k → ⊥
distinct_apart [] ys a b k d i j ea eb = i
distinct_apart (x ∷ xs) ys a b k d (inl same) j ea eb = new_key x (xs ++ ys) b k d (in_right xs ys b j) (ap (λ (r : DRule). r.key) (sym same) ∙ ea) eb
distinct_apart (x ∷ xs) ys a b k d (inr i) j ea eb = distinct_apart xs ys a b k d.1 i j ea eb

pub one_rule : (rs : List DRule) (a b : DRule) (k : Key) → AreDistinct rs → IsIn a rs → IsIn b rs → a.key ≡ Some k → b.key ≡ Some k → a ≡ b
one_rule [] a b k d i j ea eb = absurd i
one_rule (x ∷ xs) a b k d (inl i) (inl j) ea eb = i ∙ sym j
one_rule (x ∷ xs) a b k d (inl i) (inr j) ea eb = absurd (new_key x xs b k d j (ap (λ (r : DRule). r.key) (sym i) ∙ ea) eb)
one_rule (x ∷ xs) a b k d (inr i) (inl j) ea eb = absurd (new_key x xs a k d i (ap (λ (r : DRule). r.key) (sym j) ∙ eb) ea)
one_rule (x ∷ xs) a b k d (inr i) (inr j) ea eb = one_rule xs a b k d.1 i j ea eb

-- ---- lists

pub cons_head : (x y : Key) (xs ys : List Key) → x ∷ xs ≡ y ∷ ys → x ≡ y
cons_head x y xs ys e = cc

pub cons_tail : (x y : Key) (xs ys : List Key) → x ∷ xs ≡ y ∷ ys → xs ≡ ys
cons_tail x y xs ys e = cc

-- what comes before a key that isn't in a front is more than the front
beyond : (front rest u : List Key) (x : Key) (t : List Key) → front ++ rest ≡ u ++ x ∷ t → (IsIn x front → ⊥) → (v : List Key) × (u ≡ front ++ v) × (rest ≡ v ++ x ∷ t)
beyond [] rest u x t e new = (u, refl, e)
beyond (y ∷ front) rest [] x t e new = absurd (new (inl (sym (cons_head y x (front ++ rest) t e))))
beyond (y ∷ front) rest (z ∷ u) x t e new =
    let (v, before, after) = beyond front rest u x t (cons_tail y z (front ++ rest) (u ++ x ∷ t) e) (λ i. new (inr i)) in
    (v, ap (λ (h : Key). h ∷ u) (sym (cons_head y z (front ++ rest) (u ++ x ∷ t) e)) ∙ ap (λ (l : List Key). y ∷ l) before, after)

pub parted_at : (xs : List Key) (x : Key) → IsIn x xs → (u : List Key) × (t : List Key) × (xs ≡ u ++ x ∷ t)
parted_at [] x i = absurd i
parted_at (y ∷ xs) x (inl e) = ([], xs, ap (λ (h : Key). h ∷ xs) (sym e))
parted_at (y ∷ xs) x (inr i) = let (u, t, e) = parted_at xs x i in (y ∷ u, t, ap (λ (l : List Key). y ∷ l) e)

abbrev pub one_if : Bool → ℕ
one_if b = cond b 1 0

pub count_at : (f : Key → Bool) (u : List Key) (x : Key) (t : List Key) → count_by f (u ++ x ∷ t) ≡ one_if (f x) + (count_by f u + count_by f t)
count_at f u x t = omega (arith, count_append f u (x ∷ t), count_cons f x t)

count_swap : (f : Key → Bool) (u : List Key) (x : Key) (t : List Key) (y : Key) (e : List Key) → count_by f (u ++ x ∷ (t ++ y ∷ e)) ≡ count_by f (u ++ y ∷ (t ++ x ∷ e))
count_swap f u x t y e = omega (arith, count_at f u x (t ++ y ∷ e), count_at f u y (t ++ x ∷ e), count_at f t y e, count_at f t x e)

counted_in : (key : Key) (xs : List Key) → 1 ≤ times key xs → IsIn key xs
counted_in key xs h = by (none_or_some (λ (q : Key). same_key q key) xs)
  where
    by : ((x : Key) → IsIn x xs → same_key x key ≡ false) ⊎ ((x : Key) × IsIn x xs × (same_key x key ≡ true)) → IsIn key xs
    by (inl none) = let zero_is = count_none (λ (q : Key). same_key q key) xs none in absurd (omega (arith, zero_is, h))
    by (inr (x, i, e)) = subst (λ (q : Key). IsIn q xs) (same_key-true x key e) i

in_times : (key : Key) (xs : List Key) → IsIn key xs → 1 ≤ times key xs
in_times key xs i =
    let (u, t, e) = parted_at xs key i in
    let one = ap one_if (same_key-refl key) in
    let whole = ap (times key) e in
    omega (arith, whole, count_at (λ (q : Key). same_key q key) u key t, one)

-- a rule counts its key
pub count_of : (s : DRule) (k : Key) (keys : List Key) → s.key ≡ Some k → count_by (λ key. lists_key key s) keys ≡ times k keys
count_of s k keys e = ap (λ (o : Option Key). count_by (λ key. option_map_or (same_key key) o false) keys) e

-- ---- after the first AVPs

-- what the parts ask of the keys after the first
pub record Follow (p : Parts) (rest : List Key) : Type 0 where
  pub follow : AllByRecursion (MayFollow p) rest
  pub counts : AllByRecursion (λ r. InBounds r (count_by (λ key. lists_key key r) rest)) p.anys
  pub others : IfSome p.others (λ w. InBounds w (count_by (is_other p) rest))

followed_by : (p : Parts) (keys : List Key) (m : Meets p keys) → Follow p m.rest
followed_by p keys m = record { follow = m.follow; counts = m.counts; others = m.others }

-- the front is of the first rules, and others may follow it
pub runs_front : (rs : List DRule) (keys rest : List Key) → Runs rs keys rest
    → (front : List Key) × (keys ≡ front ++ rest) × ((q : Key) → IsIn q front → is_listed rs q ≡ true) × ((more : List Key) → Runs rs (front ++ more) more)
runs_front [] keys rest e = ([], e, λ q i. absurd i, λ more. refl)
runs_front (r ∷ rs) keys rest (run, after, parts, all, within, next) =
    let (front, e, own, again) = runs_front rs after rest next in (
      run ++ front,
      parts ∙ ap (λ (l : List Key). run ++ l) e ∙ sym (append_assoc run front rest),
      λ q i. by front own q (in_append run front q i),
      λ more. (run, front ++ more, append_assoc run front more, all, within, again more),
    )
  where
    by : (front : List Key) → ((q : Key) → IsIn q front → is_listed rs q ≡ true) → (q : Key) → IsIn q run ⊎ IsIn q front → is_listed (r ∷ rs) q ≡ true
    by front own q (inl i) = is_listed_by (r ∷ rs) q r (inl refl) (in_all (λ (key : Key). r.key ≡ Some key) q run all i)
    by front own q (inr j) = let (s, is, es) = listed rs q (own q j) in is_listed_by (r ∷ rs) q s (inr is) es

module _ (p : Parts) (n : AreParts p) where
  pub any_not_first : (r : DRule) (k : Key) → IsIn r p.anys → r.key ≡ Some k → is_listed p.firsts k ≡ false
  any_not_first r k i e = false_from_ne_true (is_listed p.firsts k) (λ h.
      let (t, it, et) = listed p.firsts k h in distinct_apart p.firsts p.anys t r k n.distinct it i et e)

  pub other_is : (k : Key) → is_other p k ≡ not (is_listed (rules_of p) k)
  other_is k = ap (λ (b : Bool). not b) (sym (listed_append p.firsts p.anys k))

  rest_not_first : (key : Key) → MayFollow p key → is_listed p.firsts key ≡ false
  rest_not_first key (inr (some, first, any)) = first
  rest_not_first key (inl h) = let (r, i, e) = listed p.anys key h in any_not_first r key i e

  first_not_other : (q : Key) → is_listed p.firsts q ≡ true → is_other p q ≡ false
  first_not_other q h = ap (λ (b : Bool). not (b || is_listed p.anys q)) h

  module _ (keys : List Key) (m : Meets p keys) where
    pub rest_in : (key : Key) → IsIn key m.rest → is_listed p.firsts key ≡ false
    rest_in key i = rest_not_first key (in_all (MayFollow p) key m.rest m.follow i)

    -- each rule bounds how many of its key there are
    pub bounded : (s : DRule) (k : Key) → IsIn s (rules_of p) → s.key ≡ Some k → InBounds s (times k keys)
    bounded s k i e = by (in_append p.firsts p.anys s i)
      where
        by : IsIn s p.firsts ⊎ IsIn s p.anys → InBounds s (times k keys)
        by (inl first) =
            let (often, count, within) = runs_some p.firsts keys m.rest k s m.runs (distinct_left p.firsts p.anys n.distinct) first e in
            let none = count_none (λ (q : Key). same_key q k) m.rest (λ q iq. false_from_ne_true (same_key q k) (λ h.
            not_listed p.firsts k s (subst (λ (x : Key). is_listed p.firsts x ≡ false) (same_key-true q k h) (rest_in q iq)) first e)) in
            let same : often ≡ times k keys = omega (arith, count, none) in
            subst (InBounds s) same within
        by (inr any) =
            let none = runs_none p.firsts keys m.rest k m.runs (all_in (λ (t : DRule). t.key ≡ Some k → ⊥) p.firsts (λ t it et. not_listed p.firsts k t (any_not_first s k any e) it et)) in
            subst (InBounds s) (count_of s k m.rest e ∙ sym none) (in_all (λ (r : DRule). InBounds r (count_by (λ key. lists_key key r) m.rest)) s p.anys m.counts any)

    -- and the wildcard how many others
    pub bounded_others : (w : DRule) → p.others ≡ Some w → InBounds w (count_by (is_other p) keys)
    bounded_others w of =
        let (front, e, own, again) = runs_front p.firsts keys m.rest m.runs in
        let none = count_none (is_other p) front (λ q i. first_not_other q (own q i)) in
        let whole = ap (count_by (is_other p)) e in
        let same : count_by (is_other p) m.rest ≡ count_by (is_other p) keys = omega (arith, count_append (is_other p) front m.rest, none, whole) in
        subst (InBounds w) same (at_some (λ (x : DRule). InBounds x (count_by (is_other p) m.rest)) p.others w m.others of)

    -- a key that no rule lists comes by the wildcard
    pub comes_by : (key : Key) → IsIn key keys → is_listed (rules_of p) key ≡ false → IsSome p.others
    comes_by key i fails =
        let (front, e, own, again) = runs_front p.firsts keys m.rest m.runs in
        by front own (in_append front m.rest key (subst (IsIn key) e i))
      where
        follows : MayFollow p key → IsSome p.others
        follows (inr (some, first, any)) = some
        follows (inl h) = let (r, ir, er) = listed p.anys key h in absurd (not_listed (rules_of p) key r fails (in_right p.firsts p.anys r ir) er)

        by : (front : List Key) → ((q : Key) → IsIn q front → is_listed p.firsts q ≡ true) → IsIn key front ⊎ IsIn key m.rest → IsSome p.others
        by front own (inr j) = follows (in_all (MayFollow p) key m.rest m.follow j)
        by front own (inl j) = let (r, ir, er) = listed p.firsts key (own key j) in absurd (not_listed (rules_of p) key r fails (in_left p.firsts p.anys r ir) er)

  -- before a key that doesn't come first there is a front of the first, which other keys may follow
  pub cut_at : (u : List Key) (x : Key) (t : List Key) → Meets p (u ++ x ∷ t) → is_listed p.firsts x ≡ false
      → (front : List Key) × (v : List Key) × (u ≡ front ++ v) × Follow p (v ++ x ∷ t) × ((more : List Key) → Follow p more → Meets p (front ++ more))
  cut_at u x t m fails =
      let (front, e, own, again) = runs_front p.firsts (u ++ x ∷ t) m.rest m.runs in
      let (v, before, after) = beyond front m.rest u x t (sym e) (λ i. differ (is_listed p.firsts x) (own x i) fails) in (
        front,
        v,
        before,
        subst (Follow p) after (followed_by p (u ++ x ∷ t) m),
        λ more f. record { rest = more; runs = again more; follow = f.follow; counts = f.counts; others = f.others },
      )

  -- no key of the first comes after one that isn't
  pub none_after : (u : List Key) (x : Key) (t : List Key) → Meets p (u ++ x ∷ t) → is_listed p.firsts x ≡ false → (key : Key) → IsIn key t → is_listed p.firsts key ≡ false
  none_after u x t m fails key i =
      let (front, v, before, f, again) = cut_at u x t m fails in
      rest_not_first key (in_all (MayFollow p) key (v ++ x ∷ t) f.follow (in_right v (x ∷ t) key (inr i)))

  -- two keys that don't come first may change places
  pub swapped : (u : List Key) (x : Key) (t : List Key) (y : Key) (e : List Key) → Meets p (u ++ x ∷ (t ++ y ∷ e)) → is_listed p.firsts x ≡ false → Meets p (u ++ y ∷ (t ++ x ∷ e))
  swapped u x t y e m fails =
      let (front, v, before, f, again) = cut_at u x (t ++ y ∷ e) m fails in
      let count = λ (g : Key → Bool). count_swap g v x t y e in
      let whole : front ++ (v ++ y ∷ (t ++ x ∷ e)) ≡ u ++ y ∷ (t ++ x ∷ e) = sym (append_assoc front v (y ∷ (t ++ x ∷ e))) ∙ ap (λ (l : List Key). l ++ y ∷ (t ++ x ∷ e)) (sym before) in
      subst (Meets p) whole (again (v ++ y ∷ (t ++ x ∷ e)) (record {
        follow = all_in (MayFollow p) (v ++ y ∷ (t ++ x ∷ e)) (λ key i. in_all (MayFollow p) key (v ++ x ∷ (t ++ y ∷ e)) f.follow
            (counted_in key (v ++ x ∷ (t ++ y ∷ e)) (subst (λ (often : ℕ). 1 ≤ often) (sym (count (λ (q : Key). same_key q key))) (in_times key (v ++ y ∷ (t ++ x ∷ e)) i))));
        counts = all_in (λ (r : DRule). InBounds r (count_by (λ key. lists_key key r) (v ++ y ∷ (t ++ x ∷ e)))) p.anys (λ r i.
            subst (InBounds r) (count (λ (key : Key). lists_key key r)) (in_all (λ (s : DRule). InBounds s (count_by (λ key. lists_key key s) (v ++ x ∷ (t ++ y ∷ e)))) r p.anys f.counts i));
        others = when_some (λ (w : DRule). InBounds w (count_by (is_other p) (v ++ y ∷ (t ++ x ∷ e)))) p.others (λ w of.
            subst (InBounds w) (count (is_other p)) (at_some (λ (s : DRule). InBounds s (count_by (is_other p) (v ++ x ∷ (t ++ y ∷ e)))) p.others w f.others of));
      }))
