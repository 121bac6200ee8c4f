-- Normal parts that the same lists of keys meet have the same first rules, and the same bounds of each key.
use Rattle.std.proofs.Common.{◌≡◌, ℕ, suc, ◌+◌, ◌≤◌, true, false, List, [], ◌∷◌, ◌++◌, replicate, Option, Some, None, refl, sym, ap, subst, ◌∙◌, arith, inl, inr, append_assoc}
use Rattle.std.specs.Prelude.{◌⊎◌, ◌&&◌, is_some, IfSome, IsSome}
use Rattle.std.specs.Option.{option_map_or}
use Rattle.std.specs.List.{AllByRecursion}
use Rattle.std.proofs.lemmas.Bool.{and_parts}
use Rattle.dia_terms.specs.declared.RuleKind.{RuleKind}
use Rattle.dia_terms.specs.declared.RuleKind.TheVariants.{Fixed, Required, Optional}
use Rattle.dia_wire.specs.declared.Key.{Key}
use Rattle.dia_book.specs.declared.DRule.{DRule}
use Rattle.dia_book.specs.Dictionary.{is_fixed}
use Rattle.dia_valid.specs.Valid.{InBounds, Runs, is_listed}
use Rattle.dia_valid.proofs.LongestRuns.{AreDistinct}
use Rattle.dia_valid.proofs.Members.{IsIn, in_append, in_left, in_right, some_of}
use Rattle.dia_valid.proofs.RulesOfKeys.{listed}
use Rattle.dia_lint.specs.Guidelines.{lets_in}
use Rattle.dia_lint.specs.LevelParts.{Meets, Parts, bounds, is_first}
use Rattle.dia_lint.proofs.SoundRules.{cases, differ}
use Rattle.dia_lint.proofs.SamePartsSpelled.{all_own, fresh, in_replicate, in_spelled, into_own, into_spelled, new_key, not_listed, own, replicate_in, spelled, spelled_append}
use Rattle.dia_lint.proofs.SamePartsMet.{AreParts, IsNormal, any_not_first, bounded, cons_head, cons_tail, distinct_left, none_after, one_rule, parted_at, rest_in, rules_of, runs_front, swapped}
use Rattle.dia_lint.proofs.SamePartsMade.{allowed, made, unlisted_left, unlisted_right, usual, usual_allowed, usual_in, usual_others, usual_some, with_key, with_own, word, word_times}

-- ---- bounds that allow the same counts

same_max : (least : ℕ) (o u : Option ℕ) → IfSome o (λ max. least ≤ max) → IfSome u (λ max. least ≤ max) → ((m : ℕ) → least ≤ m → IfSome o (λ max. m ≤ max) → IfSome u (λ max. m ≤ max))
    → ((m : ℕ) → least ≤ m → IfSome u (λ max. m ≤ max) → IfSome o (λ max. m ≤ max)) → o ≡ u
same_max least None None h k to back = refl
same_max least None (Some b) h k to back = absurd (let le : suc (least + b) ≤ b = to (suc (least + b)) (omega arith) tt in omega (arith, le))
same_max least (Some a) None h k to back = absurd (let le : suc (least + a) ≤ a = back (suc (least + a)) (omega arith) tt in omega (arith, le))
same_max least (Some a) (Some b) h k to back =
    let up : a ≤ b = to a h (omega arith) in
    let down : b ≤ a = back b k (omega arith) in
    let same : a ≡ b = omega (arith, up, down) in
    ap (λ (m : ℕ). Some m) same

pub same_bounds : (r s : DRule) → IfSome r.max (λ max. r.min ≤ max) → IfSome s.max (λ max. s.min ≤ max) → ((m : ℕ) → InBounds r m → InBounds s m) → ((m : ℕ) → InBounds s m → InBounds r m) → bounds r ≡ bounds s
same_bounds r s h k to back = λ i. (least i, most i)
  where
    least : r.min ≡ s.min
    least =
        let up = to r.min (omega arith, h) in
        let down = back s.min (omega arith, k) in
        omega (arith, up.0, down.0)

    most : r.max ≡ s.max
    most = same_max r.min r.max s.max h (subst (λ (m : ℕ). IfSome s.max (λ max. m ≤ max)) (sym least) k)
        (λ m le within. (to m (le, within)).1)
        (λ m le within. (back m (subst (λ (n : ℕ). n ≤ m) least le, within)).1)

pub fixed_kind : (r : DRule) → is_fixed r ≡ true → r.kind ≡ Fixed
fixed_kind r = by r.kind
  where
    by : (k : RuleKind) → (elim k [ Fixed ↦ true | Required ↦ false | Optional ↦ false ]) ≡ true → k ≡ Fixed
    by Fixed h = refl
    by Required h = absurd (differ false h refl)
    by Optional h = absurd (differ false h refl)

pub first_has : (r : DRule) → is_first r ≡ true → (is_fixed r ≡ true) × (lets_in r ≡ true)
first_has r h =
    let parts = and_parts (is_some r.key) (is_fixed r && lets_in r) h in
    and_parts (is_fixed r) (lets_in r) parts.1

same_first : (r s : DRule) → is_first r ≡ true → is_first s ≡ true → r.key ≡ s.key → bounds r ≡ bounds s → r ≡ s
same_first r s hr hs key same =
    let kind = fixed_kind r (first_has r hr).0 ∙ sym (fixed_kind s (first_has s hs).0) in
    let least : r.min ≡ s.min = ap (λ (b : ℕ × Option ℕ). b.0) same in
    let most : r.max ≡ s.max = ap (λ (b : ℕ × Option ℕ). b.1) same in
    λ i. record { kind = kind i; key = key i; min = least i; max = most i }

-- ---- the order of runs

-- what follows two runs of one key
one_rest : (o : Option Key) (xs ys others more : List Key) → AllByRecursion (λ key. o ≡ Some key) xs → AllByRecursion (λ key. o ≡ Some key) others
    → ((k : Key) → o ≡ Some k → IsIn k ys → ⊥) → ((k : Key) → o ≡ Some k → IsIn k more → ⊥) → xs ++ ys ≡ others ++ more → ys ≡ more
one_rest o [] ys [] more a b none new e = e
one_rest o [] ys (x ∷ others) more a b none new e = absurd (none x b.0 (subst (IsIn x) (sym e) (inl refl)))
one_rest o (x ∷ xs) ys [] more a b none new e = absurd (new x a.0 (subst (IsIn x) e (inl refl)))
one_rest o (x ∷ xs) ys (y ∷ others) more a b none new e = one_rest o xs ys others more a.1 b.1 none new (cons_tail x y (xs ++ ys) (others ++ more) e)

-- a key of runs is of their rules, or of what follows them
none_in_runs : (rs : List DRule) (keys rest : List Key) (k : Key) → Runs rs keys rest → ((t : DRule) → IsIn t rs → t.key ≡ Some k → ⊥) → (IsIn k rest → ⊥) → IsIn k keys → ⊥
none_in_runs rs keys rest k runs none new i =
    let (front, e, own_keys, again) = runs_front rs keys rest runs in
    by front own_keys (in_append front rest k (subst (IsIn k) e i))
  where
    by : (front : List Key) → ((q : Key) → IsIn q front → is_listed rs q ≡ true) → IsIn k front ⊎ IsIn k rest → ⊥
    by front own_keys (inl j) = let (t, it, et) = listed rs k (own_keys k j) in none t it et
    by front own_keys (inr j) = new j

-- the keys of these rules are spelled, and the runs of those are there: they are the same rules in the same order
same_order : (c : DRule → ℕ) (rs ts : List DRule) (rest more : List Key) → Runs ts (spelled c rs ++ rest) more → AreDistinct rs → AreDistinct ts
    → ((r : DRule) → IsIn r rs → IsIn r ts) → ((r : DRule) → IsIn r ts → IsIn r rs) → ((r : DRule) → IsIn r rs → IsSome r.key × (1 ≤ c r))
    → ((r : DRule) (k : Key) → IsIn r rs → r.key ≡ Some k → IsIn k rest → ⊥) → ((r : DRule) (k : Key) → IsIn r rs → r.key ≡ Some k → IsIn k more → ⊥) → rs ≡ ts
same_order c [] [] rest more runs dr dt to from some none new = refl
same_order c [] (t ∷ ts) rest more runs dr dt to from some none new = absurd (from t (inl refl))
same_order c (r ∷ rs) [] rest more runs dr dt to from some none new = absurd (to r (inl refl))
same_order c (r ∷ rs) (t ∷ ts) rest more (run, after, parts, all, within, next) dr dt to from some none new =
    let (k, e) = some_of r.key (some r (inl refl)).0 in
    let (l, f) = some_of t.key (some t (from t (inl refl))).0 in
    let same = first_same k e l f run parts all in
    let all_too = subst (λ (x : DRule). AllByRecursion (λ key. x.key ≡ Some key) run) (sym same) all in
    let one = one_rest r.key (own c r) (spelled c rs ++ rest) run after (all_own c r) all_too not_following (not_after same) (whole ∙ parts) in
    let runs = subst (λ (ks : List Key). Runs ts ks more) (sym one) next in
    let to_too = λ (x : DRule) (i : IsIn x rs). not_first_of_those k e same x i (to x (inr i)) in
    let from_too = λ (x : DRule) (i : IsIn x ts). not_first_of_these k e same x i (from x (inr i)) in
    let ih = same_order c rs ts rest more runs dr.1 dt.1 to_too from_too (λ x i. some x (inr i)) (λ x q i. none x q (inr i)) (λ x q i. new x q (inr i)) in
    λ i. same i ∷ ih i
  where
    whole : own c r ++ (spelled c rs ++ rest) ≡ (own c r ++ spelled c rs) ++ rest
    whole = sym (append_assoc (own c r) (spelled c rs) rest)

    not_following : (q : Key) → r.key ≡ Some q → IsIn q (spelled c rs ++ rest) → ⊥
    not_following q e i = by (in_append (spelled c rs) rest q i)
      where
        by : IsIn q (spelled c rs) ⊎ IsIn q rest → ⊥
        by (inl j) = let (x, ix, ex) = in_spelled c rs q j in new_key r rs x q dr ix e ex
        by (inr j) = none r q (inl refl) e j

    not_after : r ≡ t → (q : Key) → r.key ≡ Some q → IsIn q after → ⊥
    not_after same q e = none_in_runs ts after more q next (λ x ix ex. new_key t ts x q dt ix (ap (λ (s : DRule). s.key) (sym same) ∙ e) ex) (new r q (inl refl) e)

    begins : (k l : Key) (ks run : List Key) → r.key ≡ Some k → own c r ++ ks ≡ l ∷ run → IsIn k (own c r) → r.key ≡ Some l
    begins k l ks run e is i = by (own c r) (all_own c r) is i
      where
        by : (xs : List Key) → AllByRecursion (λ key. r.key ≡ Some key) xs → xs ++ ks ≡ l ∷ run → IsIn k xs → r.key ≡ Some l
        by [] a is i = absurd i
        by (x ∷ xs) a is i = a.0 ∙ ap (λ (q : Key). Some q) (cons_head x l (xs ++ ks) run is)

    first_same : (k : Key) → r.key ≡ Some k → (l : Key) → t.key ≡ Some l → (run : List Key) → (own c r ++ spelled c rs) ++ rest ≡ run ++ after
        → AllByRecursion (λ key. t.key ≡ Some key) run → r ≡ t
    first_same k e l f [] parts all =
        let there = in_left (own c r ++ spelled c rs) rest l (into_spelled c (r ∷ rs) t l (from t (inl refl)) f (some t (from t (inl refl))).1) in
        absurd (none_in_runs ts after more l next (λ x ix ex. new_key t ts x l dt ix f ex) (new t l (from t (inl refl)) f) (subst (IsIn l) parts there))
    first_same k e l f (x ∷ run) parts all =
        let key = begins k x (spelled c rs ++ rest) (run ++ after) e (whole ∙ parts) (into_own c r k e (some r (inl refl)).1) in
        one_rule (r ∷ rs) r t x dr (inl refl) (from t (inl refl)) key all.0

    not_first_of_those : (k : Key) → r.key ≡ Some k → r ≡ t → (x : DRule) → IsIn x rs → IsIn x (t ∷ ts) → IsIn x ts
    not_first_of_those k e same x i (inr j) = j
    not_first_of_those k e same x i (inl is) = absurd (new_key r rs x k dr i e (ap (λ (s : DRule). s.key) (is ∙ sym same) ∙ e))

    not_first_of_these : (k : Key) → r.key ≡ Some k → r ≡ t → (x : DRule) → IsIn x ts → IsIn x (r ∷ rs) → IsIn x rs
    not_first_of_these k e same x i (inr j) = j
    not_first_of_these k e same x i (inl is) = absurd (new_key t ts x k dt i (ap (λ (s : DRule). s.key) (sym same) ∙ e) (ap (λ (s : DRule). s.key) is ∙ e))

-- ---- parts that the same lists meet

-- normal parts that the same lists of keys meet
pub record AreMetAlike (p q : Parts) : Type 0 where
  pub own : IsNormal p
  pub other : IsNormal q
  pub to : (keys : List Key) → Meets p keys → Meets q keys
  pub back : (keys : List Key) → Meets q keys → Meets p keys

pub flipped : (p q : Parts) → AreMetAlike p q → AreMetAlike q p
flipped p q h = record { own = h.other; other = h.own; to = h.back; back = h.to }

-- a key that neither lists
pub new_of : (p q : Parts) → (z : Key) × (is_listed (rules_of p) z ≡ false) × (is_listed (rules_of q) z ≡ false)
new_of p q =
    let (z, new) = fresh (rules_of p ++ rules_of q) in
    (z, unlisted_left (rules_of p) (rules_of q) z new, unlisted_right (rules_of p) (rules_of q) z new)

-- as many as usual of each rule's key, and of another
abbrev pub usual_word : Parts → Key → List Key
usual_word p z = word p usual (usual_others p) z

pub usual_made : (p : Parts) → AreParts p → (z : Key) → is_listed (rules_of p) z ≡ false → Meets p (usual_word p z)
usual_made p n z new = made p n usual (usual_others p) z new (λ r i. usual_in r (n.bounds r i)) (usual_allowed p n)

-- the keys of such a list after those of the first rules
abbrev following : Parts → Key → List Key
following p z = spelled usual p.anys ++ replicate (usual_others p) z

usual_parts : (p : Parts) (z : Key) → usual_word p z ≡ spelled usual p.firsts ++ following p z
usual_parts p z = ap (λ (l : List Key). l ++ replicate (usual_others p) z) (spelled_append usual p.firsts p.anys)
    ∙ append_assoc (spelled usual p.firsts) (spelled usual p.anys) (replicate (usual_others p) z)

-- there is one, where there is a first rule
later_key : (p : Parts) (n : IsNormal p) (z : Key) → is_listed (rules_of p) z ≡ false → (r : DRule) → IsIn r p.firsts
    → (y : Key) × IsIn y (following p z) × (is_listed p.firsts y ≡ false)
later_key p n z new r i = by p.others refl
  where
    by : (o : Option DRule) → p.others ≡ o → (y : Key) × IsIn y (spelled usual p.anys ++ replicate (option_map_or usual o 0) z) × (is_listed p.firsts y ≡ false)
    by (Some w) of = (
      z,
      in_right (spelled usual p.anys) (replicate (usual w) z) z (replicate_in (usual w) z (usual_some w (n.parts.wild_lets w of))),
      unlisted_left p.firsts p.anys z new,
    )
    by None none =
        let (t, it) = n.followed r i none in
        let (y, e) = some_of t.key (n.parts.keyed t (in_right p.firsts p.anys t it)) in
        (y, in_left (spelled usual p.anys) [] y (into_spelled usual p.anys t y it e (usual_some t (n.parts.lets none t it))), any_not_first p n.parts t y it e)

-- and none has the key of a first rule
not_following : (p : Parts) (n : IsNormal p) (z : Key) → is_listed (rules_of p) z ≡ false → (r : DRule) (k : Key) → IsIn r p.firsts → r.key ≡ Some k → IsIn k (following p z) → ⊥
not_following p n z new r k i e ik = by (in_append (spelled usual p.anys) (replicate (usual_others p) z) k ik)
  where
    by : IsIn k (spelled usual p.anys) ⊎ IsIn k (replicate (usual_others p) z) → ⊥
    by (inl j) = let (t, it, et) = in_spelled usual p.anys k j in not_listed p.firsts k r (any_not_first p n.parts t k it et) i e
    by (inr j) = not_listed (rules_of p) z r new (in_left p.firsts p.anys r i) (e ∙ ap (λ (x : Key). Some x) (in_replicate (usual_others p) z k j))

-- what p allows of a key q allows
bounds_too : (p q : Parts) → AreMetAlike p q → (r s : DRule) (k : Key) → IsIn r (rules_of p) → IsIn s (rules_of q) → r.key ≡ Some k → s.key ≡ Some k
    → (m : ℕ) → InBounds r m → InBounds s m
bounds_too p q h r s k i j e f m within =
    let n = h.own.parts in
    let (z, new, other) = new_of p q in
    let list = word p (with_key k m) (usual_others p) z in
    let own_list = made p n (with_key k m) (usual_others p) z new (allowed p n k m r i e within) (usual_allowed p n) in
    subst (InBounds s) (word_times p n (with_key k m) (usual_others p) z new r k i e ∙ with_own k m r e) (bounded q h.other.parts list (h.to list own_list) s k j f)

pub rule_bounds : (p q : Parts) → AreMetAlike p q → (r s : DRule) (k : Key) → IsIn r (rules_of p) → IsIn s (rules_of q) → r.key ≡ Some k → s.key ≡ Some k → bounds r ≡ bounds s
rule_bounds p q h r s k i j e f = same_bounds r s (h.own.parts.bounds r i) (h.other.parts.bounds s j)
    (bounds_too p q h r s k i j e f) (bounds_too q p (flipped p q h) s r k j i f e)

-- a key that comes first by p does so by q: else it could change places with one that doesn't come first
first_too : (p q : Parts) → AreMetAlike p q → (r : DRule) (k : Key) → IsIn r p.firsts → r.key ≡ Some k → is_listed q.firsts k ≡ true
first_too p q h r k i e = by (cases (is_listed q.firsts k))
  where
    parted : (z y : Key) (u t v s : List Key) → spelled usual p.firsts ≡ u ++ k ∷ t → following p z ≡ v ++ y ∷ s → usual_word p z ≡ u ++ k ∷ ((t ++ v) ++ y ∷ s)
    parted z y u t v s here there = usual_parts p z
        ∙ ap (λ (l : List Key). l ++ following p z) here
        ∙ ap (λ (l : List Key). (u ++ k ∷ t) ++ l) there
        ∙ append_assoc u (k ∷ t) (v ++ y ∷ s)
        ∙ ap (λ (l : List Key). u ++ k ∷ l) (sym (append_assoc t v (y ∷ s)))

    no_other : is_listed q.firsts k ≡ false → ⊥
    no_other fails =
        let n = h.own.parts in
        let (z, new, other) = new_of p q in
        let (y, iy, fy) = later_key p h.own z new r i in
        let (u, t, here) = parted_at (spelled usual p.firsts) k (into_spelled usual p.firsts r k i e (usual_some r (first_has r (n.firsts r i)).1)) in
        let (v, s, there) = parted_at (following p z) y iy in
        let met = h.to (u ++ k ∷ ((t ++ v) ++ y ∷ s)) (subst (Meets p) (parted z y u t v s here there) (usual_made p n z new)) in
        let back = h.back (u ++ y ∷ ((t ++ v) ++ k ∷ s)) (swapped q h.other.parts u k (t ++ v) y s met fails) in
        not_listed p.firsts k r (none_after p n u y ((t ++ v) ++ k ∷ s) back fy k (in_right (t ++ v) (k ∷ s) k (inl refl))) i e

    by : (is_listed q.firsts k ≡ true) ⊎ (is_listed q.firsts k ≡ false) → is_listed q.firsts k ≡ true
    by (inl holds) = holds
    by (inr fails) = absurd (no_other fails)

first_in : (p q : Parts) → AreMetAlike p q → (r : DRule) → IsIn r p.firsts → IsIn r q.firsts
first_in p q h r i =
    let there = in_left p.firsts p.anys r i in
    let (k, e) = some_of r.key (h.own.parts.keyed r there) in
    let (s, is, f) = listed q.firsts k (first_too p q h r k i e) in
    let same = same_first r s (h.own.parts.firsts r i) (h.other.parts.firsts s is) (e ∙ sym f) (rule_bounds p q h r s k there (in_left q.firsts q.anys s is) e f) in
    subst (λ (x : DRule). IsIn x q.firsts) (sym same) is

pub same_firsts : (p q : Parts) → AreMetAlike p q → p.firsts ≡ q.firsts
same_firsts p q h =
    let n = h.own.parts in
    let (z, new, other) = new_of p q in
    let list = spelled usual p.firsts ++ following p z in
    let met = h.to list (subst (Meets p) (usual_parts p z) (usual_made p n z new)) in
    same_order usual p.firsts q.firsts (following p z) met.rest met.runs (distinct_left p.firsts p.anys n.distinct) (distinct_left q.firsts q.anys h.other.parts.distinct)
    (first_in p q h)
    (first_in q p (flipped p q h))
    (λ r i. (n.keyed r (in_left p.firsts p.anys r i), usual_some r (first_has r (n.firsts r i)).1))
    (λ r k i e ik. not_following p h.own z new r k i e ik)
    (λ r k i e ik. not_listed q.firsts k r (rest_in q h.other.parts list met k ik) (first_in p q h r i) e)
