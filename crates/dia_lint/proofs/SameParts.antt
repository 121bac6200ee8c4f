-- Normal parts that the same lists of keys meet ask the same.
use Rattle.std.proofs.Common.{◌≡◌, ℕ, zero, suc, ◌+◌, ◌≤◌, Bool, true, false, List, ◌∷◌, ◌++◌, replicate, Option, Some, None, refl, sym, ap, subst, ◌∙◌, arith, inl, inr}
use Rattle.std.specs.Prelude.{◌⊎◌, not, ◌||◌, count_by, IfSome, IsSome}
use Rattle.std.specs.Option.{option_map, option_map_or}
use Rattle.std.proofs.lemmas.Option.{none-some}
use Rattle.dia_wire.specs.declared.Key.{Key}
use Rattle.dia_book.specs.declared.DRule.{DRule}
use Rattle.dia_book.specs.Keys.{same_key}
use Rattle.dia_book.proofs.SameKeys.{same_key-refl}
use Rattle.dia_valid.specs.Valid.{InBounds, is_listed}
use Rattle.dia_valid.proofs.Members.{IsIn, at_some, contains_in, in_contains, in_left, in_right, some_of}
use Rattle.dia_valid.proofs.RulesOfKeys.{is_listed_by, listed, times}
use Rattle.dia_lint.specs.Guidelines.{lets_in}
use Rattle.dia_lint.specs.LevelParts.{AreAmong, AskSame, Meets, Parts, bounds, is_other}
use Rattle.dia_lint.proofs.SameLevels.{same_count, same_listed}
use Rattle.dia_lint.proofs.SoundRules.{cases}
use Rattle.dia_lint.proofs.SamePartsSpelled.{into_spelled, listed_append, replicate_in, spelled}
use Rattle.dia_lint.proofs.SamePartsMet.{AreUncounted, any_not_first, bounded, bounded_others, comes_by, count_at, one_if, other_is, parted_at, rules_of}
use Rattle.dia_lint.proofs.SamePartsMade.{allowed, apart_keys, made, may_others, replaced, some_max, usual, usual_in, usual_others, usual_some, with_key, with_own, word, word_others, word_times}
use Rattle.dia_lint.proofs.SamePartsFirsts.{AreMetAlike, flipped, new_of, rule_bounds, same_bounds, same_firsts, usual_made, usual_word}

-- ---- a rule that another could be in the place of

least_zero : (n : ℕ) → ((a : ℕ) → n ≡ suc a → ⊥) → n ≡ 0
least_zero zero no_more = refl
least_zero (suc a) no_more = absurd (no_more a refl)

no_max : (o : Option ℕ) → ((m : ℕ) → o ≡ Some m → ⊥) → o ≡ None
no_max None no_more = refl
no_max (Some m) no_more = absurd (no_more m refl)

at_max : (r : DRule) (m n : ℕ) → r.max ≡ Some m → InBounds r n → n ≤ m
at_max r m n e within = at_some (λ (max : ℕ). n ≤ max) r.max m within.1 e

-- where one of the rule's for one of the wildcard's, and the other way round, is always allowed, neither counts
uncounted_both : (r w : DRule) → IfSome r.max (λ max. r.min ≤ max) → IfSome w.max (λ max. w.min ≤ max) → lets_in w ≡ true
    → ((i j : ℕ) → InBounds r (suc i) → InBounds w j → InBounds r i × InBounds w (suc j)) → ((i j : ℕ) → InBounds r i → InBounds w (suc j) → InBounds r (suc i) × InBounds w j) → AreUncounted r w
uncounted_both r w hr hw lets less more = (own_least, own_most, other_least, other_most)
  where
    own_least : r.min ≡ 0
    own_least = least_zero r.min (λ a e.
        let fewer = less a w.min (subst (InBounds r) e (omega arith, hr)) (omega arith, hw) in
        let le : r.min ≤ a = fewer.0.0 in
        omega (arith, e, le))

    other_least : w.min ≡ 0
    other_least = least_zero w.min (λ b e.
        let fewer = more r.min b (omega arith, hr) (subst (InBounds w) e (omega arith, hw)) in
        let le : w.min ≤ b = fewer.1.0 in
        omega (arith, e, le))

    most_in : (t : DRule) (m : ℕ) → t.min ≡ 0 → t.max ≡ Some m → InBounds t m
    most_in t m least e = (omega (arith, least), subst (λ (o : Option ℕ). IfSome o (λ max. m ≤ max)) (sym e) (omega arith))

    own_most : r.max ≡ None
    own_most = no_max r.max (λ m e.
        let one : InBounds w 1 = (omega (arith, other_least), some_max w.max lets) in
        let le = at_max r m (suc m) e (more m 0 (most_in r m own_least e) one).0 in
        omega (arith, le))

    other_most : w.max ≡ None
    other_most = no_max w.max (λ m e.
        let one : InBounds r 1 = (omega (arith, own_least), subst (λ (o : Option ℕ). IfSome o (λ max. 1 ≤ max)) (sym own_most) tt) in
        let le = at_max w m (suc m) e (less 0 m one (most_in w m other_least e)).1 in
        omega (arith, le))

-- ---- the wildcards

-- where p lets others in q does
others_some : (p q : Parts) → AreMetAlike p q → (w : DRule) → p.others ≡ Some w → IsSome q.others
others_some p q h w of =
    let (z, new, other) = new_of p q in
    let often : 1 ≤ usual_others p = subst (λ (o : Option DRule). 1 ≤ option_map_or usual o 0) (sym of) (usual_some w (h.own.parts.wild_lets w of)) in
    let here = in_right (spelled usual (rules_of p)) (replicate (usual_others p) z) z (replicate_in (usual_others p) z often) in
    comes_by q h.other.parts (usual_word p z) (h.to (usual_word p z) (usual_made p h.own.parts z new)) z here other

-- ---- the rules in any order

module _ (p q : Parts) (h : AreMetAlike p q) where
  -- a key for another, where q lists neither
  exchanged : (list : List Key) (x y : Key) → Meets p list → IsIn x list → is_listed (rules_of q) x ≡ false → is_listed (rules_of q) y ≡ false
      → (other : List Key) × Meets p other × ((g : Key → Bool) → count_by g list + one_if (g y) ≡ count_by g other + one_if (g x))
  exchanged list x y m i fx fy =
      let (u, t, e) = parted_at list x i in (
        u ++ y ∷ t,
        h.back (u ++ y ∷ t) (replaced q h.other.parts u x t y (h.to (u ++ x ∷ t) (subst (Meets p) e m)) fx fy),
        λ g. let whole = ap (count_by g) e in omega (arith, whole, count_at g u x t, count_at g u y t),
      )

  -- a rule of p for a key that q doesn't list, beside a wildcard
  module _ (r w : DRule) (k : Key) (ir : IsIn r p.anys) (e : r.key ≡ Some k) (of : p.others ≡ Some w) (fk : is_listed (rules_of q) k ≡ false) where
    there : IsIn r (rules_of p)
    there = in_right p.firsts p.anys r ir

    -- with i of its key and j of another, of both a number that is allowed
    module _ (z : Key) (new : is_listed (rules_of p) z ≡ false) (other : is_listed (rules_of q) z ≡ false) (i j : ℕ) (own : InBounds r i) (others : InBounds w j) where
      abbrev list : List Key
      list = word p (with_key k i) j z

      list_made : Meets p list
      list_made = made p h.own.parts (with_key k i) j z new (allowed p h.own.parts k i r there e own) (may_others p w j of others)

      own_count : times k list ≡ i
      own_count = word_times p h.own.parts (with_key k i) j z new r k there e ∙ with_own k i r e

      other_count : count_by (is_other p) list ≡ j
      other_count = word_others p h.own.parts (with_key k i) j z new

      own_in : 1 ≤ i → IsIn k list
      own_in some = in_left (spelled (with_key k i) (rules_of p)) (replicate j z) k
          (into_spelled (with_key k i) (rules_of p) r k there e (subst (λ (often : ℕ). 1 ≤ often) (sym (with_own k i r e)) some))

      other_in : 1 ≤ j → IsIn z list
      other_in some = in_right (spelled (with_key k i) (rules_of p)) (replicate j z) z (replicate_in j z some)

      -- one of the one for one of the other
      one_for : (x y : Key) → IsIn x list → is_listed (rules_of q) x ≡ false → is_listed (rules_of q) y ≡ false
          → (a b : ℕ) → i + one_if (same_key y k) ≡ a + one_if (same_key x k) → j + one_if (is_other p y) ≡ b + one_if (is_other p x) → InBounds r a × InBounds w b
      one_for x y ix fx fy a b ea eb =
          let (list', m, count) = exchanged list x y list_made ix fx fy in
          let own' : times k list' ≡ a = omega (arith, count (λ (key : Key). same_key key k), own_count, ea) in
          let other' : count_by (is_other p) list' ≡ b = omega (arith, count (is_other p), other_count, eb) in
          (subst (InBounds r) own' (bounded p h.own.parts list' m r k there e), subst (InBounds w) other' (bounded_others p h.own.parts list' m w of))

    module _ (z : Key) (new : is_listed (rules_of p) z ≡ false) (other : is_listed (rules_of q) z ≡ false) where
      own_key : (one_if (same_key k k) ≡ 1) × (one_if (is_other p k) ≡ 0)
      own_key = (ap one_if (same_key-refl k), ap one_if (other_is p h.own.parts k ∙ ap (λ (b : Bool). not b) (is_listed_by (rules_of p) k r there e)))

      other_key : (one_if (same_key z k) ≡ 0) × (one_if (is_other p z) ≡ 1)
      other_key = (ap one_if (apart_keys (rules_of p) r k z new there e), ap one_if (other_is p h.own.parts z ∙ ap (λ (b : Bool). not b) new))

      fewer : (i j : ℕ) → InBounds r (suc i) → InBounds w j → InBounds r i × InBounds w (suc j)
      fewer i j own others = one_for z new other (suc i) j own others k z (own_in z new other (suc i) j own others (omega arith)) fk other i (suc j)
          (omega (arith, own_key.0, other_key.0)) (omega (arith, own_key.1, other_key.1))

      more : (i j : ℕ) → InBounds r i → InBounds w (suc j) → InBounds r (suc i) × InBounds w j
      more i j own others = one_for z new other i (suc j) own others z k (other_in z new other i (suc j) own others (omega arith)) other fk (suc i) j
          (omega (arith, own_key.0, other_key.0)) (omega (arith, own_key.1, other_key.1))

    neither_counts : AreUncounted r w
    neither_counts =
        let n = h.own.parts in
        let (z, new, other) = new_of p q in
        uncounted_both r w (n.bounds r there) (n.wild_bounds w of) (n.wild_lets w of) (fewer z new other) (more z new other)

  -- a key that p lists in any order so does q
  any_too : (r : DRule) (k : Key) → IsIn r p.anys → r.key ≡ Some k → is_listed q.anys k ≡ true
  any_too r k i e = by (cases (is_listed q.anys k))
    where
      not_other : is_listed (rules_of q) k ≡ false → (o : Option DRule) → p.others ≡ o → ⊥
      not_other fk (Some w) of = h.own.parts.counts w of r i (neither_counts r w k i e of fk)
      not_other fk None none =
          let (z, new, other) = new_of p q in
          let among = into_spelled usual (rules_of p) r k (in_right p.firsts p.anys r i) e (usual_some r (h.own.parts.lets none r i)) in
          let here = in_left (spelled usual (rules_of p)) (replicate (usual_others p) z) k among in
          let (v, at) = some_of q.others (comes_by q h.other.parts (usual_word p z) (h.to (usual_word p z) (usual_made p h.own.parts z new)) k here fk) in
          let (w, of) = some_of p.others (others_some q p (flipped p q h) v at) in
          none-some w (sym none ∙ of)

      by : (is_listed q.anys k ≡ true) ⊎ (is_listed q.anys k ≡ false) → is_listed q.anys k ≡ true
      by (inl holds) = holds
      by (inr fails) =
          let not_first : is_listed q.firsts k ≡ false = ap (λ (rs : List DRule). is_listed rs k) (sym (same_firsts p q h)) ∙ any_not_first p h.own.parts r k i e in
          absurd (not_other (listed_append q.firsts q.anys k ∙ ap (λ (b : Bool). b || is_listed q.anys k) not_first ∙ fails) p.others refl)

  any_among : AreAmong p.anys q.anys
  any_among r contains =
      let i = in_contains p.anys r contains in
      let there = in_right p.firsts p.anys r i in
      let (k, e) = some_of r.key (h.own.parts.keyed r there) in
      let (t, it, f) = listed q.anys k (any_too r k i e) in
      (t, contains_in q.anys t it, e ∙ sym f, rule_bounds p q h r t k there (in_right q.firsts q.anys t it) e f)

-- ---- all others

others_too : (p q : Parts) → AreMetAlike p q → ((key : Key) → is_other q key ≡ is_other p key) → (w v : DRule) → p.others ≡ Some w → q.others ≡ Some v
    → (m : ℕ) → InBounds w m → InBounds v m
others_too p q h same w v of at m within =
    let n = h.own.parts in
    let (z, new, other) = new_of p q in
    let list = word p usual m z in
    let own = made p n usual m z new (λ r i. usual_in r (n.bounds r i)) (may_others p w m of within) in
    subst (InBounds v) (same_count (is_other q) (is_other p) list same ∙ word_others p n usual m z new) (bounded_others q h.other.parts list (h.to list own) v at)

-- normal parts that the same lists of keys meet ask the same
pub asks_same : (p q : Parts) → AreMetAlike p q → AskSame p q
asks_same p q h = record {
  firsts = same_firsts p q h;
  anys = any_among p q h;
  back = any_among q p (flipped p q h);
  others = by p.others q.others refl refl;
}
  where
    other_same : (key : Key) → is_other p key ≡ is_other q key
    other_same key = ap (λ (rs : List DRule). not (is_listed rs key || is_listed p.anys key)) (same_firsts p q h)
        ∙ ap (λ (b : Bool). not (is_listed q.firsts key || b)) (same_listed p.anys q.anys key (any_among p q h) (any_among q p (flipped p q h)))

    by : (o u : Option DRule) → p.others ≡ o → q.others ≡ u → option_map bounds o ≡ option_map bounds u
    by None None of at = refl
    by None (Some v) of at = let (w, is) = some_of p.others (others_some q p (flipped p q h) v at) in absurd (none-some w (sym of ∙ is))
    by (Some w) None of at = let (v, is) = some_of q.others (others_some p q h w of) in absurd (none-some v (sym at ∙ is))
    by (Some w) (Some v) of at = ap (λ (b : ℕ × Option ℕ). Some b) (same_bounds w v (h.own.parts.wild_bounds w of) (h.other.parts.wild_bounds v at)
        (others_too p q h (λ key. sym (other_same key)) w v of at) (others_too q p (flipped p q h) other_same v w at of))
