-- Lists of keys that meet normal parts: as many of each rule's key as its bounds allow, and then so many of a key that no rule lists.
use Rattle.std.proofs.Common.{◌≡◌, ℕ, zero, suc, ◌≤◌, Bool, true, false, cond, List, ◌∷◌, ◌++◌, replicate, Option, Some, None, refl, sym, ap, subst, ◌∙◌, arith, inl, inr, append_assoc}
use Rattle.std.specs.Prelude.{◌⊎◌, nat_eq, not, ◌&&◌, count_by, IfSome, IsSome}
use Rattle.std.specs.Option.{option_eq, option_map_or}
use Rattle.std.proofs.lemmas.Bool.{eqb-true, false_from_ne_true}
use Rattle.std.proofs.lemmas.List.{length-replicate}
use Rattle.std.proofs.lemmas.Option.{none-some, same_Some}
use Rattle.dia_wire.specs.declared.Key.{Key}
use Rattle.dia_book.specs.declared.DRule.{DRule}
use Rattle.dia_book.specs.Dictionary.{lists_key}
use Rattle.dia_book.specs.Keys.{same_key}
use Rattle.dia_book.proofs.SameKeys.{same_key-true}
use Rattle.dia_valid.specs.Valid.{InBounds, Runs, is_listed}
use Rattle.dia_valid.proofs.Members.{IsIn, all_in, at_some, count_all, count_append, count_none, in_all, in_append, in_left, in_right, some_of, when_some}
use Rattle.dia_valid.proofs.RulesOfKeys.{is_listed_by, key_of_test, listed, lists, times}
use Rattle.dia_lint.specs.Guidelines.{lets_in}
use Rattle.dia_lint.specs.LevelParts.{MayFollow, Meets, Parts, is_other}
use Rattle.dia_lint.proofs.SoundRules.{differ}
use Rattle.dia_lint.proofs.SamePartsSpelled.{in_replicate, in_spelled, not_listed, runs_spelled, spelled, spelled_append, times_none, times_spelled}
use Rattle.dia_lint.proofs.SamePartsMet.{AreParts, any_not_first, count_at, count_of, cut_at, one_if, one_rule, other_is, rules_of}

pub unlisted_left : (xs ys : List DRule) (k : Key) → is_listed (xs ++ ys) k ≡ false → is_listed xs k ≡ false
unlisted_left xs ys k fails = false_from_ne_true (is_listed xs k) (λ h.
    let (r, i, e) = listed xs k h in not_listed (xs ++ ys) k r fails (in_left xs ys r i) e)

pub unlisted_right : (xs ys : List DRule) (k : Key) → is_listed (xs ++ ys) k ≡ false → is_listed ys k ≡ false
unlisted_right xs ys k fails = false_from_ne_true (is_listed ys k) (λ h.
    let (r, i, e) = listed ys k h in not_listed (xs ++ ys) k r fails (in_right xs ys r i) e)

-- a key that a rule lists isn't another that none lists
pub apart_keys : (rs : List DRule) (r : DRule) (k z : Key) → is_listed rs z ≡ false → IsIn r rs → r.key ≡ Some k → same_key z k ≡ false
apart_keys rs r k z fails i e = false_from_ne_true (same_key z k) (λ h. not_listed rs z r fails i (e ∙ ap (λ (x : Key). Some x) (sym (same_key-true z k h))))

module _ (p : Parts) (n : AreParts p) where
  -- of two keys that no rule lists one may be in the place of the other
  pub replaced : (u : List Key) (x : Key) (t : List Key) (y : Key) → Meets p (u ++ x ∷ t) → is_listed (rules_of p) x ≡ false → is_listed (rules_of p) y ≡ false → Meets p (u ++ y ∷ t)
  replaced u x t y m fx fy =
      let (front, v, before, f, again) = cut_at p n u x t m (unlisted_left p.firsts p.anys x fx) in
      let whole : front ++ (v ++ y ∷ t) ≡ u ++ y ∷ t = sym (append_assoc front v (y ∷ t)) ∙ ap (λ (l : List Key). l ++ y ∷ t) (sym before) in
      subst (Meets p) whole (again (v ++ y ∷ t) (record {
        follow = all_in (MayFollow p) (v ++ y ∷ t) (λ key i. follows v (λ q j. in_all (MayFollow p) q (v ++ x ∷ t) f.follow j) key (in_append v (y ∷ t) key i));
        counts = all_in (λ (r : DRule). InBounds r (count_by (λ key. lists_key key r) (v ++ y ∷ t))) p.anys (λ r i.
            subst (InBounds r) (same_count (λ (key : Key). lists_key key r) v (none r i x fx ∙ sym (none r i y fy)))
            (in_all (λ (s : DRule). InBounds s (count_by (λ key. lists_key key s) (v ++ x ∷ t))) r p.anys f.counts i));
        others = when_some (λ (w : DRule). InBounds w (count_by (is_other p) (v ++ y ∷ t))) p.others (λ w of.
            subst (InBounds w) (same_count (is_other p) v (other_is p n x ∙ ap (λ (b : Bool). not b) (fx ∙ sym fy) ∙ sym (other_is p n y)))
            (at_some (λ (s : DRule). InBounds s (count_by (is_other p) (v ++ x ∷ t))) p.others w f.others of));
      }))
    where
      same_count : (g : Key → Bool) (v : List Key) → g x ≡ g y → count_by g (v ++ x ∷ t) ≡ count_by g (v ++ y ∷ t)
      same_count g v e =
          let one = ap one_if e in
          omega (arith, count_at g v x t, count_at g v y t, one)

      none : (r : DRule) → IsIn r p.anys → (q : Key) → is_listed (rules_of p) q ≡ false → lists_key q r ≡ false
      none r i q fails = false_from_ne_true (lists_key q r) (λ h. not_listed (rules_of p) q r fails (in_right p.firsts p.anys r i) (key_of_test q r.key h))

      some_others : MayFollow p x → IsSome p.others
      some_others (inl h) = absurd (differ (is_listed p.anys x) h (unlisted_right p.firsts p.anys x fx))
      some_others (inr (some, first, any)) = some

      follows : (v : List Key) → ((q : Key) → IsIn q (v ++ x ∷ t) → MayFollow p q) → (key : Key) → IsIn key v ⊎ IsIn key (y ∷ t) → MayFollow p key
      follows v all key (inl i) = all key (in_left v (x ∷ t) key i)
      follows v all key (inr (inr i)) = all key (in_right v (x ∷ t) key (inr i))
      follows v all key (inr (inl e)) = subst (MayFollow p) (sym e)
          (inr (some_others (all x (in_right v (x ∷ t) x (inl refl))), unlisted_left p.firsts p.anys y fy, unlisted_right p.firsts p.anys y fy))

-- ---- counts that the bounds allow

-- at least one, if the rule lets it in
abbrev pub usual : DRule → ℕ
usual r = cond (lets_in r && nat_eq r.min 0) 1 r.min

pub some_max : (o : Option ℕ) → not (option_eq nat_eq o (Some 0)) ≡ true → IfSome o (λ max. 1 ≤ max)
some_max None h = tt
some_max (Some zero) h = absurd (let e : false ≡ true = h in cc)
some_max (Some (suc m)) h = omega arith

pub usual_in : (r : DRule) → IfSome r.max (λ max. r.min ≤ max) → InBounds r (usual r)
usual_in r within = by (lets_in r) (nat_eq r.min 0) refl refl
  where
    by : (a b : Bool) → lets_in r ≡ a → nat_eq r.min 0 ≡ b → InBounds r (cond (a && b) 1 r.min)
    by true true lets zero_is = let least : r.min ≡ 0 = eqb-true r.min 0 zero_is in (omega (arith, least), some_max r.max lets)
    by true false lets some = (omega arith, within)
    by false b lets some = (omega arith, within)

pub usual_some : (r : DRule) → lets_in r ≡ true → 1 ≤ usual r
usual_some r lets = by (lets_in r) (nat_eq r.min 0) lets refl
  where
    above : (n : ℕ) → nat_eq n 0 ≡ false → 1 ≤ n
    above zero e = absurd (let f : true ≡ false = e in cc)
    above (suc n) e = omega arith

    by : (a b : Bool) → a ≡ true → nat_eq r.min 0 ≡ b → 1 ≤ cond (a && b) 1 r.min
    by true true e zero_is = omega arith
    by true false e some = above r.min some
    by false b e some = absurd (differ false e refl)

-- this many of a key
abbrev pub with_key : Key → ℕ → DRule → ℕ
with_key k n r = cond (lists_key k r) n (usual r)

pub with_own : (k : Key) (n : ℕ) (r : DRule) → r.key ≡ Some k → with_key k n r ≡ n
with_own k n r e = ap (λ (b : Bool). cond b n (usual r)) (lists r k e)

-- how many of others
abbrev pub usual_others : Parts → ℕ
usual_others p = option_map_or usual p.others 0

-- what the wildcard says of a number of others
abbrev pub AllowOthers : Parts → ℕ → Type 0
AllowOthers p j = (p.others ≡ None → j ≡ 0) × ((w : DRule) → p.others ≡ Some w → InBounds w j)

pub may_others : (p : Parts) (w : DRule) (j : ℕ) → p.others ≡ Some w → InBounds w j → AllowOthers p j
may_others p w j of within = (λ none. absurd (none-some w (sym none ∙ of)), λ v at. subst (λ (x : DRule). InBounds x j) (same_Some w v (sym of ∙ at)) within)

-- ---- the lists

abbrev pub word : Parts → (DRule → ℕ) → ℕ → Key → List Key
word p c j z = spelled c (rules_of p) ++ replicate j z

module _ (p : Parts) (n : AreParts p) (c : DRule → ℕ) (j : ℕ) (z : Key) (new : is_listed (rules_of p) z ≡ false) where
  pub word_times : (r : DRule) (k : Key) → IsIn r (rules_of p) → r.key ≡ Some k → times k (word p c j z) ≡ c r
  word_times r k i e =
      let none = count_none (λ (q : Key). same_key q k) (replicate j z) (λ q iq.
      ap (λ (x : Key). same_key x k) (in_replicate j z q iq) ∙ apart_keys (rules_of p) r k z new i e) in
      omega (arith, count_append (λ (q : Key). same_key q k) (spelled c (rules_of p)) (replicate j z), times_spelled c (rules_of p) r k n.distinct i e, none)

  copies_other : count_by (is_other p) (replicate j z) ≡ j
  copies_other = count_all (is_other p) (replicate j z) (all_in (λ (q : Key). is_other p q ≡ true) (replicate j z) (λ q i.
      ap (is_other p) (in_replicate j z q i) ∙ other_is p n z ∙ ap (λ (b : Bool). not b) new)) ∙ length-replicate j z

  none_other : (rs : List DRule) → ((r : DRule) → IsIn r rs → IsIn r (rules_of p)) → count_by (is_other p) (spelled c rs) ≡ 0
  none_other rs within = count_none (is_other p) (spelled c rs) (λ q i.
      let (r, ir, e) = in_spelled c rs q i in
      other_is p n q ∙ ap (λ (b : Bool). not b) (is_listed_by (rules_of p) q r (within r ir) e))

  pub word_others : count_by (is_other p) (word p c j z) ≡ j
  word_others = omega (arith, count_append (is_other p) (spelled c (rules_of p)) (replicate j z), none_other (rules_of p) (λ r i. i), copies_other)

  module _ (within : (r : DRule) → IsIn r (rules_of p) → InBounds r (c r)) (may : AllowOthers p j) where
    follows : (key : Key) → IsIn key (spelled c p.anys) ⊎ IsIn key (replicate j z) → MayFollow p key
    follows key (inl i) = let (r, ir, e) = in_spelled c p.anys key i in inl (is_listed_by p.anys key r ir e)
    follows key (inr i) = subst (MayFollow p) (sym (in_replicate j z key i)) (inr (some p.others refl, unlisted_left p.firsts p.anys z new, unlisted_right p.firsts p.anys z new))
      where
        some : (o : Option DRule) → p.others ≡ o → IsSome o
        some (Some w) of = refl
        some None of = absurd (subst (λ (k : ℕ). IsIn key (replicate k z)) (may.0 of) i)

    counted : (r : DRule) → IsIn r p.anys → InBounds r (count_by (λ key. lists_key key r) (spelled c p.anys ++ replicate j z))
    counted r i =
        let there = in_right p.firsts p.anys r i in
        let (k, e) = some_of r.key (n.keyed r there) in
        let list = count_of r k (spelled c p.anys ++ replicate j z) e in
        let whole = word_times r k there e in
        let both = ap (times k) (spelled_append c p.firsts p.anys) in
        let none = times_none c p.firsts k (λ t it et. not_listed p.firsts k t (any_not_first p n r k i e) it et) in
        let same : c r ≡ times k (spelled c p.anys ++ replicate j z) = omega (
          arith,
          whole,
          both,
          none,
          count_append (λ (q : Key). same_key q k) (spelled c (rules_of p)) (replicate j z),
          count_append (λ (q : Key). same_key q k) (spelled c p.firsts) (spelled c p.anys),
          count_append (λ (q : Key). same_key q k) (spelled c p.anys) (replicate j z),
        ) in
        subst (InBounds r) (same ∙ sym list) (within r there)

    parted : spelled c p.firsts ++ (spelled c p.anys ++ replicate j z) ≡ word p c j z
    parted = sym (append_assoc (spelled c p.firsts) (spelled c p.anys) (replicate j z)) ∙ ap (λ (l : List Key). l ++ replicate j z) (sym (spelled_append c p.firsts p.anys))

    others : count_by (is_other p) (spelled c p.anys ++ replicate j z) ≡ j
    others = omega (arith, count_append (is_other p) (spelled c p.anys) (replicate j z), none_other p.anys (λ r i. in_right p.firsts p.anys r i), copies_other)

    runs : Runs p.firsts (spelled c p.firsts ++ (spelled c p.anys ++ replicate j z)) (spelled c p.anys ++ replicate j z)
    runs = runs_spelled c p.firsts (spelled c p.anys ++ replicate j z) (λ r i. let there = in_left p.firsts p.anys r i in (n.keyed r there, within r there))

    pub made : Meets p (word p c j z)
    made = record {
      rest = spelled c p.anys ++ replicate j z;
      runs = subst (λ (l : List Key). Runs p.firsts l (spelled c p.anys ++ replicate j z)) parted runs;
      follow = all_in (MayFollow p) (spelled c p.anys ++ replicate j z) (λ key i. follows key (in_append (spelled c p.anys) (replicate j z) key i));
      counts = all_in (λ (r : DRule). InBounds r (count_by (λ key. lists_key key r) (spelled c p.anys ++ replicate j z))) p.anys counted;
      others = when_some (λ (w : DRule). InBounds w (count_by (is_other p) (spelled c p.anys ++ replicate j z))) p.others (λ w of.
          subst (InBounds w) (sym others) (may.1 w of));
    }

-- as many as usual of all but one key
pub allowed : (p : Parts) (n : AreParts p) (k : Key) (often : ℕ) (r : DRule) → IsIn r (rules_of p) → r.key ≡ Some k → InBounds r often
    → (s : DRule) → IsIn s (rules_of p) → InBounds s (with_key k often s)
allowed p n k often r i e within s is = by (lists_key k s) refl
  where
    by : (b : Bool) → lists_key k s ≡ b → InBounds s (cond b often (usual s))
    by true h = subst (λ (x : DRule). InBounds x often) (one_rule (rules_of p) r s k n.distinct i is e (key_of_test k s.key h)) within
    by false h = usual_in s (n.bounds s is)

pub usual_allowed : (p : Parts) (n : AreParts p) → AllowOthers p (usual_others p)
usual_allowed p n = (
  λ none. ap (λ (o : Option DRule). option_map_or usual o 0) none,
  λ w of.
      subst (InBounds w) (sym (ap (λ (o : Option DRule). option_map_or usual o 0) of)) (usual_in w (n.wild_bounds w of)),
)
