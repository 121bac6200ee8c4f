-- The levels of a definition are those of its parts.
use Rattle.std.proofs.Common.{◌≡◌, ℕ, Bool, true, false, cond, List, [], ◌∷◌, filter, Option, Some, None, refl, sym, ap, subst, ◌∙◌, arith, inl, inr}
use Rattle.std.specs.Prelude.{◌⊎◌, ◌↔◌, nat_eq, not, ◌&&◌, ◌||◌, if◌then◌else◌, count_by, is_some, IsTrue}
use Rattle.std.proofs.lemmas.Bool.{and_from, and_parts, false_from_ne_true, not-true, not-false, or_left, or_right}
use Rattle.dia_wire.specs.declared.Key.{Key}
use Rattle.dia_book.specs.declared.DRule.{DRule}
use Rattle.dia_book.specs.Dictionary.{is_fixed, lists_key}
use Rattle.dia_valid.specs.Rules.{wildcard_of}
use Rattle.dia_valid.specs.Valid.{InBounds, MayBeLoose, Placed, counted, has_wildcard, is_listed, is_wildcard, loose_rules}
use Rattle.dia_valid.proofs.Members.{IsIn, all_in, count_cons, count_in, count_none, in_all, in_any, any_in, in_filter, into_filter, some_of, when_some, at_some}
use Rattle.dia_valid.proofs.RulesOfKeys.{is_listed_by, key_of_test, listed, lists}
use Rattle.dia_lint.specs.Guidelines.{lets_in}
use Rattle.dia_lint.specs.LevelParts.{MayFollow, Meets, is_any, is_first, is_needed, is_other, is_said, others_of, parts_of}
use Rattle.dia_lint.proofs.SoundRules.{AreSound, zero_from, zero_to, uncounted, runs_firsts, runs_fixed, cases, differ, find_in, find_none, kept, dropped, no_key, some_key}

module _ (rules : List DRule) (s : AreSound rules) where
  others_some : (w : DRule) → others_of rules ≡ Some w → IsIn w rules × (is_wildcard w ≡ true)
  others_some w e = find_in is_wildcard rules w (kept (wildcard_of rules) w e).0

  pub same_wildcard : (v w : DRule) → IsIn v rules → is_wildcard v ≡ true → IsIn w rules → is_wildcard w ≡ true → v ≡ w
  same_wildcard v w iv wv iw ww = s.one v w iv iw (no_key v wv ∙ sym (no_key w ww))

  others_none : others_of rules ≡ None → (w : DRule) → IsIn w rules → is_wildcard w ≡ true → lets_in w ≡ false
  others_none e w i is = by (wildcard_of rules) refl
    where
      by : (o : Option DRule) → wildcard_of rules ≡ o → lets_in w ≡ false
      by None at = absurd (differ (is_wildcard w) is (find_none is_wildcard rules at w i))
      by (Some v) at =
          let there = find_in is_wildcard rules v at in
          ap lets_in (same_wildcard w v i is there.0 there.1) ∙ dropped (wildcard_of rules) e v at

  -- a wildcard isn't fixed
  wild_loose : (w : DRule) → IsIn w rules → is_wildcard w ≡ true → is_fixed w ≡ false
  wild_loose w i is = false_from_ne_true (is_fixed w) (λ fixed. differ (is_some w.key) (s.keyed w i fixed) (not-true (is_some w.key) is))

  one_of : (key : Key) (a b : DRule) → IsIn a rules → IsIn b rules → a.key ≡ Some key → b.key ≡ Some key → a ≡ b
  one_of key a b ia ib ea eb = s.one a b ia ib (ea ∙ sym eb)

  -- a key that a rule outside of a part lists isn't of the part
  not_in : (p : DRule → Bool) (key : Key) (r : DRule) → IsIn r rules → r.key ≡ Some key → p r ≡ false → is_listed (filter p rules) key ≡ false
  not_in p key r i e fails = false_from_ne_true (is_listed (filter p rules) key) (λ h.
      let (x, ix, ex) = listed (filter p rules) key h in
      let there = in_filter p rules x ix in
      differ (p r) (ap p (one_of key r x i there.0 e ex) ∙ there.1) fails)

  unlisted : (p : DRule → Bool) (key : Key) → is_listed rules key ≡ false → is_listed (filter p rules) key ≡ false
  unlisted p key fails = false_from_ne_true (is_listed (filter p rules) key) (λ h.
      let (x, ix, ex) = listed (filter p rules) key h in
      differ (is_listed rules key) (is_listed_by rules key x (in_filter p rules x ix).0 ex) fails)

  into : (p : DRule → Bool) (key : Key) (r : DRule) → IsIn r rules → r.key ≡ Some key → p r ≡ true → is_listed (filter p rules) key ≡ true
  into p key r i e holds = is_listed_by (filter p rules) key r (into_filter p rules r i holds) e

  -- ---- counts

  counted_keyed : (r : DRule) (keys : List Key) → is_some r.key ≡ true → counted rules r keys ≡ count_by (λ key. lists_key key r) keys
  counted_keyed r keys some = ap (λ (b : Bool). count_by (λ key. if not b then not (is_listed rules key) else lists_key key r) keys) some

  counted_wild : (w : DRule) (keys : List Key) → is_wildcard w ≡ true → counted rules w keys ≡ count_by (λ key. not (is_listed rules key)) keys
  counted_wild w keys is = ap (λ (b : Bool). count_by (λ key. if b then not (is_listed rules key) else lists_key key w) keys) is

  -- ---- of rules that are loose

  any_loose : (r : DRule) → is_some r.key ≡ true → is_fixed r ≡ false → is_any (others_of rules) r ≡ is_needed (others_of rules) r
  any_loose r some loose = ap (λ (b : Bool). b && (not (is_fixed r && lets_in r) && is_needed (others_of rules) r)) some ∙ ap (λ (b : Bool). not (b && lets_in r) && is_needed
      (others_of rules) r) loose

  pub first_loose : (r : DRule) → is_fixed r ≡ false → is_first r ≡ false
  first_loose r loose = by (is_some r.key) (ap (λ (b : Bool). is_some r.key && (b && lets_in r)) loose)
    where
      by : (b : Bool) → is_first r ≡ (b && false) → is_first r ≡ false
      by true e = e
      by false e = e

  -- a rule that doesn't let its AVPs in, in any order where a wildcard would
  any_never : (r w : DRule) → is_some r.key ≡ true → is_fixed r ≡ true → lets_in r ≡ false → others_of rules ≡ Some w → is_any (others_of rules) r ≡ true
  any_never r w some fixed never of =
      ap (λ (b : Bool). b && (not (is_fixed r && lets_in r) && is_needed (others_of rules) r)) some
      ∙ ap (λ (b : Bool). not (is_fixed r && b) && is_needed (others_of rules) r) never
      ∙ ap (λ (b : Bool). not (b && false) && is_needed (others_of rules) r) fixed
      ∙ ap (λ (o : Option DRule). is_needed o r) of
      ∙ ap (λ (b : Bool). not (not b && (nat_eq r.min 0 && (not (is_some r.max) && (nat_eq w.min 0 && not (is_some w.max)))))) fixed

  -- a key that the rules list is of a part, unless a wildcard says the same of it
  in_parts : (w : DRule) → others_of rules ≡ Some w → (key : Key) (r : DRule) → IsIn r rules → r.key ≡ Some key
      → (is_listed (filter is_first rules) key ≡ true) ⊎ ((is_listed (filter (is_any (others_of rules)) rules) key ≡ true) ⊎ ((is_fixed r ≡ false) × (is_said r w ≡ true)))
  in_parts w of key r i e = by (cases (is_fixed r)) (cases (lets_in r)) (cases (is_said r w))
    where
      by : (is_fixed r ≡ true) ⊎ (is_fixed r ≡ false) → (lets_in r ≡ true) ⊎ (lets_in r ≡ false) → (is_said r w ≡ true) ⊎ (is_said r w ≡ false)
          → (is_listed (filter is_first rules) key ≡ true) ⊎ ((is_listed (filter (is_any (others_of rules)) rules) key ≡ true) ⊎ ((is_fixed r ≡ false) × (is_said r w ≡ true)))
      by (inl fixed) (inl lets) said = inl (into is_first key r i e (and_from (is_some r.key) (is_fixed r && lets_in r) (some_key r key e) (and_from (is_fixed r) (lets_in r) fixed lets)))
      by (inl fixed) (inr never) said = inr (inl (into (is_any (others_of rules)) key r i e (any_never r w (some_key r key e) fixed never of)))
      by (inr loose) lets (inl said) = inr (inr (loose, said))
      by (inr loose) lets (inr other) = inr (inl (into (is_any (others_of rules)) key r i e
          (any_loose r (some_key r key e) loose ∙ ap (λ (o : Option DRule). is_needed o r) of ∙ ap (λ (b : Bool). not b) other)))

  -- ---- from the rules to the parts

  module _ (keys : List Key) (p : Placed rules keys) where
    -- a key after the runs is of a loose rule, or no rule lists it
    loose_or_not : (key : Key) → IsIn key p.rest → ((r : DRule) × IsIn r rules × (r.key ≡ Some key) × (is_fixed r ≡ false)) ⊎ ((is_listed rules key ≡ false) × IsTrue (has_wildcard rules))
    loose_or_not key i = by (in_all (MayBeLoose rules) key p.rest p.loose i)
      where
        by : MayBeLoose rules key → ((r : DRule) × IsIn r rules × (r.key ≡ Some key) × (is_fixed r ≡ false)) ⊎ ((is_listed rules key ≡ false) × IsTrue (has_wildcard rules))
        by (inr fails) = inr fails
        by (inl h) =
            let (r, ir, er) = listed (loose_rules rules) key h in
            let there = in_filter (λ (x : DRule). not (is_fixed x)) rules r ir in
            inl (r, there.0, er, not-true (is_fixed r) there.1)

    count_of : (r : DRule) → IsIn r rules → is_fixed r ≡ false → InBounds r (counted rules r p.rest)
    count_of r i loose = in_all (λ (x : DRule). InBounds x (counted rules x p.rest)) r (loose_rules rules) p.counts
        (into_filter (λ (x : DRule). not (is_fixed x)) rules r i (ap (λ (b : Bool). not b) loose))

    count_keyed : (r : DRule) → IsIn r rules → is_fixed r ≡ false → is_some r.key ≡ true → InBounds r (count_by (λ key. lists_key key r) p.rest)
    count_keyed r i loose some = subst (InBounds r) (counted_keyed r p.rest some) (count_of r i loose)

    count_wild : (w : DRule) → IsIn w rules → is_wildcard w ≡ true → InBounds w (count_by (λ key. not (is_listed rules key)) p.rest)
    count_wild w i is = subst (InBounds w) (counted_wild w p.rest is) (count_of w i (wild_loose w i is))

    -- no key of a rule that lets nothing in
    none_of : (r : DRule) (key : Key) → IsIn r rules → r.key ≡ Some key → is_fixed r ≡ false → lets_in r ≡ false → IsIn key p.rest → ⊥
    none_of r key i e loose never ik =
        let zero_is = zero_from r (count_by (λ k. lists_key k r) p.rest) never (count_keyed r i loose (some_key r key e)) in
        let one_is = count_in (λ (k : Key). lists_key k r) p.rest key ik (lists r key e) in
        omega (arith, zero_is, one_is)

    may_follow : (key : Key) → IsIn key p.rest → MayFollow (parts_of rules) key
    may_follow key ik = by (loose_or_not key ik) (others_of rules) refl
      where
        of_rule : (r : DRule) → IsIn r rules → r.key ≡ Some key → is_fixed r ≡ false → (o : Option DRule) → others_of rules ≡ o
            → (is_any (others_of rules) r ≡ true) ⊎ (is_any (others_of rules) r ≡ false) → MayFollow (parts_of rules) key
        of_rule r i e loose o of (inl holds) = inl (into (is_any (others_of rules)) key r i e holds)
        of_rule r i e loose None of (inr fails) =
            let never : lets_in r ≡ false = sym (any_loose r (some_key r key e) loose ∙ ap (λ (x : Option DRule). is_needed x r) of) ∙ fails in
            absurd (none_of r key i e loose never ik)
        of_rule r i e loose (Some w) of (inr fails) =
            inr (ap (λ (x : Option DRule). is_some x) of, not_in is_first key r i e (first_loose r loose), not_in (is_any (others_of rules)) key r i e fails)

        by : ((r : DRule) × IsIn r rules × (r.key ≡ Some key) × (is_fixed r ≡ false)) ⊎ ((is_listed rules key ≡ false) × IsTrue (has_wildcard rules)) → (o : Option DRule) → others_of rules ≡ o
            → MayFollow (parts_of rules) key
        by (inl (r, i, e, loose)) o of = of_rule r i e loose o of (cases (is_any (others_of rules) r))
        by (inr (fails, wild)) (Some w) of = inr (ap (λ (x : Option DRule). is_some x) of, unlisted is_first key fails, unlisted (is_any (others_of rules)) key fails)
        by (inr (fails, wild)) None of =
            let (w, iw, is) = any_in is_wildcard rules wild in
            let zero_is = zero_from w (count_by (λ k. not (is_listed rules k)) p.rest) (others_none of w iw is) (count_wild w iw is) in
            let one_is = count_in (λ (k : Key). not (is_listed rules k)) p.rest key ik (ap (λ (b : Bool). not b) fails) in
            absurd (omega (arith, zero_is, one_is))

    -- a fixed rule has no key after the runs
    no_fixed : (r : DRule) (key : Key) → IsIn r rules → is_fixed r ≡ true → IsIn key p.rest → lists_key key r ≡ false
    no_fixed r key i fixed ik = false_from_ne_true (lists_key key r) (λ h. by (key_of_test key r.key h) (loose_or_not key ik))
      where
        by : r.key ≡ Some key → ((x : DRule) × IsIn x rules × (x.key ≡ Some key) × (is_fixed x ≡ false)) ⊎ ((is_listed rules key ≡ false) × IsTrue (has_wildcard rules)) → ⊥
        by e (inl (x, ix, ex, loose)) = differ (is_fixed x) (ap is_fixed (one_of key x r ix i ex e) ∙ fixed) loose
        by e (inr (fails, wild)) = differ (is_listed rules key) (is_listed_by rules key r i e) fails

    count_any : (r : DRule) → IsIn r (filter (is_any (others_of rules)) rules) → InBounds r (count_by (λ key. lists_key key r) p.rest)
    count_any r ir =
        let there = in_filter (is_any (others_of rules)) rules r ir in
        let parts = and_parts (is_some r.key) (not (is_fixed r && lets_in r) && is_needed (others_of rules) r) there.1 in
        by there.0 parts.0 (not-true (is_fixed r && lets_in r) (and_parts (not (is_fixed r && lets_in r)) (is_needed (others_of rules) r) parts.1).0) (cases (is_fixed r))
      where
        by : IsIn r rules → is_some r.key ≡ true → (is_fixed r && lets_in r) ≡ false → (is_fixed r ≡ true) ⊎ (is_fixed r ≡ false) → InBounds r (count_by (λ key. lists_key key r) p.rest)
        by i some fails (inr loose) = count_keyed r i loose some
        by i some fails (inl fixed) =
            let never : lets_in r ≡ false = sym (ap (λ (b : Bool). b && lets_in r) fixed) ∙ fails in
            let none = count_none (λ (key : Key). lists_key key r) p.rest (λ key ik. no_fixed r key i fixed ik) in
            subst (InBounds r) (sym none) (zero_to r never (s.bounds r i))

  -- no rule says what a wildcard that counts says
  all_in_parts : (w : DRule) → others_of rules ≡ Some w → nat_eq w.min 0 && not (is_some w.max) ≡ false → (key : Key) → not (is_listed rules key) ≡ is_other (parts_of rules) key
  all_in_parts w of counts key = by (cases (is_listed rules key))
    where
      listed_by : (r : DRule) → IsIn r rules → r.key ≡ Some key
          → (is_listed (filter is_first rules) key ≡ true) ⊎ ((is_listed (filter (is_any (others_of rules)) rules) key ≡ true) ⊎ ((is_fixed r ≡ false) × (is_said r w ≡ true)))
          → (is_listed (filter is_first rules) key || is_listed (filter (is_any (others_of rules)) rules) key) ≡ true
      listed_by r i e (inl h) = or_left (is_listed (filter is_first rules) key) (is_listed (filter (is_any (others_of rules)) rules) key) h
      listed_by r i e (inr (inl h)) = or_right (is_listed (filter is_first rules) key) (is_listed (filter (is_any (others_of rules)) rules) key) h
      listed_by r i e (inr (inr (loose, said))) =
          let one = and_parts (not (is_fixed r)) (nat_eq r.min 0 && (not (is_some r.max) && (nat_eq w.min 0 && not (is_some w.max)))) said in
          let two = and_parts (nat_eq r.min 0) (not (is_some r.max) && (nat_eq w.min 0 && not (is_some w.max))) one.1 in
          let three = and_parts (not (is_some r.max)) (nat_eq w.min 0 && not (is_some w.max)) two.1 in
          absurd (differ (nat_eq w.min 0 && not (is_some w.max)) three.1 counts)

      by : (is_listed rules key ≡ true) ⊎ (is_listed rules key ≡ false) → not (is_listed rules key) ≡ is_other (parts_of rules) key
      by (inl holds) =
          let (r, i, e) = listed rules key holds in
          ap (λ (b : Bool). not b) (holds ∙ sym (listed_by r i e (in_parts w of key r i e)))
      by (inr fails) = ap (λ (b : Bool). not b) (fails ∙ sym (ap (λ (b : Bool). b || is_listed (filter (is_any (others_of rules)) rules) key) (unlisted is_first key fails) ∙ unlisted (is_any
          (others_of rules)) key fails))

  count_same : (w : DRule) → others_of rules ≡ Some w → nat_eq w.min 0 && not (is_some w.max) ≡ false → (keys : List Key)
      → count_by (λ key. not (is_listed rules key)) keys ≡ count_by (is_other (parts_of rules)) keys
  count_same w of counts [] = refl
  count_same w of counts (key ∷ keys) =
      let ih = count_same w of counts keys in
      let one_if : Bool → ℕ = λ b. cond b 1 0 in
      let one = ap one_if (all_in_parts w of counts key) in
      omega (arith, count_cons (λ (k : Key). not (is_listed rules k)) key keys, count_cons (is_other (parts_of rules)) key keys, one, ih)

  pub to_meets : (keys : List Key) → Placed rules keys → Meets (parts_of rules) keys
  to_meets keys p = record {
    rest = p.rest;
    runs = runs_firsts rules keys p.rest s p.runs;
    follow = all_in (MayFollow (parts_of rules)) p.rest (λ key i. may_follow keys p key i);
    counts = all_in (λ (r : DRule). InBounds r (count_by (λ key. lists_key key r) p.rest)) (filter (is_any (others_of rules)) rules) (λ r i. count_any keys p r i);
    others = when_some (λ (w : DRule). InBounds w (count_by (is_other (parts_of rules)) p.rest)) (others_of rules) (λ w of. by w of (cases (nat_eq w.min 0 && not (is_some w.max))));
  }
    where
      by : (w : DRule) → others_of rules ≡ Some w → (nat_eq w.min 0 && not (is_some w.max) ≡ true) ⊎ (nat_eq w.min 0 && not (is_some w.max) ≡ false)
          → InBounds w (count_by (is_other (parts_of rules)) p.rest)
      by w of (inl any) = uncounted w (count_by (is_other (parts_of rules)) p.rest) any
      by w of (inr counts) =
          let there = others_some w of in
          subst (InBounds w) (count_same w of counts p.rest) (count_wild keys p w there.0 there.1)

  -- ---- from the parts to the rules

  module _ (keys : List Key) (m : Meets (parts_of rules) keys) where
    follows : (key : Key) → IsIn key m.rest → MayFollow (parts_of rules) key
    follows key i = in_all (MayFollow (parts_of rules)) key m.rest m.follow i

    any_count : (r : DRule) → IsIn r rules → is_any (others_of rules) r ≡ true → InBounds r (count_by (λ key. lists_key key r) m.rest)
    any_count r i holds = in_all (λ (x : DRule). InBounds x (count_by (λ key. lists_key key x) m.rest)) r (filter (is_any (others_of rules)) rules) m.counts (into_filter (is_any
        (others_of rules)) rules r i holds)

    may_be_loose : (key : Key) → IsIn key m.rest → MayBeLoose rules key
    may_be_loose key ik = by (follows key ik)
      where
        loose_is : (r : DRule) → IsIn r rules → r.key ≡ Some key → is_fixed r ≡ false → MayBeLoose rules key
        loose_is r i e loose = inl (is_listed_by (loose_rules rules) key r (into_filter (λ (x : DRule). not (is_fixed x)) rules r i (ap (λ (b : Bool). not b) loose)) e)

        any_is : (r : DRule) → IsIn r rules → r.key ≡ Some key → is_any (others_of rules) r ≡ true → (is_fixed r ≡ true) ⊎ (is_fixed r ≡ false) → MayBeLoose rules key
        any_is r i e holds (inr loose) = loose_is r i e loose
        any_is r i e holds (inl fixed) =
            let parts = and_parts (is_some r.key) (not (is_fixed r && lets_in r) && is_needed (others_of rules) r) holds in
            let fails = not-true (is_fixed r && lets_in r) (and_parts (not (is_fixed r && lets_in r)) (is_needed (others_of rules) r) parts.1).0 in
            let never : lets_in r ≡ false = sym (ap (λ (b : Bool). b && lets_in r) fixed) ∙ fails in
            let zero_is = zero_from r (count_by (λ k. lists_key k r) m.rest) never (any_count r i holds) in
            let one_is = count_in (λ (k : Key). lists_key k r) m.rest key ik (lists r key e) in
            absurd (omega (arith, zero_is, one_is))

        other : (w : DRule) → others_of rules ≡ Some w → is_listed (filter is_first rules) key ≡ false → is_listed (filter (is_any (others_of rules)) rules) key ≡ false
            → (is_listed rules key ≡ true) ⊎ (is_listed rules key ≡ false) → MayBeLoose rules key
        other w of nf na (inr fails) = let there = others_some w of in inr (fails, in_any is_wildcard rules w there.0 there.1)
        other w of nf na (inl holds) = let (r, i, e) = listed rules key holds in parted r i e (in_parts w of key r i e)
          where
            parted : (r : DRule) → IsIn r rules → r.key ≡ Some key
                → (is_listed (filter is_first rules) key ≡ true) ⊎ ((is_listed (filter (is_any (others_of rules)) rules) key ≡ true) ⊎ ((is_fixed r ≡ false) ×
                (is_said r w ≡ true))) → MayBeLoose rules key
            parted r i e (inl h) = absurd (differ (is_listed (filter is_first rules) key) h nf)
            parted r i e (inr (inl h)) = absurd (differ (is_listed (filter (is_any (others_of rules)) rules) key) h na)
            parted r i e (inr (inr (loose, said))) = loose_is r i e loose

        by : MayFollow (parts_of rules) key → MayBeLoose rules key
        by (inl h) =
            let (r, ir, e) = listed (filter (is_any (others_of rules)) rules) key h in
            let there = in_filter (is_any (others_of rules)) rules r ir in
            any_is r there.0 e there.1 (cases (is_fixed r))
        by (inr (some, nf, na)) = let (w, of) = some_of (others_of rules) some in other w of nf na (cases (is_listed rules key))

    -- without a wildcard that lets AVPs in each key after the runs is of a rule
    of_any : others_of rules ≡ None → (key : Key) → IsIn key m.rest → is_listed (filter (is_any (others_of rules)) rules) key ≡ true
    of_any of key ik = by (follows key ik)
      where
        by : MayFollow (parts_of rules) key → is_listed (filter (is_any (others_of rules)) rules) key ≡ true
        by (inl h) = h
        by (inr (some, nf, na)) = absurd (let f : false ≡ true = sym (ap (λ (o : Option DRule). is_some o) of) ∙ some in cc)

    loose_count : (r : DRule) → IsIn r rules → is_fixed r ≡ false → InBounds r (counted rules r m.rest)
    loose_count r i loose = by (cases (is_some r.key))
      where
        keyed : (o : Option DRule) → others_of rules ≡ o → is_some r.key ≡ true → (is_any (others_of rules) r ≡ true) ⊎ (is_any (others_of rules) r ≡ false)
            → InBounds r (count_by (λ key. lists_key key r) m.rest)
        keyed o of some (inl holds) = any_count r i holds
        keyed None of some (inr fails) =
            let never : lets_in r ≡ false = sym (any_loose r some loose ∙ ap (λ (x : Option DRule). is_needed x r) of) ∙ fails in
            let none = count_none (λ (key : Key). lists_key key r) m.rest (λ key ik. false_from_ne_true (lists_key key r) (λ h.
            differ (is_listed (filter (is_any (others_of rules)) rules) key) (of_any of key ik) (not_in (is_any (others_of rules)) key r i (key_of_test key r.key h) fails))) in
            subst (InBounds r) (sym none) (zero_to r never (s.bounds r i))
        keyed (Some w) of some (inr fails) =
            let said = not-false (is_said r w) (sym (any_loose r some loose ∙ ap (λ (x : Option DRule). is_needed x r) of) ∙ fails) in
            let one = and_parts (not (is_fixed r)) (nat_eq r.min 0 && (not (is_some r.max) && (nat_eq w.min 0 && not (is_some w.max)))) said in
            let two = and_parts (nat_eq r.min 0) (not (is_some r.max) && (nat_eq w.min 0 && not (is_some w.max))) one.1 in
            let three = and_parts (not (is_some r.max)) (nat_eq w.min 0 && not (is_some w.max)) two.1 in
            uncounted r (count_by (λ key. lists_key key r) m.rest) (and_from (nat_eq r.min 0) (not (is_some r.max)) two.0 three.0)

        wild : (o : Option DRule) → others_of rules ≡ o → is_wildcard r ≡ true → InBounds r (count_by (λ key. not (is_listed rules key)) m.rest)
        wild None of is =
            let none = count_none (λ (key : Key). not (is_listed rules key)) m.rest (λ key ik.
            ap (λ (b : Bool). not b) (listed_too key (of_any of key ik))) in
            subst (InBounds r) (sym none) (zero_to r (others_none of r i is) (s.bounds r i))
          where
            listed_too : (key : Key) → is_listed (filter (is_any (others_of rules)) rules) key ≡ true → is_listed rules key ≡ true
            listed_too key h =
                let (x, ix, ex) = listed (filter (is_any (others_of rules)) rules) key h in
                is_listed_by rules key x (in_filter (is_any (others_of rules)) rules x ix).0 ex
        wild (Some w) of is =
            let there = others_some w of in
            let same = same_wildcard r w i is there.0 there.1 in
            counts (cases (nat_eq w.min 0 && not (is_some w.max))) same
          where
            counts : (nat_eq w.min 0 && not (is_some w.max) ≡ true) ⊎ (nat_eq w.min 0 && not (is_some w.max) ≡ false) → r ≡ w → InBounds r (count_by (λ key. not (is_listed rules key)) m.rest)
            counts (inl any) same = subst (λ (x : DRule). InBounds x (count_by (λ key. not (is_listed rules key)) m.rest)) (sym same) (uncounted w (count_by (λ key. not
                (is_listed rules key)) m.rest) any)
            counts (inr fails) same = subst (λ (x : DRule). InBounds x (count_by (λ key. not (is_listed rules key)) m.rest)) (sym same)
                (subst (InBounds w) (sym (count_same w of fails m.rest)) (at_some (λ (x : DRule). InBounds x (count_by (is_other (parts_of rules)) m.rest)) (others_of rules) w m.others of))

        by : (is_some r.key ≡ true) ⊎ (is_some r.key ≡ false) → InBounds r (counted rules r m.rest)
        by (inl some) = subst (InBounds r) (sym (counted_keyed r m.rest some)) (keyed (others_of rules) refl some (cases (is_any (others_of rules) r)))
        by (inr none) = let is : is_wildcard r ≡ true = ap (λ (b : Bool). not b) none in subst (InBounds r) (sym (counted_wild r m.rest is)) (wild (others_of rules) refl is)

    pub from_meets : Placed rules keys
    from_meets = record {
      rest = m.rest;
      runs = runs_fixed rules keys m.rest s m.runs;
      loose = all_in (MayBeLoose rules) m.rest may_be_loose;
      counts = all_in (λ (r : DRule). InBounds r (counted rules r m.rest)) (loose_rules rules) (λ r ir.
          let there = in_filter (λ (x : DRule). not (is_fixed x)) rules r ir in
          loose_count r there.0 (not-true (is_fixed r) there.1));
    }

-- the levels of the rules are those of their parts
pub placed_by_parts : (rules : List DRule) → AreSound rules → (keys : List Key) → Placed rules keys ↔ Meets (parts_of rules) keys
placed_by_parts rules s keys = (to_meets rules s keys, from_meets rules s keys)
