-- The settled parts of a definition's rules are normal, so that definitions of the same levels have the same normal form.
use Rattle.std.proofs.Common.{◌≡◌, ℕ, suc, ◌-◌, Bool, true, false, cond, List, [], ◌∷◌, ◌++◌, length, take, drop, filter, Option, Some, None, refl, sym, ap, subst, ◌∙◌, arith, inl, inr}
use Rattle.std.specs.Prelude.{◌⊎◌, ◌↔◌, nat_eq, not, ◌&&◌, is_some, slice_get}
use Rattle.std.specs.Option.{option_eq}
use Rattle.std.proofs.lemmas.Bool.{and_from, and_parts, not-true}
use Rattle.std.proofs.lemmas.List.{append-nil}
use Rattle.std.proofs.lemmas.Option.{none-some}
use Rattle.dia_wire.specs.declared.Key.{Key}
use Rattle.dia_book.specs.declared.DRule.{DRule}
use Rattle.dia_book.specs.Dictionary.{AreRules, is_fixed}
use Rattle.dia_valid.specs.Rules.{wildcard_of}
use Rattle.dia_valid.specs.Valid.{Placed, is_wildcard}
use Rattle.dia_valid.proofs.LongestRuns.{AreDistinct}
use Rattle.dia_valid.proofs.Members.{IsIn, all_in, at_in, in_append, in_filter, in_left, in_right}
use Rattle.dia_lint.specs.Guidelines.{lets_in}
use Rattle.dia_lint.specs.LevelParts.{AreAlike, Meets, Parts, is_any, is_first, is_needed, is_said, others_of, parts_of, settled, settled_by}
use Rattle.dia_lint.proofs.LevelsOfParts.{placed_by_parts}
use Rattle.dia_lint.proofs.SameLevels.{alike_placed, last_one, meets_settled, parted}
use Rattle.dia_lint.proofs.SoundRules.{cases, differ, find_in, kept, sound}
use Rattle.dia_lint.proofs.SamePartsSpelled.{new_key}
use Rattle.dia_lint.proofs.SamePartsMet.{AreParts, AreUncounted, IsNormal, one_rule}
use Rattle.dia_lint.proofs.SamePartsFirsts.{first_has}
use Rattle.dia_lint.proofs.SameParts.{asks_same}

-- ---- rules of distinct keys

distinct_by_places : (rules : List DRule) → ((i j : ℕ) (a b : DRule) → slice_get rules i ≡ Some a → slice_get rules j ≡ Some b → a.key ≡ b.key → i ≡ j) → AreDistinct rules
distinct_by_places [] h = tt
distinct_by_places (r ∷ rules) h = (
  all_in (λ (s : DRule). (key : Key) → r.key ≡ Some key → s.key ≡ Some key → ⊥) rules (λ s i key e f.
      let p = at_in rules s i in
      let same = h 0 (suc p.place) r s refl p.at (e ∙ sym f) in
      absurd (omega (arith, same))),
  distinct_by_places rules (λ i j a b at at' e. let same = h (suc i) (suc j) a b at at' e in omega (arith, same)),
)

distinct_filter : (p : DRule → Bool) (rs : List DRule) → AreDistinct rs → AreDistinct (filter p rs)
distinct_filter p [] d = tt
distinct_filter p (r ∷ rs) d = by (p r) (distinct_filter p rs d.1)
  where
    by : (b : Bool) → AreDistinct (filter p rs) → AreDistinct (cond b (r ∷ filter p rs) (filter p rs))
    by true ih = (
      all_in (λ (s : DRule). (key : Key) → r.key ≡ Some key → s.key ≡ Some key → ⊥) (filter p rs) (λ s i key e f. new_key r rs s key d (in_filter p rs s i).0 e f),
      ih,
    )
    by false ih = ih

distinct_append : (xs ys : List DRule) → AreDistinct xs → AreDistinct ys → ((a b : DRule) (k : Key) → IsIn a xs → IsIn b ys → a.key ≡ Some k → b.key ≡ Some k → ⊥) → AreDistinct (xs ++ ys)
distinct_append [] ys d e apart = e
distinct_append (x ∷ xs) ys d e apart = (
  all_in (λ (s : DRule). (key : Key) → x.key ≡ Some key → s.key ≡ Some key → ⊥) (xs ++ ys) (λ s i. by s (in_append xs ys s i)),
  distinct_append xs ys d.1 e (λ a b k i j. apart a b k (inr i) j),
)
  where
    by : (s : DRule) → IsIn s xs ⊎ IsIn s ys → (key : Key) → x.key ≡ Some key → s.key ≡ Some key → ⊥
    by s (inl i) = λ key. new_key x xs s key d i
    by s (inr j) = λ key. apart x s key (inl refl) j

-- ---- the parts of rules

module _ (rules : List DRule) (are : AreRules rules) where
  any_has : (r : DRule) → IsIn r (filter (is_any (others_of rules)) rules) → (is_some r.key ≡ true) × ((is_fixed r && lets_in r) ≡ false) × (is_needed (others_of rules) r ≡ true)
  any_has r i =
      let one = and_parts (is_some r.key) (not (is_fixed r && lets_in r) && is_needed (others_of rules) r) (in_filter (is_any (others_of rules)) rules r i).1 in
      let two = and_parts (not (is_fixed r && lets_in r)) (is_needed (others_of rules) r) one.1 in
      (one.0, not-true (is_fixed r && lets_in r) two.0, two.1)

  first_is : (r : DRule) → IsIn r (filter is_first rules) → is_first r ≡ true
  first_is r i = (in_filter is_first rules r i).1

  not_both : (a b : DRule) (k : Key) → IsIn a (filter is_first rules) → IsIn b (filter (is_any (others_of rules)) rules) → a.key ≡ Some k → b.key ≡ Some k → ⊥
  not_both a b k i j ea eb =
      let distinct = distinct_by_places rules are.distinct in
      let same = one_rule rules a b k distinct (in_filter is_first rules a i).0 (in_filter (is_any (others_of rules)) rules b j).0 ea eb in
      let has = first_has a (first_is a i) in
      let both = and_from (is_fixed a) (lets_in a) has.0 has.1 in
      differ (is_fixed b && lets_in b) (ap (λ (r : DRule). is_fixed r && lets_in r) (sym same) ∙ both) (any_has b j).1

  in_rules : (r : DRule) → IsIn r (filter is_first rules) ⊎ IsIn r (filter (is_any (others_of rules)) rules) → IsIn r rules × (is_some r.key ≡ true)
  in_rules r (inl i) = ((in_filter is_first rules r i).0, (and_parts (is_some r.key) (is_fixed r && lets_in r) (first_is r i)).0)
  in_rules r (inr i) = ((in_filter (is_any (others_of rules)) rules r i).0, (any_has r i).0)

  -- a rule that is needed beside a wildcard counts, or the wildcard does
  needed : (r w : DRule) → (is_fixed r && lets_in r) ≡ false → is_needed (Some w) r ≡ true → AreUncounted r w → ⊥
  needed r w other needs (own_least, own_most, least, most) = by (cases (is_fixed r))
    where
      zero_is : (n : ℕ) → n ≡ 0 → nat_eq n 0 ≡ true
      zero_is n e = ap (λ (k : ℕ). nat_eq k 0) e

      none_is : (o : Option ℕ) → o ≡ None → not (is_some o) ≡ true
      none_is o e = ap (λ (x : Option ℕ). not (is_some x)) e

      by : (is_fixed r ≡ true) ⊎ (is_fixed r ≡ false) → ⊥
      by (inl fixed) = differ (is_fixed r && lets_in r) (and_from (is_fixed r) (lets_in r) fixed (ap (λ (o : Option ℕ). not (option_eq nat_eq o (Some 0))) own_most)) other
      by (inr loose) = differ (is_said r w)
          (and_from (not (is_fixed r)) (nat_eq r.min 0 && (not (is_some r.max) && (nat_eq w.min 0 && not (is_some w.max)))) (ap (λ (b : Bool). not b) loose)
          (and_from (nat_eq r.min 0) (not (is_some r.max) && (nat_eq w.min 0 && not (is_some w.max))) (zero_is r.min own_least)
          (and_from (not (is_some r.max)) (nat_eq w.min 0 && not (is_some w.max)) (none_is r.max own_most)
          (and_from (nat_eq w.min 0) (not (is_some w.max)) (zero_is w.min least) (none_is w.max most)))))
          (not-true (is_said r w) needs)

  are_parts : AreParts (parts_of rules)
  are_parts = record {
    distinct =
        let distinct = distinct_by_places rules are.distinct in
        distinct_append (filter is_first rules) (filter (is_any (others_of rules)) rules) (distinct_filter is_first rules distinct) (distinct_filter (is_any (others_of rules)) rules distinct) not_both;
    keyed = λ r i. (in_rules r (in_append (filter is_first rules) (filter (is_any (others_of rules)) rules) r i)).1;
    bounds = λ r i. (sound rules are).bounds r (in_rules r (in_append (filter is_first rules) (filter (is_any (others_of rules)) rules) r i)).0;
    firsts = first_is;
    lets = λ none r i. ap (λ (o : Option DRule). is_needed o r) (sym none) ∙ (any_has r i).2;
    wild_lets = λ w of. (kept (wildcard_of rules) w of).1;
    wild_bounds = λ w of. (sound rules are).bounds w (find_in is_wildcard rules w (kept (wildcard_of rules) w of).0).0;
    counts = λ w of r i. needed r w (any_has r i).1 (ap (λ (o : Option DRule). is_needed o r) (sym of) ∙ (any_has r i).2);
  }

-- ---- settled

-- without others and without rules in any order
module _ (firsts : List DRule) (n : AreParts (record { firsts = firsts; anys = []; others = None })) where
  whole : firsts ++ [] ≡ take (length firsts - 1) firsts ++ drop (length firsts - 1) firsts
  whole = append-nil firsts ∙ parted firsts

  of_firsts : (r : DRule) → IsIn r (take (length firsts - 1) firsts ++ drop (length firsts - 1) firsts) → IsIn r firsts
  of_firsts r i = subst (IsIn r) (sym (parted firsts)) i

  last_normal : IsNormal (settled_by firsts [] None)
  last_normal = record {
    parts = record {
      distinct = subst AreDistinct whole n.distinct;
      keyed = λ r i. n.keyed r (subst (IsIn r) (sym whole) i);
      bounds = λ r i. n.bounds r (subst (IsIn r) (sym whole) i);
      firsts = λ r i. n.firsts r (of_firsts r (in_left (take (length firsts - 1) firsts) (drop (length firsts - 1) firsts) r i));
      lets = λ none r i. (first_has r (n.firsts r (of_firsts r (in_right (take (length firsts - 1) firsts) (drop (length firsts - 1) firsts) r i)))).1;
      wild_lets = λ w of. absurd (none-some w of);
      wild_bounds = λ w of. absurd (none-some w of);
      counts = λ w of. absurd (none-some w of);
    };
    followed = λ r i none. by r i (last_one firsts);
  }
    where
      by : (r : DRule) → IsIn r (take (length firsts - 1) firsts) → (firsts ≡ []) ⊎ ((l : DRule) × (drop (length firsts - 1) firsts ≡ l ∷ [])) → (t : DRule) × IsIn t (drop (length firsts - 1) firsts)
      by r i (inr (l, last)) = (l, subst (IsIn l) (sym last) (inl refl))
      by r i (inl empty) = absurd (subst (IsIn r) empty (of_firsts r (in_left (take (length firsts - 1) firsts) (drop (length firsts - 1) firsts) r i)))

settled_normal : (p : Parts) → AreParts p → IsNormal (settled p)
settled_normal p n = by p.firsts p.anys p.others n
  where
    by : (firsts anys : List DRule) (others : Option DRule) → AreParts (record { firsts = firsts; anys = anys; others = others }) → IsNormal (settled_by firsts anys others)
    by firsts [] None n = last_normal firsts n
    by firsts [] (Some w) n = record { parts = n; followed = λ r i none. absurd (none-some w (sym none)) }
    by firsts (t ∷ anys) others n = record { parts = n; followed = λ r i none. (t, inl refl) }

-- ---- definitions

pub placed_alike : (a b : List DRule) → AreRules a → AreRules b → ((keys : List Key) → Placed a keys ↔ Placed b keys) → AreAlike a b
placed_alike a b are are' same = asks_same (settled (parts_of a)) (settled (parts_of b)) (record {
  own = settled_normal (parts_of a) (are_parts a are);
  other = settled_normal (parts_of b) (are_parts b are');
  to = λ keys m. meets b are' keys ((same keys).0 (placed a are keys m));
  back = λ keys m. meets a are keys ((same keys).1 (placed b are' keys m));
})
  where
    meets : (rules : List DRule) → AreRules rules → (keys : List Key) → Placed rules keys → Meets (settled (parts_of rules)) keys
    meets rules are keys p = (meets_settled (parts_of rules) keys).0 ((placed_by_parts rules (sound rules are) keys).0 p)

    placed : (rules : List DRule) → AreRules rules → (keys : List Key) → Meets (settled (parts_of rules)) keys → Placed rules keys
    placed rules are keys m = (placed_by_parts rules (sound rules are) keys).1 ((meets_settled (parts_of rules) keys).1 m)

-- definitions have the same levels exactly if their rules have the same normal form
pub alike_exactly : (a b : List DRule) → AreRules a → AreRules b → AreAlike a b ↔ ((keys : List Key) → Placed a keys ↔ Placed b keys)
alike_exactly a b are are' = (alike_placed a b are are', placed_alike a b are are')
