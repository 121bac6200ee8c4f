-- In the levels that are written for lines of the order the key of the line follows the other.
use Rattle.std.proofs.Common.{◌≡◌, ◌≢◌, ℕ, zero, suc, ◌+◌, ◌-◌, ◌^◌, ◌<◌, ◌≤◌, Bool, true, false, cond, List, [], ◌∷◌, ◌++◌, length, filter, Option, Some, None, refl, sym, ap, subst, ◌∙◌, arith, inl, inr}
use Rattle.std.specs.Prelude.{◌⊎◌, not, min, max, nat_lt, option_and_then, position, slice_get, if◌then◌else◌}
use Rattle.std.specs.Option.{option_map_or}
use Rattle.std.proofs.lemmas.Bool.{ltb-true, ltb-false, ne_eqb}
use Rattle.std.proofs.lemmas.Option.{same_Some, slice_get_within}
use Rattle.dia_wire.specs.declared.Key.{Key}
use Rattle.dia_book.specs.Keys.{same_key}
use Rattle.dia_book.specs.declared.DRule.{DRule}
use Rattle.dia_book.specs.declared.Slot.TheVariants as slot
use Rattle.dia_book.specs.Dictionary.{AreRules, is_fixed, lists_key, slot_at, slot_of}
use Rattle.dia_book.proofs.LookUpsByName.{find-place}
use Rattle.dia_book.proofs.Members.{into_left, into_right}
use Rattle.dia_book.proofs.SameKeys.{same_key-refl, same_key-true}
use Rattle.dia_valid.specs.Valid.{fixed_rules, is_listed}
use Rattle.dia_valid.proofs.Entries.{at_position}
use Rattle.dia_valid.specs.Rules.{rule_of, wildcard_of}
use Rattle.dia_valid.proofs.Members.{IsIn, at_in, contains_in, in_append, in_left, in_right}
use Rattle.dia_breaking_levels.specs.declared.floor.Floor.{Floor}
use Rattle.dia_breaking_levels.specs.declared.line.Part.{Part}
use Rattle.dia_breaking_levels.specs.declared.line.Reason.TheVariants.{Order}
use Rattle.dia_breaking_levels.specs.Breaches.{IsLate}
use Rattle.dia_breaking_levels.specs.Chosen.{PlainDemand, Reads, count_of, extra_at, kind_parts, level_parts, order_demand, other_count, parts_at, parts_below, parts_by, reads_between, rule_parts, occurs, wants}
use Rattle.dia_breaking_levels.specs.CountsAndRanks.{AreSound, rank}
use Rattle.dia_breaking_levels.specs.Exact.{floor_between}
use Rattle.dia_breaking_levels.specs.LeastLevels.{copies}
use Rattle.dia_breaking_levels.specs.Levels.{ShowsAt}
use Rattle.dia_breaking_levels.specs.LevelTests.{too_long, capped, filler, swapped}
use Rattle.dia_breaking_levels.specs.Orders.{OccursBefore}
use Rattle.dia_breaking_levels.specs.OrderTests.{beyond, by_wild, is_turned, pair_length, with_others}
use Rattle.dia_breaking_levels.specs.Places.{place, place_of}
use Rattle.dia_breaking_levels.specs.Showing.{part_keys}
use Rattle.dia_breaking_levels.proofs.CountsAndRanks.{ranked, rules_sound, wild_loose}
use Rattle.dia_breaking_levels.proofs.LeastLevels.{in_copies, not_both}
use Rattle.dia_breaking_levels.proofs.LevelBounds.{is_wild}
use Rattle.dia_breaking_levels.proofs.LineBounds.{no_rule}
use Rattle.dia_breaking_levels.proofs.LineTurns.{not_ruled, place_least, turned_parts, unlisted_after}
use Rattle.dia_breaking_levels.proofs.OtherBounds.{counted_some}
use Rattle.dia_breaking_levels.proofs.PartKeys.{of_key, of_other, of_rule, of_rule-key, of_rule-wild, of_wild, part_keys-append, passing_rule}
use Rattle.dia_breaking_levels.proofs.Places.{Placing, key_of, placing}

-- ---- keys before others

before_split : (x y : Key) (xs ys : List Key) → IsIn x xs → IsIn y ys → OccursBefore x y (xs ++ ys)
before_split x y xs ys i j =
    let p = at_in xs x i in
    let q = at_in ys y j in
    record {
      early = p.place;
      late = length xs + q.place;
      following = let within = slice_get_within xs p.place x p.at in omega (arith, within);
      is_x = into_left xs ys p.place x p.at;
      is_y = into_right xs ys q.place y q.at;
    }

before_left : (x y : Key) (xs ys : List Key) → OccursBefore x y xs → OccursBefore x y (xs ++ ys)
before_left x y xs ys b = record { early = b.early; late = b.late; following = b.following; is_x = into_left xs ys b.early x b.is_x; is_y = into_left xs ys b.late y b.is_y }

in_parts-left : (k : Key) (xs ys : List Part) → IsIn k (part_keys xs) → IsIn k (part_keys (xs ++ ys))
in_parts-left k xs ys i = subst (IsIn k) (sym (part_keys-append xs ys)) (in_left (part_keys xs) (part_keys ys) k i)

in_parts-right : (k : Key) (xs ys : List Part) → IsIn k (part_keys ys) → IsIn k (part_keys (xs ++ ys))
in_parts-right k xs ys i = subst (IsIn k) (sym (part_keys-append xs ys)) (in_right (part_keys xs) (part_keys ys) k i)

parts_split : (x y : Key) (xs ys : List Part) → IsIn x (part_keys xs) → IsIn y (part_keys ys) → OccursBefore x y (part_keys (xs ++ ys))
parts_split x y xs ys i j = subst (OccursBefore x y) (sym (part_keys-append xs ys)) (before_split x y (part_keys xs) (part_keys ys) i j)

parts_left : (x y : Key) (xs ys : List Part) → OccursBefore x y (part_keys xs) → OccursBefore x y (part_keys (xs ++ ys))
parts_left x y xs ys b = subst (OccursBefore x y) (sym (part_keys-append xs ys)) (before_left x y (part_keys xs) (part_keys ys) b)

-- of those that pass a test
in_filtered : (k : Key) (t : Part → Bool) (xs : List Part) → ((part : Part) → part.key ≡ k → t part ≡ true) → IsIn k (part_keys xs) → IsIn k (part_keys (filter t xs))
in_filtered k t [] each i = absurd i
in_filtered k t (x ∷ xs) each i = by (in_append (copies x.count x.key) (part_keys xs) k i) (in_filtered k t xs each)
  where
    rest : (b : Bool) → IsIn k (part_keys (filter t xs)) → IsIn k (part_keys (cond b (x ∷ filter t xs) (filter t xs)))
    rest true j = in_right (copies x.count x.key) (part_keys (filter t xs)) k j
    rest false j = j

    by : IsIn k (copies x.count x.key) ⊎ IsIn k (part_keys xs) → (IsIn k (part_keys xs) → IsIn k (part_keys (filter t xs))) → IsIn k (part_keys (cond (t x) (x ∷ filter t xs) (filter t xs)))
    by (inl j) ih =
        let own = in_copies x.count x.key k j in
        subst (λ (b : Bool). IsIn k (part_keys (cond b (x ∷ filter t xs) (filter t xs)))) (sym (each x (sym own.0))) (in_left (copies x.count x.key) (part_keys (filter t xs)) k j)
    by (inr j) ih = rest (t x) (ih j)

-- ---- where the parts of rules are

module _ (a : List DRule) (d : PlainDemand) where
  -- the parts of this rule have the key
  abbrev HasKey : Bool → ℕ → Key → Type 0
  HasKey fixed i k = IsIn k (part_keys (parts_at a d fixed i))

  in_below : (fixed : Bool) (n i : ℕ) (k : Key) → i < n → HasKey fixed i k → IsIn k (part_keys (parts_below a d fixed n))
  in_below fixed zero i k within has = absurd (omega (arith, within))
  in_below fixed (suc n) i k within has = by (nat_lt i n) refl (λ less. in_below fixed n i k less has)
    where
      by : (t : Bool) → nat_lt i n ≡ t → (i < n → IsIn k (part_keys (parts_below a d fixed n))) → IsIn k (part_keys (parts_below a d fixed n ++ parts_at a d fixed n))
      by true e ih = in_parts-left k (parts_below a d fixed n) (parts_at a d fixed n) (ih (ltb-true i n e))
      by false e ih =
          let le = ltb-false i n e in
          let same : i ≡ n = omega (arith, le, within) in
          in_parts-right k (parts_below a d fixed n) (parts_at a d fixed n) (subst (λ (j : ℕ). HasKey fixed j k) same has)

  before_below : (fixed : Bool) (n i j : ℕ) (x y : Key) → i < j → j < n → HasKey fixed i x → HasKey fixed j y → OccursBefore x y (part_keys (parts_below a d fixed n))
  before_below fixed zero i j x y less within has_x has_y = absurd (omega (arith, within))
  before_below fixed (suc n) i j x y less within has_x has_y = by (nat_lt j n) refl (λ lt. before_below fixed n i j x y less lt has_x has_y)
    where
      by : (t : Bool) → nat_lt j n ≡ t → (j < n → OccursBefore x y (part_keys (parts_below a d fixed n))) → OccursBefore x y (part_keys (parts_below a d fixed n ++ parts_at a d fixed n))
      by true e ih = parts_left x y (parts_below a d fixed n) (parts_at a d fixed n) (ih (ltb-true j n e))
      by false e ih =
          let le = ltb-false j n e in
          let same : j ≡ n = omega (arith, le, within) in
          parts_split x y (parts_below a d fixed n) (parts_at a d fixed n) (in_below fixed n i x (omega (arith, less, same)) has_x) (subst (λ (m : ℕ). HasKey fixed m y) same has_y)

  -- the rule at a place has the key once or more
  has_key : (fixed : Bool) (i : ℕ) (s : DRule) (k : Key) → slice_get a i ≡ Some s → is_fixed s ≡ fixed → extra_at d i ≡ 0 → 1 ≤ of_rule (λ q. same_key q k) a d 0 s → HasKey fixed i k
  has_key fixed i s k at is none some =
      let count = passing_rule (λ q. same_key q k) a d 0 s in
      let found = counted_some (λ q. same_key q k) (part_keys (rule_parts a d 0 s)) (omega (arith, count, some)) in
      let same : found.0 ≡ k = same_key-true found.0 k found.2 in
      let here : IsIn k (part_keys (rule_parts a d 0 s)) = subst (λ (q : Key). IsIn q (part_keys (rule_parts a d 0 s))) same found.1 in
      subst (λ (o : Option DRule). IsIn k (part_keys (option_map_or (parts_by a d fixed (extra_at d i)) o []))) (sym at)
      (subst (λ (n : ℕ). IsIn k (part_keys (parts_by a d fixed n s))) (sym none) (kind (is_fixed s) fixed is here))
    where
      kind : (t u : Bool) → t ≡ u → IsIn k (part_keys (rule_parts a d 0 s)) → IsIn k (part_keys (if (if t then u else not u) then rule_parts a d 0 s else []))
      kind true true e here = here
      kind true false e here = absurd (let bad : true ≡ false = e in cc)
      kind false true e here = absurd (let bad : false ≡ true = e in cc)
      kind false false e here = here

-- ---- the place of a wanted key

-- the rule at this place has it: the key's fixed rule, or a loose one
pub record IsWantedAt (a : List DRule) (d : PlainDemand) (k : Key) (fixed : Bool) : Type 0 where
  pub place_is : ℕ
  pub rule : DRule
  pub at : slice_get a place_is ≡ Some rule
  pub kind : is_fixed rule ≡ fixed
  pub some : 1 ≤ of_rule (λ q. same_key q k) a d 0 rule

abbrev pub IsPlacedAt : List DRule → PlainDemand → Key → Type 0
IsPlacedAt a d k = ((w : IsWantedAt a d k true) × (place a k ≡ w.place_is) × (w.rule.key ≡ Some k)) ⊎ (IsWantedAt a d k false × (place a k ≡ length a))

module _ (a : List DRule) (sound : AreSound a) (d : PlainDemand) (k : Key) where
  listed_place : is_listed a k ≡ true → ((s : DRule) → s.key ≡ Some k → 1 ≤ of_rule (λ q. same_key q k) a d 0 s) → IsPlacedAt a d k
  listed_place is some = by (position (lists_key k) a) refl
    where
      of_kind : (i : ℕ) (s : DRule) (t : Bool) → is_fixed s ≡ t → position (lists_key k) a ≡ Some i → slice_get a i ≡ Some s → s.key ≡ Some k → IsPlacedAt a d k
      of_kind i s t f p at e = found t f there
        where
          own : slot_of a k ≡ (if t then slot.Fixed i else slot.Loose i)
          own = ap (λ (o : Option ℕ). option_map_or (slot_at a) o slot.Unlisted) p
              ∙ ap (λ (o : Option DRule). option_map_or (λ rule. if is_fixed rule then slot.Fixed i else slot.Loose i) o slot.Unlisted) at
              ∙ ap (λ (b : Bool). if b then slot.Fixed i else slot.Loose i) f

          there : place a k ≡ place_of (length a) (if t then slot.Fixed i else slot.Loose i)
          there = ap (place_of (length a)) own

          found : (t : Bool) → is_fixed s ≡ t → place a k ≡ place_of (length a) (if t then slot.Fixed i else slot.Loose i) → IsPlacedAt a d k
          found true g there = inl (record { place_is = i; rule = s; at = at; kind = g; some = some s e }, there, e)
          found false g there = inr (record { place_is = i; rule = s; at = at; kind = g; some = some s e }, there)

      by : (o : Option ℕ) → position (lists_key k) a ≡ o → IsPlacedAt a d k
      by None p = absurd (not_both (is_listed a k) is (no_rule a k (find-place (lists_key k) a ∙ ap (λ (q : Option ℕ). option_and_then (slice_get a) q) p)))
      by (Some i) p = let s = at_position (lists_key k) a i p in of_kind i s.0 (is_fixed s.0) refl p s.1 (key_of k s.0.key s.2)

  other_place : (w : DRule) → wildcard_of a ≡ Some w → is_listed a k ≡ false → 1 ≤ of_wild (λ q. same_key q k) a d w.min 0 → IsPlacedAt a d k
  other_place w is none some =
      let wild = is_wild a w is in
      let p = at_in a w wild.0 in
      let own = of_rule-wild (λ q. same_key q k) a d 0 w wild.1 in
      inr (record { place_is = p.place; rule = w; at = p.at; kind = wild_loose a w sound wild.0 wild.1; some = omega (arith, own, some) }, unlisted_after a k none)

-- ---- the order of two wanted keys

module _ (listed other : Key → ℕ) (keys : List Key) (a b : List DRule) (are_a : AreRules a) (are_b : AreRules b) (x y : Key) where
  abbrev r : Reads
  r = reads_between a b listed other keys

  abbrev f : Floor
  f = floor_between listed other keys a b

  abbrev d : PlainDemand
  d = order_demand r (Some x) (Some y)

  abbrev level : List Key
  level = part_keys (level_parts a d)

  -- both keys are wanted once
  wanted_x : count_of d.first x ≡ 1
  wanted_x = ap (λ (t : Bool). if t then 1 else 0) (same_key-refl x)

  wanted_y : count_of d.second y ≡ 1
  wanted_y = ap (λ (t : Bool). if t then 1 else 0) (same_key-refl y)

  by_rule : (k : Key) → (count_of d.first k ≡ 1) ⊎ (count_of d.second k ≡ 1) → (s : DRule) → s.key ≡ Some k → 1 ≤ of_rule (λ q. same_key q k) a d 0 s
  by_rule k wanted s e =
      let own = of_rule-key (λ q. same_key q k) a d 0 s k e in
      let all : of_rule (λ q. same_key q k) a d 0 s ≡ min (min (max (max (count_of d.first k) (count_of d.second k)) s.min + 0) (2 ^ 64 - 1)) (2 ^ 32 - 1) =
      own ∙ ap (λ (t : Bool). cond t (min (min (max (max (count_of d.first k) (count_of d.second k)) s.min + 0) (2 ^ 64 - 1)) (2 ^ 32 - 1)) 0) (same_key-refl k) in
      by wanted all
    where
      by : (count_of d.first k ≡ 1) ⊎ (count_of d.second k ≡ 1)
          → of_rule (λ q. same_key q k) a d 0 s ≡ min (min (max (max (count_of d.first k) (count_of d.second k)) s.min + 0) (2 ^ 64 - 1)) (2 ^ 32 - 1) → 1 ≤ of_rule (λ q. same_key q k) a d 0 s
      by (inl one) all = omega (arith, one, all)
      by (inr one) all = omega (arith, one, all)

  one_other : (k : Key) → is_listed a k ≡ false → of_other (λ q. same_key q k) a (wants (Some k) 1) ≡ 1
  one_other k none =
      ap (λ (t : Bool). if t then 0 else cond (same_key k k) (min 1 (2 ^ 32 - 1)) 0) none ∙ ap (λ (t : Bool). cond t (min 1 (2 ^ 32 - 1)) 0) (same_key-refl k)

  wild_there : (base low n size : ℕ) (wild : Option DRule) → 0 < n → with_others base low n size wild < too_long → (w : DRule) × (wild ≡ Some w)
  wild_there base low n size None some short =
      let long : with_others base low n size None ≡ too_long = ap (λ (t : Bool). if t then swapped base 0 size else too_long) (ne_eqb n 0 (λ e. omega (arith, some, e))) in
      absurd (omega (arith, long, short))
  wild_there base low n size (Some w) some short = (w, refl)

  by_wilds : ℕ
  by_wilds = by_wild (rule_of a x) + by_wild (rule_of a y)

  wild_for : (k : Key) → is_listed a k ≡ false → (k ≡ x) ⊎ (k ≡ y) → pair_length f listed other a y x < too_long → (w : DRule) × (wildcard_of a ≡ Some w)
  wild_for k none one short =
      wild_there f.base (filler f) (by_wild (rule_of a x) + by_wild (rule_of a y)) (capped (beyond listed other x (rule_of a x) + beyond listed other y (rule_of a y))) f.wild (some one) short
    where
      wild_is : by_wild (rule_of a k) ≡ 1
      wild_is = ap by_wild (not_ruled a k none)

      some : (k ≡ x) ⊎ (k ≡ y) → 0 < by_wild (rule_of a x) + by_wild (rule_of a y)
      some (inl e) = let own : by_wild (rule_of a x) ≡ 1 = ap (λ (q : Key). by_wild (rule_of a q)) (sym e) ∙ wild_is in omega (arith, own)
      some (inr e) = let own : by_wild (rule_of a y) ≡ 1 = ap (λ (q : Key). by_wild (rule_of a q)) (sym e) ∙ wild_is in omega (arith, own)

  place_x : pair_length f listed other a y x < too_long → IsPlacedAt a d x
  place_x short = by (is_listed a x) refl
    where
      by : (t : Bool) → is_listed a x ≡ t → IsPlacedAt a d x
      by true e = listed_place a (rules_sound a are_a) d x e (by_rule x (inl wanted_x))
      by false e =
          let wild = wild_for x e (inl refl) short in
          let one = one_other x e in
          let rest = of_key (λ q. same_key q x) d.rest (wild.0.min - other_count a d.first - other_count a d.second - 0) in
          let all : of_wild (λ q. same_key q x) a d wild.0.min 0 ≡ of_other (λ q. same_key q x) a (wants (Some x) 1) + of_other (λ q. same_key q x) a d.second + 0 + rest = refl in
          other_place a (rules_sound a are_a) d x wild.0 wild.1 e (omega (arith, one, all))

  place_y : pair_length f listed other a y x < too_long → IsPlacedAt a d y
  place_y short = by (is_listed a y) refl
    where
      by : (t : Bool) → is_listed a y ≡ t → IsPlacedAt a d y
      by true e = listed_place a (rules_sound a are_a) d y e (by_rule y (inr wanted_y))
      by false e =
          let wild = wild_for y e (inr refl) short in
          let one = one_other y e in
          let rest = of_key (λ q. same_key q y) d.rest (wild.0.min - other_count a d.first - other_count a d.second - 0) in
          let all : of_wild (λ q. same_key q y) a d wild.0.min 0 ≡ of_other (λ q. same_key q y) a d.first + of_other (λ q. same_key q y) a (wants (Some y) 1) + 0 + rest = refl in
          other_place a (rules_sound a are_a) d y wild.0 wild.1 e (omega (arith, one, all))

  -- ---- x precedes y

  abbrev fixed_parts : List Part
  fixed_parts = kind_parts a d true

  abbrev loose_parts : List Part
  loose_parts = kind_parts a d false

  in_kind : (fixed : Bool) (k : Key) (w : IsWantedAt a d k fixed) → IsIn k (part_keys (kind_parts a d fixed))
  in_kind fixed k w = in_below a d fixed (length a) w.place_is k (slice_get_within a w.place_is w.rule w.at) (has_key a d fixed w.place_is w.rule k w.at w.kind refl w.some)

  -- y is among the loose ones that don't come first
  y_after : x ≢ y → IsWantedAt a d y false → IsIn y (part_keys (filter (occurs (Some x) false) loose_parts))
  y_after apart w = in_filtered y (occurs (Some x) false) loose_parts (λ part e. test part e (same_key x part.key) refl) (in_kind false y w)
    where
      test : (part : Part) → part.key ≡ y → (t : Bool) → same_key x part.key ≡ t → (if same_key x part.key then false else true) ≡ true
      test part e true h = absurd (apart (same_key-true x part.key h ∙ e))
      test part e false h = ap (λ (t : Bool). if t then false else true) h

  x_front : IsWantedAt a d x false → IsIn x (part_keys (filter (occurs (Some x) true) loose_parts))
  x_front w = in_filtered x (occurs (Some x) true) loose_parts
      (λ part e. ap (λ (q : Key). if same_key x q then true else false) e ∙ ap (λ (t : Bool). if t then true else false) (same_key-refl x)) (in_kind false x w)

  occurs_before : x ≢ y → place a x ≤ place a y → IsPlacedAt a d x → IsPlacedAt a d y → OccursBefore x y level
  occurs_before apart le (inl (p, is_p, key_p)) (inl (q, is_q, key_q)) = by (nat_lt p.place_is q.place_is) refl
    where
      by : (t : Bool) → nat_lt p.place_is q.place_is ≡ t → OccursBefore x y level
      by true e =
          parts_left x y (fixed_parts ++ filter (occurs (Some x) true) loose_parts) (filter (occurs (Some x) false) loose_parts)
          (parts_left x y fixed_parts (filter (occurs (Some x) true) loose_parts)
          (before_below a d true (length a) p.place_is q.place_is x y (ltb-true p.place_is q.place_is e) (slice_get_within a q.place_is q.rule q.at)
          (has_key a d true p.place_is p.rule x p.at p.kind refl p.some) (has_key a d true q.place_is q.rule y q.at q.kind refl q.some)))
      by false e =
          let ge = ltb-false p.place_is q.place_is e in
          let same : p.place_is ≡ q.place_is = omega (arith, ge, le, is_p, is_q) in
          let rules : p.rule ≡ q.rule = same_Some p.rule q.rule (sym p.at ∙ ap (λ (i : ℕ). slice_get a i) same ∙ q.at) in
          absurd (apart (same_Some x y (sym key_p ∙ ap (λ (s : DRule). s.key) rules ∙ key_q)))
  occurs_before apart le (inl (p, is_p, key_p)) (inr (q, is_q)) =
      parts_split x y (fixed_parts ++ filter (occurs (Some x) true) loose_parts) (filter (occurs (Some x) false) loose_parts)
      (in_parts-left x fixed_parts (filter (occurs (Some x) true) loose_parts) (in_kind true x p)) (y_after apart q)
  occurs_before apart le (inr (p, is_p)) (inl (q, is_q, key_q)) = let within = slice_get_within a q.place_is q.rule q.at in absurd (omega (arith, le, is_p, is_q, within))
  occurs_before apart le (inr (p, is_p)) (inr (q, is_q)) =
      parts_split x y (fixed_parts ++ filter (occurs (Some x) true) loose_parts) (filter (occurs (Some x) false) loose_parts)
      (in_parts-right x fixed_parts (filter (occurs (Some x) true) loose_parts) (x_front p)) (y_after apart q)

  -- ---- y is late

  late_by : OccursBefore x y level → place b y < place b x → (late : IsLate (fixed_rules b) level) × (late.y ≡ y)
  late_by before less = by (placing b y are_b) (placing b x are_b)
    where
      at : rank (fixed_rules b) y < length (fixed_rules b) → rank (fixed_rules b) y < rank (fixed_rules b) x → (late : IsLate (fixed_rules b) level) × (late.y ≡ y)
      at within greater =
          let found = ranked (fixed_rules b) y within in (
            record {
              early = before.early;
              late = before.late;
              x = x;
              y = y;
              rule = found.0;
              following = before.following;
              is_x = before.is_x;
              is_y = before.is_y;
              has_rule = (contains_in (fixed_rules b) found.0 found.1, found.2);
              greater = greater;
            },
            refl,
          )

      by : Placing b y → Placing b x → (late : IsLate (fixed_rules b) level) × (late.y ≡ y)
      by (inl (is_y, within)) (inl (is_x, _)) = at within (omega (arith, is_y, is_x, less))
      by (inl (is_y, within)) (inr (is_x, last)) = at within (omega (arith, within, last))
      by (inr (is_y, last)) _ = let most = place_least b x in absurd (omega (arith, is_y, most, less))

  pub order_shown : is_turned a b y x ≡ true → pair_length f listed other a y x < too_long → ShowsAt a b level Order (Some y)
  order_shown turned short =
      let parts = turned_parts a b y x turned in
      let lt = parts.1 in
      late_by (occurs_before (λ same. let own = ap (place b) same in omega (arith, lt, own)) parts.0 (place_x short) (place_y short)) lt
