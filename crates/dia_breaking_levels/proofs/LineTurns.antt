-- The line of the order at a key is that of the first of the shortest levels in which another precedes it too early.
use Rattle.std.proofs.Common.{◌≡◌, ℕ, ◌+◌, ◌-◌, ◌<◌, ◌≤◌, Bool, true, false, List, length, Option, Some, None, refl, sym, ap, ◌∙◌, arith, inl, inr}
use Rattle.std.specs.Prelude.{◌⊎◌, min, ◌&&◌, ◌==◌, nat_le, nat_lt, position, slice_get, if◌then◌else◌}
use Rattle.std.specs.Option.{option_map_or}
use Rattle.std.proofs.lemmas.Bool.{lt-ltb, le-leb, leb-true, ltb-true, ltb-false}
use Rattle.std.proofs.lemmas.Option.{none-some, slice_get_past}
use Rattle.dia_wire.specs.declared.Key.{Key}
use Rattle.dia_book.specs.declared.DRule.{DRule}
use Rattle.dia_book.specs.declared.Slot.TheVariants as slot
use Rattle.dia_book.specs.Dictionary.{AreRules, is_fixed, slot_at, lists_key}
use Rattle.dia_book.proofs.Members.{find-is_some}
use Rattle.std.specs.Prelude.{is_some}
use Rattle.dia_valid.specs.Valid.{is_listed}
use Rattle.dia_valid.proofs.Entries.{at_position}
use Rattle.dia_valid.specs.Rules.{rule_of}
use Rattle.dia_breaking_levels.specs.declared.floor.Floor.{Floor}
use Rattle.dia_breaking_levels.specs.declared.line.Reason.TheVariants.{Order}
use Rattle.dia_breaking_levels.specs.declared.offers.Offer.{Offer}
use Rattle.dia_breaking_levels.specs.declared.offers.Offers.{Offers}
use Rattle.dia_breaking_levels.specs.Exact.{turn, MayStandBefore, IsOrderAt, line_of_offer, unless_long}
use Rattle.dia_breaking_levels.specs.LevelTests.{too_long, capped, has_room, swapped, many, filler}
use Rattle.dia_breaking_levels.specs.Offers.{nothing, weight_of, weight, own_index, offer_of, node_at, weight_at, IsOneWithin, held, AreOfferedFrom, IsOfOne, IsOtherFrom, AreTrueFrom}
use Rattle.dia_breaking_levels.specs.OrderTests.{is_turned, beyond, by_wild, with_others, pair_length}
use Rattle.dia_breaking_levels.specs.Places.{place_of, place, index}
use Rattle.dia_breaking_levels.proofs.ExactLines.{indexed, unindexed, a_place}

-- ---- rules and places

pub ruled : (rules : List DRule) (x : Key) → is_listed rules x ≡ true → (r : DRule) × (rule_of rules x ≡ Some r)
ruled rules x e = by (rule_of rules x) refl
  where
    by : (o : Option DRule) → rule_of rules x ≡ o → (r : DRule) × (rule_of rules x ≡ Some r)
    by None h = absurd (let f : true ≡ false = sym e ∙ sym (find-is_some (lists_key x) rules) ∙ ap (λ (o : Option DRule). is_some o) h in cc)
    by (Some r) h = (r, h)

pub ruled_is : (rules : List DRule) (x : Key) (r : DRule) → rule_of rules x ≡ Some r → is_listed rules x ≡ true
ruled_is rules x r h = sym (find-is_some (lists_key x) rules) ∙ ap (λ (o : Option DRule). is_some o) h

pub unruled_is : (rules : List DRule) (x : Key) → rule_of rules x ≡ None → is_listed rules x ≡ false
unruled_is rules x h = sym (find-is_some (lists_key x) rules) ∙ ap (λ (o : Option DRule). is_some o) h

pub not_ruled : (rules : List DRule) (x : Key) → is_listed rules x ≡ false → rule_of rules x ≡ None
not_ruled rules x e = by (rule_of rules x) refl
  where
    by : (o : Option DRule) → rule_of rules x ≡ o → rule_of rules x ≡ None
    by None h = h
    by (Some r) h = absurd (let f : true ≡ false = sym (ruled_is rules x r h) ∙ e in cc)

pub unlisted_after : (rules : List DRule) (x : Key) → is_listed rules x ≡ false → place rules x ≡ length rules
unlisted_after rules x none = by (position (lists_key x) rules) refl
  where
    by : (o : Option ℕ) → position (lists_key x) rules ≡ o → place rules x ≡ length rules
    by None p = ap (λ (q : Option ℕ). place_of (length rules) (option_map_or (slot_at rules) q slot.Unlisted)) p
    by (Some i) p = let r = at_position (lists_key x) rules i p in absurd (let f : true ≡ false = sym (a_place rules x i r.0 p r.1) ∙ none in cc)

pub place_least : (rules : List DRule) (k : Key) → place rules k ≤ length rules
place_least rules k = by (position (lists_key k) rules) refl
  where
    within : (i : ℕ) (r : DRule) → slice_get rules i ≡ Some r → i ≤ length rules
    within i r at = here (nat_lt i (length rules)) refl
      where
        here : (t : Bool) → nat_lt i (length rules) ≡ t → i ≤ length rules
        here true e = let lt = ltb-true i (length rules) e in omega (arith, lt)
        here false e = absurd (none-some r (sym (slice_get_past rules i (ltb-false i (length rules) e)) ∙ at))

    slot_within : (i : ℕ) (b : Bool) → i ≤ length rules → place_of (length rules) (if b then slot.Fixed i else slot.Loose i) ≤ length rules
    slot_within i true le = le
    slot_within i false le = omega arith

    by : (o : Option ℕ) → position (lists_key k) rules ≡ o → place rules k ≤ length rules
    by None p =
        let there : place rules k ≡ length rules = ap (λ (q : Option ℕ). place_of (length rules) (option_map_or (slot_at rules) q slot.Unlisted)) p in
        omega (arith, there)
    by (Some i) p =
        let r = at_position (lists_key k) rules i p in
        let there : place rules k ≡ place_of (length rules) (if is_fixed r.0 then slot.Fixed i else slot.Loose i) =
        ap (λ (q : Option ℕ). place_of (length rules) (option_map_or (slot_at rules) q slot.Unlisted)) p
        ∙ ap (λ (o : Option DRule). place_of (length rules) (option_map_or (λ rule. if is_fixed rule then slot.Fixed i else slot.Loose i) o slot.Unlisted)) r.1 in
        let le = slot_within i (is_fixed r.0) (within i r.0 r.1) in
        omega (arith, there, le)

test_parts : (t u : Bool) → (t && u) ≡ true → (t ≡ true) × (u ≡ true)
test_parts true true h = (refl, refl)
test_parts true false h = absurd (let g : false ≡ true = h in cc)
test_parts false u h = absurd (let g : false ≡ true = h in cc)

pub turned_parts : (a b : List DRule) (y x : Key) → is_turned a b y x ≡ true → (place a x ≤ place a y) × (place b y < place b x)
turned_parts a b y x h =
    let parts = test_parts (nat_le (place a x) (place a y)) (nat_lt (place b y) (place b x)) h in
    (leb-true (place a x) (place a y) parts.0, ltb-true (place b y) (place b x) parts.1)

pub turned_is : (a b : List DRule) (y x : Key) → place a x ≤ place a y → place b y < place b x → is_turned a b y x ≡ true
turned_is a b y x le lt = ap (λ (v : Bool). v && nat_lt (place b y) (place b x)) (le-leb (place a x) (place a y) le) ∙ lt-ltb (place b y) (place b x) lt

-- an index is below 2 ^ 64
small_index : (a b : List DRule) (x : Key) → AreRules a → AreRules b → own_index a b x < 18446744073709551616
small_index a b x are_a are_b = by (is_listed a x) refl
  where
    within : (rules : List DRule) → AreRules rules → (t : Bool) → is_listed rules x ≡ t → index rules x < 18446744073709551616
    within rules are true e = let lt = (indexed rules x e).3 in let few = are.few in omega (arith, lt, few)
    within rules are false e = let last = unindexed rules x e in let few = are.few in omega (arith, last, few)

    by : (t : Bool) → is_listed a x ≡ t → own_index a b x < 18446744073709551616
    by true e = let own : own_index a b x ≡ index a x = ap (λ (t : Bool). if t then index a x else index b x) e in let lt = within a are_a true e in omega (arith, own, lt)
    by false e = let own : own_index a b x ≡ index b x = ap (λ (t : Bool). if t then index a x else index b x) e in let lt = within b are_b (is_listed b x) refl in omega (arith, own, lt)

-- ---- lengths of levels

pub others_more : (base filler n p q : ℕ) (o : Option DRule) → p ≤ q → with_others base filler n p o ≤ with_others base filler n q o
others_more base filler n p q None le = by (n == 0)
  where
    by : (t : Bool) → (if t then swapped base 0 p else too_long) ≤ (if t then swapped base 0 q else too_long)
    by true = omega (arith, le)
    by false = omega arith
others_more base filler n p q (Some w) le = by (has_room n w.max)
  where
    by : (t : Bool) → (if t then swapped base (many (min n w.min) filler) p else too_long) ≤ (if t then swapped base (many (min n w.min) filler) q else too_long)
    by true = omega (arith, le)
    by false = omega arith

others_strict : (base filler n p q : ℕ) (o : Option DRule) → p < q → with_others base filler n q o < too_long → with_others base filler n p o < with_others base filler n q o
others_strict base filler n p q None lt = by (n == 0)
  where
    by : (t : Bool) → (if t then swapped base 0 q else too_long) < too_long → (if t then swapped base 0 p else too_long) < (if t then swapped base 0 q else too_long)
    by true h = omega (arith, lt, h)
    by false h = absurd (omega (arith, h))
others_strict base filler n p q (Some w) lt = by (has_room n w.max)
  where
    by : (t : Bool) → (if t then swapped base (many (min n w.min) filler) q else too_long) < too_long
        → (if t then swapped base (many (min n w.min) filler) p else too_long) < (if t then swapped base (many (min n w.min) filler) q else too_long)
    by true h = omega (arith, lt, h)
    by false h = absurd (omega (arith, h))

others_long : (base filler n p : ℕ) (o : Option DRule) → too_long ≤ p → with_others base filler n p o ≡ too_long
others_long base filler n p None long = by (n == 0)
  where
    by : (t : Bool) → (if t then swapped base 0 p else too_long) ≡ too_long
    by true = omega (arith, long)
    by false = refl
others_long base filler n p (Some w) long = by (has_room n w.max)
  where
    by : (t : Bool) → (if t then swapped base (many (min n w.min) filler) p else too_long) ≡ too_long
    by true = omega (arith, long)
    by false = refl

-- the lesser weight has no greater length, and of one length the lesser turn
weight_parts : (n m t u : ℕ) → u < 18446744073709551616 → weight_of n t ≤ weight_of m u → (n < m) ⊎ ((n ≡ m) × (t ≤ u))
weight_parts n m t u small le = by (nat_lt n m) refl
  where
    by : (b : Bool) → nat_lt n m ≡ b → (n < m) ⊎ ((n ≡ m) × (t ≤ u))
    by true e = inl (ltb-true n m e)
    by false e = let ge = ltb-false n m e in inr (omega (arith, ge, small, le), omega (arith, ge, small, le))

module _ (f : Floor) (listed other : Key → ℕ) (a b : List DRule) (y : Key) where
  -- the least level with y and one AVP more of a length, where w of these come by the wildcard
  abbrev pub pair_at : ℕ → ℕ → ℕ
  pair_at w n = with_others f.base (filler f) (w + by_wild (rule_of a y)) (capped (n + beyond listed other y (rule_of a y))) f.wild

  pub pair_listed : (x : Key) → is_listed a x ≡ true → pair_length f listed other a y x ≡ pair_at 0 (beyond listed other x (rule_of a x))
  pair_listed x e =
      ap (λ (o : Option DRule). with_others f.base (filler f) (by_wild o + by_wild (rule_of a y)) (capped (beyond listed other x (rule_of a x) + beyond listed other y (rule_of a y))) f.wild)
      (ruled a x e).1

  pub pair_other : (x : Key) → is_listed a x ≡ false → pair_length f listed other a y x ≡ pair_at 1 (beyond listed other x (rule_of a x))
  pair_other x e =
      ap (λ (o : Option DRule). with_others f.base (filler f) (by_wild o + by_wild (rule_of a y)) (capped (beyond listed other x (rule_of a x) + beyond listed other y (rule_of a y))) f.wild)
      (not_ruled a x e)

  pair_top : (w : ℕ) → pair_at w too_long ≡ too_long
  pair_top w = others_long f.base (filler f) (w + by_wild (rule_of a y)) (capped (too_long + beyond listed other y (rule_of a y))) f.wild (omega arith)

  pair_more : (w n m : ℕ) → n ≤ m → pair_at w n ≤ pair_at w m
  pair_more w n m le =
      others_more f.base (filler f) (w + by_wild (rule_of a y)) (capped (n + beyond listed other y (rule_of a y))) (capped (m + beyond listed other y (rule_of a y))) f.wild (omega (arith, le))

  pair_strict : (w n m : ℕ) → n < m → pair_at w m < too_long → pair_at w n < pair_at w m
  pair_strict w n m lt room = by (nat_lt (m + beyond listed other y (rule_of a y)) too_long) refl
    where
      by : (t : Bool) → nat_lt (m + beyond listed other y (rule_of a y)) too_long ≡ t → pair_at w n < pair_at w m
      by true e =
          let own = ltb-true (m + beyond listed other y (rule_of a y)) too_long e in
          others_strict f.base (filler f) (w + by_wild (rule_of a y)) (capped (n + beyond listed other y (rule_of a y))) (capped (m + beyond listed other y (rule_of a y))) f.wild
          (omega (arith, lt, own)) room
      by false e =
          let own = ltb-false (m + beyond listed other y (rule_of a y)) too_long e in
          let long = others_long f.base (filler f) (w + by_wild (rule_of a y)) (capped (m + beyond listed other y (rule_of a y))) f.wild (omega (arith, own)) in
          absurd (omega (arith, long, room))

  -- offers of one kind, by their weights
  pub pair_by_weight : (w n m t u : ℕ) → u < 18446744073709551616 → weight_of n t ≤ weight_of m u → (pair_at w n ≤ pair_at w m) × (pair_at w n ≡ pair_at w m → pair_at w m < too_long → t ≤ u)
  pair_by_weight w n m t u small le = by (weight_parts n m t u small le)
    where
      by : (n < m) ⊎ ((n ≡ m) × (t ≤ u)) → (pair_at w n ≤ pair_at w m) × (pair_at w n ≡ pair_at w m → pair_at w m < too_long → t ≤ u)
      by (inl lt) = (pair_more w n m (omega (arith, lt)), λ same room. let less = pair_strict w n m lt room in absurd (omega (arith, less, same)))
      by (inr is) = (let same = is.0 in pair_more w n m (omega (arith, same)), λ same room. is.1)

  -- ---- the line of the two kinds of offers

  module _ (outer : Option Key) (are_a : AreRules a) (are_b : AreRules b) where
    -- the offer is nothing, or of a key of this kind that may precede y
    abbrev pub IsOfKind : Bool → Offer → Type 0
    IsOfKind t o = (o ≡ nothing) ⊎ ((x : Key) × (o ≡ offer_of listed other a b x) × MayStandBefore a b outer y x × (is_listed a x ≡ t))

    -- and none of these weighs less
    abbrev pub IsLeastOfKind : Bool → Offer → Type 0
    IsLeastOfKind t o = (z : Key) → MayStandBefore a b outer y z → is_listed a z ≡ t → weight o ≤ weight (offer_of listed other a b z)

    not_nothing : (w : ℕ) (o : Offer) (P : Type 0) → o ≡ nothing → pair_at w o.length < too_long → P
    not_nothing w o P is room =
        let long : pair_at w o.length ≡ too_long = ap (λ (q : Offer). pair_at w q.length) is ∙ pair_top w in
        absurd (omega (arith, long, room))

    turns_listed : (x z : Key) → is_listed a x ≡ true → is_listed a z ≡ true → own_index a b x ≤ own_index a b z → turn a b x ≤ turn a b z
    turns_listed x z e g le =
        let one : own_index a b x ≡ index a x = ap (λ (t : Bool). if t then index a x else index b x) e in
        let two : own_index a b z ≡ index a z = ap (λ (t : Bool). if t then index a z else index b z) g in
        let three : turn a b x ≡ index a x = ap (λ (t : Bool). if t then index a x else length a + index b x) e in
        let four : turn a b z ≡ index a z = ap (λ (t : Bool). if t then index a z else length a + index b z) g in
        omega (arith, one, two, three, four, le)

    turns_other : (x z : Key) → is_listed a x ≡ false → is_listed a z ≡ false → own_index a b x ≤ own_index a b z → turn a b x ≤ turn a b z
    turns_other x z e g le =
        let one : own_index a b x ≡ index b x = ap (λ (t : Bool). if t then index a x else index b x) e in
        let two : own_index a b z ≡ index b z = ap (λ (t : Bool). if t then index a z else index b z) g in
        let three : turn a b x ≡ length a + index b x = ap (λ (t : Bool). if t then index a x else length a + index b x) e in
        let four : turn a b z ≡ length a + index b z = ap (λ (t : Bool). if t then index a z else length a + index b z) g in
        omega (arith, one, two, three, four, le)

    turns_apart : (x z : Key) → is_listed a x ≡ true → is_listed a z ≡ false → turn a b x ≤ turn a b z
    turns_apart x z e g =
        let three : turn a b x ≡ index a x = ap (λ (t : Bool). if t then index a x else length a + index b x) e in
        let four : turn a b z ≡ length a + index b z = ap (λ (t : Bool). if t then index a z else length a + index b z) g in
        let lt = (indexed a x e).3 in
        omega (arith, three, four, lt)

    -- what is offered of listed keys, and of others, bounds each level
    listed_within : (o : Offer) → IsLeastOfKind true o → (z : Key) → MayStandBefore a b outer y z → is_listed a z ≡ true → pair_at 0 o.length ≤ pair_length f listed other a y z
    listed_within o low z may e =
        let le = (pair_by_weight 0 o.length (beyond listed other z (rule_of a z)) o.turn (own_index a b z) (small_index a b z are_a are_b) (low z may e)).0 in
        omega (arith, le, pair_listed z e)

    other_within : (q : Offer) → IsLeastOfKind false q → (z : Key) → MayStandBefore a b outer y z → is_listed a z ≡ false → pair_at 1 q.length ≤ pair_length f listed other a y z
    other_within q low z may e =
        let le = (pair_by_weight 1 q.length (beyond listed other z (rule_of a z)) q.turn (own_index a b z) (small_index a b z are_a are_b) (low z may e)).0 in
        omega (arith, le, pair_other z e)

    -- the line with a listed key, which no other undercuts
    pub listed_line : (o : Offer) → IsOfKind true o → IsLeastOfKind true o → ((z : Key) → MayStandBefore a b outer y z → is_listed a z ≡ false → pair_at 0 o.length ≤ pair_length f listed other a y z)
        → IsOrderAt f listed other a b outer y (unless_long (line_of_offer f listed other a y 0 o))
    listed_line o kind low others = by (nat_lt (pair_at 0 o.length) too_long) refl kind
      where
        all_within : (z : Key) → MayStandBefore a b outer y z → (t : Bool) → is_listed a z ≡ t → pair_at 0 o.length ≤ pair_length f listed other a y z
        all_within z may true e = listed_within o low z may e
        all_within z may false e = others z may e

        first : (x : Key) → o ≡ offer_of listed other a b x → is_listed a x ≡ true → pair_at 0 o.length < too_long → pair_length f listed other a y x ≡ pair_at 0 o.length → (z : Key)
            → MayStandBefore a b outer y z → (t : Bool) → is_listed a z ≡ t
            → (pair_length f listed other a y x ≤ pair_length f listed other a y z) × (pair_length f listed other a y x ≡ pair_length f listed other a y z → turn a b x ≤ turn a b z)
        first x is e room own z may true g =
            let by_weight = pair_by_weight 0 o.length (beyond listed other z (rule_of a z)) o.turn (own_index a b z) (small_index a b z are_a are_b) (low z may g) in
            let le = by_weight.0 in
            let pair = pair_listed z g in (
              omega (arith, le, pair, own),
              λ same.
                  let turns = by_weight.1 (omega (arith, same, pair, own)) (omega (arith, same, pair, own, room)) in
                  let index_is : o.turn ≡ own_index a b x = ap (λ (q : Offer). q.turn) is in
                  turns_listed x z e g (omega (arith, turns, index_is)),
            )
        first x is e room own z may false g = (let le = others z may g in omega (arith, le, own), λ same. turns_apart x z e g)

        by : (t : Bool) → nat_lt (pair_at 0 o.length) too_long ≡ t → IsOfKind true o → IsOrderAt f listed other a b outer y (if t then Some (line_of_offer f listed other a y 0 o) else None)
        by true e (inl is) = not_nothing 0 o (IsOrderAt f listed other a b outer y (Some (line_of_offer f listed other a y 0 o))) is (ltb-true (pair_at 0 o.length) too_long e)
        by true e (inr of_x) =
            let room = ltb-true (pair_at 0 o.length) too_long e in
            let own : pair_length f listed other a y of_x.0 ≡ pair_at 0 o.length = pair_listed of_x.0 of_x.3 ∙ sym (ap (λ (q : Offer). pair_at 0 q.length) of_x.1) in (
              of_x.0,
              of_x.2,
              λ z may. first of_x.0 of_x.1 of_x.3 room own z may (is_listed a z) refl,
              omega (arith, own, room),
              ap (λ (k : Option Key). record { reason = Order; key = Some y; following = k; length = pair_at 0 o.length }) (ap (λ (q : Offer). q.key) of_x.1)
                  ∙ ap (λ (n : ℕ). record { reason = Order; key = Some y; following = Some of_x.0; length = n }) (sym own),
            )
        by false e kind = λ z may. let le = all_within z may (is_listed a z) refl in let long = ltb-false (pair_at 0 o.length) too_long e in omega (arith, le, long)

    -- the line with another key, which is shorter than with any that is listed
    pub other_line : (o q : Offer) → IsLeastOfKind true o → IsOfKind false q → IsLeastOfKind false q → pair_at 1 q.length < pair_at 0 o.length
        → IsOrderAt f listed other a b outer y (unless_long (line_of_offer f listed other a y 1 q))
    other_line o q low kind low_too lt = by (nat_lt (pair_at 1 q.length) too_long) refl kind
      where
        first : (x : Key) → q ≡ offer_of listed other a b x → is_listed a x ≡ false → pair_at 1 q.length < too_long → pair_length f listed other a y x ≡ pair_at 1 q.length → (z : Key)
            → MayStandBefore a b outer y z → (t : Bool) → is_listed a z ≡ t
            → (pair_length f listed other a y x ≤ pair_length f listed other a y z) × (pair_length f listed other a y x ≡ pair_length f listed other a y z → turn a b x ≤ turn a b z)
        first x is e room own z may true g =
            let le = listed_within o low z may g in
            (omega (arith, le, lt, own), λ same. absurd (omega (arith, le, lt, own, same)))
        first x is e room own z may false g =
            let by_weight = pair_by_weight 1 q.length (beyond listed other z (rule_of a z)) q.turn (own_index a b z) (small_index a b z are_a are_b) (low_too z may g) in
            let le = by_weight.0 in
            let pair = pair_other z g in (
              omega (arith, le, pair, own),
              λ same.
                  let turns = by_weight.1 (omega (arith, same, pair, own)) (omega (arith, same, pair, own, room)) in
                  let index_is : q.turn ≡ own_index a b x = ap (λ (p : Offer). p.turn) is in
                  turns_other x z e g (omega (arith, turns, index_is)),
            )

        all_within : (z : Key) → MayStandBefore a b outer y z → (t : Bool) → is_listed a z ≡ t → pair_at 1 q.length ≤ pair_length f listed other a y z
        all_within z may true e = let le = listed_within o low z may e in omega (arith, le, lt)
        all_within z may false e = other_within q low_too z may e

        by : (t : Bool) → nat_lt (pair_at 1 q.length) too_long ≡ t → IsOfKind false q → IsOrderAt f listed other a b outer y (if t then Some (line_of_offer f listed other a y 1 q) else None)
        by true e (inl is) = not_nothing 1 q (IsOrderAt f listed other a b outer y (Some (line_of_offer f listed other a y 1 q))) is (ltb-true (pair_at 1 q.length) too_long e)
        by true e (inr of_x) =
            let room = ltb-true (pair_at 1 q.length) too_long e in
            let own : pair_length f listed other a y of_x.0 ≡ pair_at 1 q.length = pair_other of_x.0 of_x.3 ∙ sym (ap (λ (p : Offer). pair_at 1 p.length) of_x.1) in (
              of_x.0,
              of_x.2,
              λ z may. first of_x.0 of_x.1 of_x.3 room own z may (is_listed a z) refl,
              omega (arith, own, room),
              ap (λ (k : Option Key). record { reason = Order; key = Some y; following = k; length = pair_at 1 q.length }) (ap (λ (p : Offer). p.key) of_x.1)
                  ∙ ap (λ (n : ℕ). record { reason = Order; key = Some y; following = Some of_x.0; length = n }) (sym own),
            )
        by false e kind = λ z may. let le = all_within z may (is_listed a z) refl in let long = ltb-false (pair_at 1 q.length) too_long e in omega (arith, le, long)

    -- ---- what is found in the offers

    module _ (offers : Offers) (true_from : AreTrueFrom listed other a b outer (place b y + 1) offers) (offered : AreOfferedFrom listed other a b outer (place b y + 1) offers) where
      pub found_listed : (o : Offer) → place a y ≤ length a → IsOneWithin offers.nodes.items (length a + 1) (length a + 1 + place a y + 1) o → IsOfKind true o
      found_listed o within (inl none) = inl none
      found_listed o within (inr one) =
          let from = one.1 in
          let to = one.2 in
          at (one.0 - (length a + 1)) (omega (arith, from)) (true_from.0 (one.0 - (length a + 1)) (omega (arith, to, within)))
        where
          at : (p : ℕ) → length a + 1 + p ≡ one.0 → (node_at offers.nodes.items (length a + 1 + p) ≡ nothing) ⊎
              ((x : Key) × IsOfOne listed other a b outer (place b y + 1) (node_at offers.nodes.items (length a + 1 + p)) x × (is_listed a x ≡ true) × (place a x ≡ p)) → IsOfKind true o
          at p same (inl none) = inl (one.3 ∙ ap (node_at offers.nodes.items) (sym same) ∙ none)
          at p same (inr own) =
              let to = one.2 in
              let there = own.3 in
              let following = own.1.2 in
              inr (own.0, one.3 ∙ ap (node_at offers.nodes.items) (sym same) ∙ own.1.0, (own.1.1, turned_is a b y own.0 (omega (arith, to, same, there)) (omega (arith, following))), own.2)

      pub least_listed : (o : Offer) → ((i : ℕ) → length a + 1 ≤ i → i < length a + 1 + place a y + 1 → weight o ≤ weight_at offers.nodes.items i) → IsLeastOfKind true o
      least_listed o low z may e =
          let parts = turned_parts a b y z may.1 in
          let before = parts.0 in
          let following = parts.1 in
          let le = low (length a + 1 + place a z) (omega arith) (omega (arith, before)) in
          let own : weight (held a offers z) ≡ weight_at offers.nodes.items (length a + 1 + place a z) =
          ap (λ (r : Option DRule). weight (option_map_or (λ rule. node_at offers.nodes.items (length a + 1 + place a z)) r offers.other)) (ruled a z e).1 in
          let is = offered z may.0 (omega (arith, following)) in
          omega (arith, le, own, is)

      pub found_other : length a ≤ place a y → IsOfKind false offers.other
      found_other last = by true_from.1
        where
          by : IsOtherFrom listed other a b outer (place b y + 1) offers.other → IsOfKind false offers.other
          by (inl none) = inl none
          by (inr own) =
              let there = unlisted_after a own.0 own.2 in
              let following = own.1.2 in
              inr (own.0, own.1.0, (own.1.1, turned_is a b y own.0 (omega (arith, there, last)) (omega (arith, following))), own.2)

      pub least_other : IsLeastOfKind false offers.other
      least_other z may e =
          let parts = turned_parts a b y z may.1 in
          let following = parts.1 in
          let own : weight (held a offers z) ≡ weight offers.other = ap (λ (r : Option DRule). weight (option_map_or (λ rule. node_at offers.nodes.items (length a + 1 + place a z)) r offers.other))
          (not_ruled a z e) in
          let is = offered z may.0 (omega (arith, following)) in
          omega (arith, own, is)

      -- a key that the first definition lists as fixed follows none that it doesn't list
      pub none_other : (o : Offer) → place a y < length a → (z : Key) → MayStandBefore a b outer y z → is_listed a z ≡ false → pair_at 0 o.length ≤ pair_length f listed other a y z
      none_other o within z may e =
          let before = (turned_parts a b y z may.1).0 in
          let there = unlisted_after a z e in
          absurd (omega (arith, before, there, within))

      pub other_least : (n : ℕ) → n ≤ pair_at 1 offers.other.length → (z : Key) → MayStandBefore a b outer y z → is_listed a z ≡ false → n ≤ pair_length f listed other a y z
      other_least n le z may e = let low = other_within offers.other least_other z may e in omega (arith, le, low)
