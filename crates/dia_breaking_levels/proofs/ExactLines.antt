-- Two definitions have one list of lines.
use Rattle.std.proofs.Common.{◌≡◌, ℕ, ◌+◌, ◌-◌, ◌<◌, Bool, true, false, List, [], ◌∷◌, ◌++◌, length, Option, Some, None, refl, sym, ap, ◌∙◌, arith, inl, inr}
use Rattle.std.specs.Prelude.{position, slice_get, option_and_then, is_some, find, if◌then◌else◌}
use Rattle.std.specs.Option.{option_map_or}
use Rattle.std.proofs.lemmas.Option.{none-some, same_Some, slice_get_past}
use Rattle.std.proofs.lemmas.Bool.{ltb-true, ltb-false}
use Rattle.std.specs.Prelude.{nat_lt}
use Rattle.dia_wire.specs.declared.Key.{Key}
use Rattle.dia_book.specs.declared.DRule.{DRule}
use Rattle.dia_book.specs.declared.Slot.TheVariants as slot
use Rattle.dia_book.specs.Dictionary.{is_fixed, lists_key, slot_at}
use Rattle.dia_book.proofs.Members.{find-is_some}
use Rattle.dia_book.proofs.LookUpsByName.{find-place}
use Rattle.dia_valid.specs.Valid.{is_listed}
use Rattle.dia_valid.proofs.Entries.{at_position}
use Rattle.dia_breaking_levels.specs.declared.floor.Floor.{Floor}
use Rattle.dia_breaking_levels.specs.declared.line.Line.{Line}
use Rattle.dia_breaking_levels.specs.declared.line.Reason.TheVariants.{Order}
use Rattle.dia_breaking_levels.specs.LevelTests.{swapped, is_outside, lines_of, filler}
use Rattle.dia_breaking_levels.specs.Exact.{floor_between, AreCountLines, turn, MayStandBefore, IsFirstBefore, IsOrderAt, IsOrderOf, with_line, AreOrderLines, AreLevelLines}
use Rattle.dia_breaking_levels.specs.Offers.{MayCome}
use Rattle.dia_breaking_levels.specs.OrderTests.{pair_length}
use Rattle.dia_breaking_levels.specs.Places.{index_of, index}
use Rattle.dia_breaking_levels.specs.Steps.{greatest, steps, IsLeastOver, IsLeastMost, IsLongUnbounded}
use Rattle.dia_breaking_levels.specs.Strangers.{needed}
use Rattle.dia_breaking_levels.proofs.Places.{key_of}
use Rattle.dia_breaking_levels.proofs.TakenBounds.{taken_one}

-- ---- counts

over_one : (listed : Key → ℕ) (f : Floor) (a b : List DRule) (max n m : ℕ) → IsLeastOver listed f a b max n → IsLeastOver listed f a b max m → n ≡ m
over_one listed f a b max n m first second =
    first.1 ∙ ap (swapped f.base 0) (taken_one (max + 1 - needed b a) first.0 second.0 (steps listed (filler f) f.outer b (max + 1 - needed b a) a) first.2 first.3 second.2 second.3) ∙ sym second.1

most_one : (listed : Key → ℕ) (f : Floor) (a b : List DRule) (n m : ℕ) → IsLeastMost listed f a b n → IsLongUnbounded b n → IsLeastMost listed f a b m → IsLongUnbounded b m → n ≡ m
most_one listed f a b n m first long second long_too = by (greatest b) refl
  where
    by : (o : Option ℕ) → greatest b ≡ o → n ≡ m
    by None e = long e ∙ sym (long_too e)
    by (Some max) e = over_one listed f a b max n m (first max e) (second max e)

pub counts_one : (listed other : Key → ℕ) (keys : List Key) (a b : List DRule) (first second : List Line) → AreCountLines listed other keys a b first → AreCountLines listed other keys a b second
    → first ≡ second
counts_one listed other keys a b first second one two =
    let f = floor_between listed other keys a b in
    one.3 ∙ ap (λ (most : ℕ). lines_of f most listed other a b) (most_one listed f a b one.0 two.0 one.1 one.2 two.1 two.2) ∙ sym two.3

-- ---- turns

index_at : (rules : List DRule) (x : Key) (i : ℕ) (r : DRule) → position (lists_key x) rules ≡ Some i → slice_get rules i ≡ Some r → index rules x ≡ i
index_at rules x i r p at =
    ap (λ (q : Option ℕ). index_of (length rules) (option_map_or (slot_at rules) q slot.Unlisted)) p
    ∙ ap (λ (o : Option DRule). index_of (length rules) (option_map_or (λ rule. if is_fixed rule then slot.Fixed i else slot.Loose i) o slot.Unlisted)) at ∙ by (is_fixed r)
  where
    by : (t : Bool) → index_of (length rules) (if t then slot.Fixed i else slot.Loose i) ≡ i
    by true = refl
    by false = refl

no_place : (rules : List DRule) (x : Key) → position (lists_key x) rules ≡ None → is_listed rules x ≡ false
no_place rules x p =
    sym (find-is_some (lists_key x) rules) ∙ ap (λ (o : Option DRule). is_some o) (find-place (lists_key x) rules) ∙ ap (λ (q : Option ℕ). is_some (option_and_then (slice_get rules) q)) p

pub a_place : (rules : List DRule) (x : Key) (i : ℕ) (r : DRule) → position (lists_key x) rules ≡ Some i → slice_get rules i ≡ Some r → is_listed rules x ≡ true
a_place rules x i r p at =
    sym (find-is_some (lists_key x) rules) ∙ ap (λ (o : Option DRule). is_some o) (find-place (lists_key x) rules) ∙ ap (λ (q : Option ℕ). is_some (option_and_then (slice_get rules) q)) p
    ∙ ap (λ (o : Option DRule). is_some o) at

-- a listed key's index is that of its rule
pub indexed : (rules : List DRule) (x : Key) → is_listed rules x ≡ true → (r : DRule) × (slice_get rules (index rules x) ≡ Some r) × (r.key ≡ Some x) × (index rules x < length rules)
indexed rules x listed = by (position (lists_key x) rules) refl
  where
    within : (i : ℕ) (r : DRule) → slice_get rules i ≡ Some r → (t : Bool) → nat_lt i (length rules) ≡ t → i < length rules
    within i r at true e = ltb-true i (length rules) e
    within i r at false e = absurd (none-some r (sym (slice_get_past rules i (ltb-false i (length rules) e)) ∙ at))

    by : (o : Option ℕ) → position (lists_key x) rules ≡ o → (r : DRule) × (slice_get rules (index rules x) ≡ Some r) × (r.key ≡ Some x) × (index rules x < length rules)
    by None p = absurd (let f : true ≡ false = sym listed ∙ no_place rules x p in cc)
    by (Some i) p =
        let r = at_position (lists_key x) rules i p in
        let same = index_at rules x i r.0 p r.1 in
        let lt = within i r.0 r.1 (nat_lt i (length rules)) refl in
        (r.0, ap (slice_get rules) same ∙ r.1, key_of x r.0.key r.2, omega (arith, same, lt))

-- that of another is after them all
pub unindexed : (rules : List DRule) (x : Key) → is_listed rules x ≡ false → index rules x ≡ length rules
unindexed rules x none = by (position (lists_key x) rules) refl
  where
    by : (o : Option ℕ) → position (lists_key x) rules ≡ o → index rules x ≡ length rules
    by None p = ap (λ (q : Option ℕ). index_of (length rules) (option_map_or (slot_at rules) q slot.Unlisted)) p
    by (Some i) p = let r = at_position (lists_key x) rules i p in absurd (let f : true ≡ false = sym (a_place rules x i r.0 p r.1) ∙ none in cc)

-- two keys of one rule
index_one : (rules : List DRule) (x z : Key) → is_listed rules x ≡ true → is_listed rules z ≡ true → index rules x ≡ index rules z → x ≡ z
index_one rules x z lists lists_too same =
    let r = indexed rules x lists in
    let s = indexed rules z lists_too in
    let one : r.0 ≡ s.0 = same_Some r.0 s.0 (sym r.1 ∙ ap (slice_get rules) same ∙ s.1) in
    same_Some x z (sym r.2 ∙ ap (λ (q : DRule). q.key) one ∙ s.2)

turn_listed : (a b : List DRule) (x : Key) → is_listed a x ≡ true → turn a b x ≡ index a x
turn_listed a b x e = ap (λ (t : Bool). if t then index a x else length a + index b x) e

turn_other : (a b : List DRule) (x : Key) → is_listed a x ≡ false → turn a b x ≡ length a + index b x
turn_other a b x e = ap (λ (t : Bool). if t then index a x else length a + index b x) e

-- the key that neither lists
outer_is : (a b : List DRule) (outer : Option Key) (x : Key) → MayCome a b outer x → is_listed a x ≡ false → is_listed b x ≡ false → outer ≡ Some x
outer_is a b outer x (inl e) none none_b = absurd (let f : true ≡ false = sym e ∙ none in cc)
outer_is a b outer x (inr (inl e)) none none_b = absurd (let f : true ≡ false = sym e ∙ none_b in cc)
outer_is a b outer x (inr (inr e)) none none_b = e

-- no two keys have one turn
turn_one : (a b : List DRule) (outer : Option Key) (x z : Key) → MayCome a b outer x → MayCome a b outer z → turn a b x ≡ turn a b z → x ≡ z
turn_one a b outer x z may may_too same = by (is_listed a x) refl (is_listed a z) refl
  where
    beyond_all : (x z : Key) → is_listed a x ≡ true → is_listed a z ≡ false → turn a b x ≡ turn a b z → x ≡ z
    beyond_all x z e g same =
        let first = turn_listed a b x e in
        let second = turn_other a b z g in
        let r = indexed a x e in
        let lt = r.3 in
        absurd (omega (arith, first, second, lt, same))

    others : (t : Bool) → is_listed b x ≡ t → (u : Bool) → is_listed b z ≡ u → is_listed a x ≡ false → is_listed a z ≡ false → index b x ≡ index b z → x ≡ z
    others true e true g none none_too one = index_one b x z e g one
    others true e false g none none_too one = let lt = (indexed b x e).3 in let last = unindexed b z g in absurd (omega (arith, lt, last, one))
    others false e true g none none_too one = let lt = (indexed b z g).3 in let last = unindexed b x e in absurd (omega (arith, lt, last, one))
    others false e false g none none_too one = same_Some x z (sym (outer_is a b outer x may none e) ∙ outer_is a b outer z may_too none_too g)

    by : (t : Bool) → is_listed a x ≡ t → (u : Bool) → is_listed a z ≡ u → x ≡ z
    by true e true g = index_one a x z e g (sym (turn_listed a b x e) ∙ same ∙ turn_listed a b z g)
    by true e false g = beyond_all x z e g same
    by false e true g = sym (beyond_all z x g e (sym same))
    by false e false g = others (is_listed b x) refl (is_listed b z) refl e g (let first = turn_other a b x e in let second = turn_other a b z g in omega (arith, first, second, same))

-- ---- the order

module _ (f : Floor) (listed other : Key → ℕ) (a b : List DRule) (outer : Option Key) where
  key_one : (y x z : Key) → MayStandBefore a b outer y x → MayStandBefore a b outer y z → IsFirstBefore f listed other a b outer y x → IsFirstBefore f listed other a b outer y z → x ≡ z
  key_one y x z may may_too first first_too =
      let one = first z may_too in
      let two = first_too x may in
      let low = one.0 in
      let low_too = two.0 in
      let same : pair_length f listed other a y x ≡ pair_length f listed other a y z = omega (arith, low, low_too) in
      let turns = one.1 same in
      let turns_too = two.1 (sym same) in
      turn_one a b outer x z may.0 may_too.0 (omega (arith, turns, turns_too))

  order_one : (y : Key) (recorded recorded_too : Option Line) → IsOrderAt f listed other a b outer y recorded → IsOrderAt f listed other a b outer y recorded_too → recorded ≡ recorded_too
  order_one y None None one two = refl
  order_one y None (Some line) one two = let long = one two.0 two.1 in let short = two.3 in absurd (omega (arith, long, short))
  order_one y (Some line) None one two = let long = two one.0 one.1 in let short = one.3 in absurd (omega (arith, long, short))
  order_one y (Some line) (Some line_too) one two =
      let same = key_one y one.0 two.0 one.1 two.1 one.2 two.2 in
      ap (λ (l : Line). Some l) (one.4 ∙ ap (λ (x : Key). record { reason = Order; key = Some y; following = Some x; length = pair_length f listed other a y x }) same ∙ sym two.4)

  recorded_one : (key : Option Key) (recorded recorded_too : Option Line) → IsOrderOf f listed other a b outer key recorded → IsOrderOf f listed other a b outer key recorded_too → recorded ≡ recorded_too
  recorded_one None recorded recorded_too one two = one ∙ sym two
  recorded_one (Some y) recorded recorded_too one two = order_one y recorded recorded_too one two

  pub orders_one : (rules : List DRule) (first second : List Line) → AreOrderLines f listed other a b outer rules first → AreOrderLines f listed other a b outer rules second → first ≡ second
  orders_one [] first second one two = one ∙ sym two
  orders_one (rule ∷ rules) first second one two =
      let recorded = recorded_one rule.key one.0 two.0 one.2 two.2 in
      let rest = orders_one rules one.1 two.1 one.4 two.4 in
      one.3 ∙ ap (λ (o : Option Line). with_line o one.1) recorded ∙ ap (with_line two.0) rest ∙ sym two.3

-- ---- both

pub lines_one : (listed other : Key → ℕ) (keys : List Key) (a b : List DRule) (first second : List Line) → AreLevelLines listed other keys a b first → AreLevelLines listed other keys a b second
    → first ≡ second
lines_one listed other keys a b first second one two =
    let counts = counts_one listed other keys a b one.0 two.0 one.3 two.3 in
    let orders = orders_one (floor_between listed other keys a b) listed other a b (find (is_outside a b) keys) b one.1 two.1 one.4 two.4 in
    one.2 ∙ ap (λ (ls : List Line). ls ++ one.1) counts ∙ ap (λ (ls : List Line). two.0 ++ ls) orders ∙ sym two.2
