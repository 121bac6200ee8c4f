-- What keys that are placed cost at least, where two certain ones occur.
use Rattle.std.proofs.Common.{◌≡◌, ◌≢◌, ℕ, ◌+◌, ◌-◌, ◌*◌, ◌≤◌, Bool, true, false, cond, List, [], ◌∷◌, Option, Some, None, refl, sym, ap, subst, ◌∙◌, arith, inl, inr}
use Rattle.std.specs.Prelude.{◌⊎◌, not, min, max, ◌&&◌, is_some, count_by, if◌then◌else◌}
use Rattle.std.specs.Option.{option_map_or}
use Rattle.std.proofs.Math.Nat.{mul-le-mul_right, add-mul, one-mul}
use Rattle.std.proofs.lemmas.Option.{none-some, same_Some}
use Rattle.dia_wire.specs.declared.Key.{Key}
use Rattle.dia_book.specs.declared.DRule.{DRule}
use Rattle.dia_book.specs.Keys.{same_key}
use Rattle.dia_book.proofs.Members.{find-is_some}
use Rattle.dia_book.proofs.SameKeys.{same_key-refl, same_key-true}
use Rattle.dia_valid.specs.Valid.{Placed, is_listed, is_wildcard, has_wildcard, counted}
use Rattle.dia_valid.proofs.RuleCounts.{counts_key}
use Rattle.dia_valid.specs.Rules.{rule_of, wildcard_of}
use Rattle.dia_valid.proofs.Members.{IsIn, contains_in, count_cons, count_in, count_mono}
use Rattle.dia_breaking_levels.specs.declared.floor.Floor.{Floor}
use Rattle.dia_breaking_levels.specs.CountsAndRanks.{AreSound, times}
use Rattle.dia_breaking_levels.specs.LeastLevels.{total}
use Rattle.dia_breaking_levels.specs.LevelTests.{too_long, capped, price, has_room, swapped, many, rule_floor, filler}
use Rattle.dia_breaking_levels.specs.OrderTests.{beyond, by_wild, with_others}
use Rattle.dia_breaking_levels.proofs.CountsAndRanks.{placed-in_place}
use Rattle.dia_breaking_levels.proofs.LeastLevels.{counts_own, counts_by, counted_key, not_both}
use Rattle.dia_breaking_levels.proofs.RuleSums.{sum_of, share_one, most_of, more_of}
use Rattle.dia_breaking_levels.proofs.PairBounds.{sums_two, share_three, both_of}
use Rattle.dia_breaking_levels.proofs.LevelBounds.{own_share, floor, floor_least, all_shares, each_floor, bounds_of, rule_price, one_more, part_of_floor, listed_floor, wild_floor, wild_share, is_wild, room_or}
use Rattle.dia_breaking_levels.proofs.LineBounds.{IsFloor, is_rule, no_rule, cheapest_of}

-- the level with both, where each is no more than what it takes
pair_numbers : (base low cost out p into : ℕ) → base ≤ low → low ≤ cost → out ≤ low → p ≤ into → low + into ≤ cost + out → swapped base (capped out) (capped p) ≤ cost
pair_numbers base low cost out p into base_low least part le more = omega (arith, base_low, least, part, le, more)

one_beyond : (least length : ℕ) → max 1 least * length ≡ least * length + (1 - least) * length
one_beyond least length =
    let both : max 1 least * length ≡ (least + (1 - least)) * length = ap (λ (n : ℕ). n * length) (omega arith) in
    let parts = add-mul least (1 - least) length in
    omega (arith, both, parts)

-- keys that pass one of two tests, which none passes both
pub count_two : (p t u : Key → Bool) (keys : List Key) → ((q : Key) → t q ≡ true → u q ≡ true → ⊥) → count_by (λ q. p q && t q) keys + count_by (λ q. p q && u q) keys ≤ count_by p keys
count_two p t u [] apart = omega arith
count_two p t u (k ∷ keys) apart =
    let ih = count_two p t u keys apart in
    let first = count_cons (λ (q : Key). p q && t q) k keys in
    let second = count_cons (λ (q : Key). p q && u q) k keys in
    let all = count_cons p k keys in
    let here = one (p k) (t k) (u k) (apart k) in
    omega (arith, ih, first, second, all, here)
  where
    one : (b c d : Bool) → (c ≡ true → d ≡ true → ⊥) → cond (b && c) 1 0 + cond (b && d) 1 0 ≤ cond b 1 0
    one true true true no_both = absurd (no_both refl refl)
    one true true false no_both = omega arith
    one true false d no_both = by d
      where
        by : (d : Bool) → cond (true && false) 1 0 + cond (true && d) 1 0 ≤ cond true 1 0
        by true = omega arith
        by false = omega arith
    one false c d no_both = omega arith

module _ (f : Floor) (listed other : Key → ℕ) (a b : List DRule) (keys : List Key) (is : IsFloor f listed other a b) (sound : AreSound a) (placed : Placed a keys) where
  abbrev all_cost : ℕ
  all_cost = total (price listed other a) keys

  low : (q : Key) → IsIn q keys → is_listed a q ≡ false → filler f ≤ other q
  low = cheapest_of f listed other a b keys is sound placed

  abbrev own : DRule → ℕ
  own r = own_share a listed other (filler f) keys sound placed low r

  abbrev each : DRule → ℕ
  each r = rule_floor listed (filler f) r

  abbrev least : ℕ
  least = floor a listed other (filler f) keys sound placed low

  floors : (r : DRule) → IsIn r a → each r ≤ own r
  floors r i = each_floor a listed other (filler f) keys sound placed low r i

  within : sum_of own a ≤ all_cost
  within = all_shares a listed other (filler f) keys sound placed low

  occurs : (x : Key) → IsIn x keys → 1 ≤ times x keys
  occurs x i = count_in (λ (q : Key). same_key q x) keys x i (same_key-refl x)

  -- one of a listed key
  abbrev Listed : Key → DRule → Type 0
  Listed x r = IsIn r a × (r.key ≡ Some x) × (beyond listed other x (Some r) ≤ (1 - r.min) * listed x) × (each r + (1 - r.min) * listed x ≤ own r + 0)

  one_listed : (x : Key) (r : DRule) → rule_of a x ≡ Some r → IsIn x keys → Listed x r
  one_listed x r e i = (own_rule.0, own_rule.1, by (has_room 1 r.max) refl, step)
    where
      own_rule : IsIn r a × (r.key ≡ Some x)
      own_rule = is_rule a x r e

      enough : 1 ≤ counted a r keys
      enough = let same = counted_key a r keys x own_rule.1 in let some = occurs x i in omega (arith, same, some)

      by : (t : Bool) → has_room 1 r.max ≡ t → (if t then many (1 - r.min) (listed x) else too_long) ≤ (1 - r.min) * listed x
      by true g = omega arith
      by false g = absurd (let less = room_or 1 r.max (counted a r keys) g (bounds_of a listed other (filler f) keys sound placed low r own_rule.0).1 in omega (arith, less, enough))

      step : each r + (1 - r.min) * listed x ≤ own r + 0
      step =
          let floor_is = listed_floor a listed other (filler f) keys sound placed low r x own_rule.1 in
          let same : option_map_or listed r.key (filler f) ≡ listed x = ap (λ (o : Option Key). option_map_or listed o (filler f)) own_rule.1 in
          let all = share_one (price listed other a) (counts_key a r) (option_map_or listed r.key (filler f)) keys (rule_price a listed other (filler f) keys sound placed low r own_rule.0) in
          let long : counted a r keys * listed x ≤ own r = subst (λ (c : ℕ). counted a r keys * c ≤ own r) same all in
          let bounds = bounds_of a listed other (filler f) keys sound placed low r own_rule.0 in
          let most = most_of (counted a r keys) 1 r.min (listed x) (own r) bounds.0 enough long in
          let parts = one_beyond r.min (listed x) in
          omega (arith, floor_is, most, parts)

  -- the wildcard, where a key comes that no rule lists
  abbrev Wild : DRule → Type 0
  Wild w = IsIn w a × (w.key ≡ None) × (each w ≤ least) × (each w ≡ w.min * filler f)

  wild_of : (w : DRule) → wildcard_of a ≡ Some w → Wild w
  wild_of w e =
      let found = is_wild a w e in
      (found.0, found.1, part_of_floor a listed other (filler f) keys sound placed low w found.0, wild_floor a listed other (filler f) keys sound placed low w found.1)

  no_wild : (y : Key) → rule_of a y ≡ None → IsIn y keys → wildcard_of a ≡ None → ⊥
  no_wild y e i none =
      let open_to = (placed-in_place a keys sound placed).allowed y (contains_in keys y i) (no_rule a y e) in
      not_both (has_wildcard a) open_to (sym (find-is_some is_wildcard a) ∙ ap (λ (o : Option DRule). is_some o) none)

  -- how often the key comes among those that the wildcard counts
  among : (w : DRule) (y : Key) → w.key ≡ None → rule_of a y ≡ None → IsIn y keys → 1 ≤ count_by (λ q. counts_key a w q && same_key q y) keys
  among w y keyless e i = count_in (λ (q : Key). counts_key a w q && same_key q y) keys y i (both (counts_by a w y None keyless (ap not (no_rule a y e))) (same_key-refl y))
    where
      both : {t u : Bool} → t ≡ true → u ≡ true → (t && u) ≡ true
      both {t} {u} g h = ap (λ (v : Bool). v && u) g ∙ h

  other_is : (y q : Key) → same_key q y ≡ true → other y ≡ other q
  other_is y q same = sym (ap other (same_key-true q y same))

  wild_one : (w : DRule) (y : Key) → Wild w → rule_of a y ≡ None → IsIn y keys → each w + other y ≤ own w + min 1 w.min * filler f
  wild_one w y wild e i =
      let own_floor = wild.3 in
      let dear = low y i (no_rule a y e) in
      let all = wild_share a listed other (filler f) keys sound placed low w (λ q. same_key q y) (other y) wild.0 wild.1 dear
      (λ q j none same. let is_own = other_is y q same in omega (arith, is_own)) in
      let inside = count_mono (λ (q : Key). counts_key a w q && same_key q y) (counts_key a w) keys (λ q j h. first_of (counts_key a w q) (same_key q y) h) in
      let parts : other y ≡ filler f + (other y - filler f) = omega (arith, dear) in
      let bounds = bounds_of a listed other (filler f) keys sound placed low w wild.0 in
      let step = more_of (counted a w keys) 1 w.min (count_by (λ q. counts_key a w q && same_key q y) keys) (filler f) (other y - filler f) (other y) (own w) parts bounds.0 (among w y wild.1 e i)
      inside all in
      let one = one-mul (other y) in
      omega (arith, own_floor, step, one)
    where
      first_of : (t u : Bool) → (t && u) ≡ true → t ≡ true
      first_of true u h = refl
      first_of false u h = absurd (let g : false ≡ true = h in cc)

  price_of : (q : Key) → is_listed a q ≡ false → price listed other a q ≡ other q
  price_of q e = ap (λ (t : Bool). if t then listed q else other q) e

  wild_cost : (w : DRule) → w.key ≡ None → (q : Key) → IsIn q keys → counts_key a w q ≡ true → (price listed other a q ≡ other q) × (filler f ≤ other q)
  wild_cost w keyless q i c = let none = unlisted (counts_own a w q c) in (price_of q none, low q i none)
    where
      unlisted : (w.key ≡ Some q) ⊎ ((w.key ≡ None) × (is_listed a q ≡ false)) → is_listed a q ≡ false
      unlisted (inl g) = absurd (none-some q (sym keyless ∙ g))
      unlisted (inr g) = g.1

  -- of the keys that the wildcard counts those two are apart
  two_of : (w : DRule) (x y : Key) → x ≢ y → count_by (λ q. counts_key a w q && same_key q x) keys + count_by (λ q. counts_key a w q && same_key q y) keys ≤ counted a w keys
  two_of w x y apart = count_two (counts_key a w) (λ q. same_key q x) (λ q. same_key q y) keys (λ q g h. apart (sym (same_key-true q x g) ∙ same_key-true q y h))

  wild_both : (w : DRule) (x y : Key) → Wild w → x ≢ y → rule_of a x ≡ None → rule_of a y ≡ None → IsIn x keys → IsIn y keys → each w + (other x + other y) ≤ own w + min 2 w.min * filler f
  wild_both w x y wild apart e e' i j =
      let own_floor = wild.3 in
      let dear = low x i (no_rule a x e) in
      let dear_y = low y j (no_rule a y e') in
      let cost_of = wild_cost w wild.1 in
      let all = share_three (price listed other a) (counts_key a w) (λ q. same_key q x) (λ q. same_key q y) (filler f) (other x - filler f) (other y - filler f) keys
      (λ q k c. let p = cost_of q k c in omega (arith, p.0, p.1))
      (λ q k c same. let p = cost_of q k c in let is_own = other_is x q same in omega (arith, p.0, p.1, is_own, dear))
      (λ q k c same. let p = cost_of q k c in let is_own = other_is y q same in omega (arith, p.0, p.1, is_own, dear_y))
      (λ q same same'. apart (sym (same_key-true q x same) ∙ same_key-true q y same')) in
      let bounds = bounds_of a listed other (filler f) keys sound placed low w wild.0 in
      let two = two_of w x y apart in
      let step = both_of (counted a w keys) w.min (count_by (λ q. counts_key a w q && same_key q x) keys) (count_by (λ q. counts_key a w q && same_key q y) keys) (filler f) (other x - filler f)
      (other y - filler f) (other x) (other y) (own w)
      (omega (arith, dear)) (omega (arith, dear_y)) bounds.0 (among w x wild.1 e i) (among w y wild.1 e' j) two all in
      omega (arith, step, own_floor)

  -- ---- both

  room_for : (w : DRule) (n : ℕ) → IsIn w a → n ≤ counted a w keys → has_room n w.max ≡ false → ⊥
  room_for w n i enough e =
      let less = room_or n w.max (counted a w keys) e (bounds_of a listed other (filler f) keys sound placed low w i).1 in
      absurd (omega (arith, less, enough))

  -- n of those by the wildcard, where all that is more is so long
  with_wild : (w : DRule) (n p into : ℕ) → Wild w → n ≤ counted a w keys → p ≤ into → least + into ≤ all_cost + min n w.min * filler f
      → (if has_room n w.max then swapped f.base (many (min n w.min) (filler f)) (capped p) else too_long) ≤ all_cost
  with_wild w n p into wild enough le more = by (has_room n w.max) refl
    where
      by : (t : Bool) → has_room n w.max ≡ t → (if t then swapped f.base (many (min n w.min) (filler f)) (capped p) else too_long) ≤ all_cost
      by true e =
          let base = is.base in
          let all = floor_least a listed other (filler f) keys sound placed low in
          let some : min n w.min * filler f ≤ w.min * filler f = mul-le-mul_right (filler f) (omega arith) in
          let part = wild.2 in
          let own_floor = wild.3 in
          pair_numbers f.base least all_cost (min n w.min * filler f) p into base all (omega (arith, some, part, own_floor)) le more
      by false e = absurd (room_for w n wild.0 enough e)

  apart_keys : (r s : DRule) (x y : Key) → x ≢ y → r.key ≡ Some x → s.key ≡ Some y → r ≢ s
  apart_keys r s x y apart e e' same = apart (same_Some x y (sym e ∙ ap (λ (t : DRule). t.key) same ∙ e'))

  apart_wild : (r w : DRule) (x : Key) → r.key ≡ Some x → w.key ≡ None → r ≢ w
  apart_wild r w x e e' same = none-some x (sym e' ∙ ap (λ (t : DRule). t.key) (sym same) ∙ e)

  both_listed : (x y : Key) (r s : DRule) → x ≢ y → rule_of a x ≡ Some r → rule_of a y ≡ Some s → IsIn x keys → IsIn y keys → (o : Option DRule) → wildcard_of a ≡ o
      → with_others f.base (filler f) 0 (capped (beyond listed other x (Some r) + beyond listed other y (Some s))) o ≤ all_cost
  both_listed x y r s apart e e' i j o wild = by o wild
    where
      first : Listed x r
      first = one_listed x r e i

      second : Listed y s
      second = one_listed y s e' j

      more : least + ((1 - r.min) * listed x + (1 - s.min) * listed y) ≤ all_cost
      more =
          let two = sums_two each own a r s ((1 - r.min) * listed x) 0 ((1 - s.min) * listed y) 0 floors first.0 second.0 (apart_keys r s x y apart first.1 second.1) first.3 second.3 in
          let all = within in
          omega (arith, two, all)

      by : (o : Option DRule) → wildcard_of a ≡ o → with_others f.base (filler f) 0 (capped (beyond listed other x (Some r) + beyond listed other y (Some s))) o ≤ all_cost
      by None e =
          let base = is.base in
          let all = floor_least a listed other (filler f) keys sound placed low in
          let own_more = more in
          let short = first.2 in
          let also = second.2 in
          pair_numbers f.base least all_cost 0 (beyond listed other x (Some r) + beyond listed other y (Some s)) ((1 - r.min) * listed x + (1 - s.min) * listed y) base all (omega arith)
          (omega (arith, short, also)) (omega (arith, own_more))
      by (Some w) e =
          let own_more = more in
          let short = first.2 in
          let also = second.2 in
          with_wild w 0 (beyond listed other x (Some r) + beyond listed other y (Some s)) ((1 - r.min) * listed x + (1 - s.min) * listed y) (wild_of w e) (omega arith) (omega (arith, short, also))
          (omega (arith, own_more))

  one_by_wild : (x y : Key) (r : DRule) → rule_of a x ≡ Some r → rule_of a y ≡ None → IsIn x keys → IsIn y keys → (o : Option DRule) → wildcard_of a ≡ o → (p : ℕ)
      → p ≤ beyond listed other x (Some r) + beyond listed other y None
      → with_others f.base (filler f) 1 (capped p) o ≤ all_cost
  one_by_wild x y r e e' i j None wild p le = absurd (no_wild y e' j wild)
  one_by_wild x y r e e' i j (Some w) wild p le =
      let first = one_listed x r e i in
      let own_wild = wild_of w wild in
      let step = wild_one w y own_wild e' j in
      let two = sums_two each own a r w ((1 - r.min) * listed x) 0 (other y) (min 1 w.min * filler f) floors first.0 own_wild.0 (apart_wild r w x first.1 own_wild.1) first.3 step in
      let all = within in
      let enough = counted_one w y own_wild.1 e' j in
      let short = first.2 in
      with_wild w 1 p ((1 - r.min) * listed x + other y) own_wild enough (omega (arith, le, short)) (omega (arith, two, all))
    where
      counted_one : (w : DRule) (y : Key) → w.key ≡ None → rule_of a y ≡ None → IsIn y keys → 1 ≤ counted a w keys
      counted_one w y keyless none k = count_in (counts_key a w) keys y k (counts_by a w y None keyless (ap not (no_rule a y none)))

  both_by_wild : (x y : Key) → x ≢ y → rule_of a x ≡ None → rule_of a y ≡ None → IsIn x keys → IsIn y keys → (o : Option DRule) → wildcard_of a ≡ o
      → with_others f.base (filler f) 2 (capped (beyond listed other x None + beyond listed other y None)) o ≤ all_cost
  both_by_wild x y apart e e' i j None wild = absurd (no_wild x e i wild)
  both_by_wild x y apart e e' i j (Some w) wild =
      let own_wild = wild_of w wild in
      let step = wild_both w x y own_wild apart e e' i j in
      let sum = one_more a listed other (filler f) keys sound placed low w (other x + other y) (min 2 w.min * filler f) own_wild.0 step in
      let first = among w x own_wild.1 e i in
      let second = among w y own_wild.1 e' j in
      let two = two_of w x y apart in
      with_wild w 2 (beyond listed other x None + beyond listed other y None) (other x + other y) own_wild (omega (arith, first, second, two)) (omega arith) sum

  pub pair_within : (x y : Key) (o p : Option DRule) → x ≢ y → rule_of a x ≡ o → rule_of a y ≡ p → IsIn x keys → IsIn y keys
      → with_others f.base (filler f) (by_wild o + by_wild p) (capped (beyond listed other x o + beyond listed other y p)) (wildcard_of a) ≤ all_cost
  pair_within x y (Some r) (Some s) apart e e' i j = both_listed x y r s apart e e' i j (wildcard_of a) refl
  pair_within x y (Some r) None apart e e' i j = one_by_wild x y r e e' i j (wildcard_of a) refl (beyond listed other x (Some r) + beyond listed other y None) (omega arith)
  pair_within x y None (Some s) apart e e' i j = one_by_wild y x s e' e j i (wildcard_of a) refl (beyond listed other x None + beyond listed other y (Some s)) (omega arith)
  pair_within x y None None apart e e' i j = both_by_wild x y apart e e' i j (wildcard_of a) refl
