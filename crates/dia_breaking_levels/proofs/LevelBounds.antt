-- What keys that are placed cost at least, where a key occurs often or seldom.
use Rattle.std.proofs.Common.{◌≡◌, ℕ, ◌+◌, ◌-◌, ◌*◌, ◌<◌, ◌≤◌, Bool, true, false, List, Option, Some, None, refl, sym, ap, subst, ◌∙◌, arith, inl, inr}
use Rattle.std.specs.Prelude.{◌⊎◌, not, min, max, nat_le, ◌&&◌, IfSome, is_some, count_by, if◌then◌else◌}
use Rattle.std.specs.Option.{option_map_or}
use Rattle.std.proofs.Math.Nat.{mul-le-mul_right}
use Rattle.std.proofs.lemmas.Bool.{leb-false}
use Rattle.std.proofs.lemmas.Option.{none-some}
use Rattle.dia_wire.specs.declared.Key.{Key}
use Rattle.dia_book.specs.declared.DRule.{DRule}
use Rattle.dia_book.proofs.Members.{at_find}
use Rattle.dia_valid.specs.Valid.{InBounds, Placed, is_listed, is_wildcard, counted}
use Rattle.dia_valid.proofs.RuleCounts.{counts_key}
use Rattle.dia_valid.specs.Rules.{wildcard_of}
use Rattle.dia_valid.proofs.Members.{IsIn, in_at, count_mono}
use Rattle.dia_valid.proofs.RulesOfKeys.{is_listed_by}
use Rattle.dia_breaking_levels.specs.CountsAndRanks.{AreSound, times, AreInPlace}
use Rattle.dia_breaking_levels.specs.LeastLevels.{total}
use Rattle.dia_breaking_levels.specs.LevelTests.{too_long, price, has_room, swapped, rule_floor, many, listed_at_least, listed_at_most}
use Rattle.dia_breaking_levels.proofs.CountsAndRanks.{placed-in_place}
use Rattle.dia_breaking_levels.proofs.LeastLevels.{share, shares_within, count_apart, counts_own, counted_key, counted_bounds}
use Rattle.dia_breaking_levels.proofs.RuleSums.{sum_of, shares_sum, sums_each, sums_one, one_of_sum, share_two, share_one, more_of, less_of, most_of, swapped_within}

price_listed : (listed other : Key → ℕ) (a : List DRule) (q : Key) → is_listed a q ≡ true → price listed other a q ≡ listed q
price_listed listed other a q e = ap (λ (b : Bool). if b then listed q else other q) e

price_other : (listed other : Key → ℕ) (a : List DRule) (q : Key) → is_listed a q ≡ false → price listed other a q ≡ other q
price_other listed other a q e = ap (λ (b : Bool). if b then listed q else other q) e

pub room_or : (m : ℕ) (limit : Option ℕ) (n : ℕ) → has_room m limit ≡ false → IfSome limit (λ max. n ≤ max) → n < m
room_or m None n e h = absurd (let f : true ≡ false = e in cc)
room_or m (Some most) n e h = let less = leb-false m most e in omega (arith, less, h)

-- the wildcard of a definition
pub is_wild : (a : List DRule) (w : DRule) → wildcard_of a ≡ Some w → IsIn w a × (w.key ≡ None)
is_wild a w e = let p = at_find is_wildcard a w e in (in_at a p.0 w p.1, no_key w.key p.2)
  where
    no_key : (o : Option Key) → not (is_some o) ≡ true → o ≡ None
    no_key None h = refl
    no_key (Some k) h = absurd (let e : false ≡ true = h in cc)

module _ (a : List DRule) (listed other : Key → ℕ) (filler : ℕ) (keys : List Key) (sound : AreSound a) (placed : Placed a keys)
    (cheapest : (q : Key) → IsIn q keys → is_listed a q ≡ false → filler ≤ other q) where
  abbrev pub cost : Key → ℕ
  cost = price listed other a

  abbrev pub own_share : DRule → ℕ
  own_share r = share cost (counts_key a r) keys

  abbrev pub floor : ℕ
  floor = sum_of (rule_floor listed filler) a

  in_place : AreInPlace a keys
  in_place = placed-in_place a keys sound placed

  pub bounds_of : (r : DRule) → IsIn r a → InBounds r (counted a r keys)
  bounds_of r i = counted_bounds a keys r in_place i

  pub rule_price : (r : DRule) → IsIn r a → (q : Key) → IsIn q keys → counts_key a r q ≡ true → option_map_or listed r.key filler ≤ cost q
  rule_price r i q j t = by (counts_own a r q t)
    where
      by : (r.key ≡ Some q) ⊎ ((r.key ≡ None) × (is_listed a q ≡ false)) → option_map_or listed r.key filler ≤ cost q
      by (inl e) =
          let own : option_map_or listed r.key filler ≡ listed q = ap (λ (o : Option Key). option_map_or listed o filler) e in
          let same = price_listed listed other a q (is_listed_by a q r i e) in
          omega (arith, own, same)
      by (inr e) =
          let own : option_map_or listed r.key filler ≡ filler = ap (λ (o : Option Key). option_map_or listed o filler) e.0 in
          let same = price_other listed other a q e.1 in
          let low = cheapest q j e.1 in
          omega (arith, own, same, low)

  pub each_floor : (r : DRule) → IsIn r a → rule_floor listed filler r ≤ own_share r
  each_floor r i =
      let all = share_one cost (counts_key a r) (option_map_or listed r.key filler) keys (rule_price r i) in
      let least = mul-le-mul_right (option_map_or listed r.key filler) (bounds_of r i).0 in
      omega (arith, all, least)

  pub all_shares : sum_of own_share a ≤ total cost keys
  all_shares =
      let within = shares_within (counts_key a) cost a keys (count_apart a a sound.distinct (λ r i. i)) in
      let same = shares_sum (counts_key a) cost a keys in
      omega (arith, within, same)

  -- no keys that are placed cost less than the least counts
  pub floor_least : floor ≤ total cost keys
  floor_least =
      let each = sums_each (rule_floor listed filler) own_share a each_floor in
      let all = all_shares in
      omega (arith, each, all)

  pub one_more : (r : DRule) (into out : ℕ) → IsIn r a → rule_floor listed filler r + into ≤ own_share r + out → floor + into ≤ total cost keys + out
  one_more r into out i more =
      let one = sums_one (rule_floor listed filler) own_share a r into out each_floor i more in
      let all = all_shares in
      omega (arith, one, all)

  pub part_of_floor : (r : DRule) → IsIn r a → rule_floor listed filler r ≤ floor
  part_of_floor r i = one_of_sum (rule_floor listed filler) a r i

  -- ---- a listed key

  pub listed_floor : (r : DRule) (k : Key) → r.key ≡ Some k → rule_floor listed filler r ≡ r.min * listed k
  listed_floor r k e = ap (λ (o : Option Key). r.min * option_map_or listed o filler) e

  -- a listed key that occurs m times
  pub listed_more : (r : DRule) (k : Key) (m : ℕ) → IsIn r a → r.key ≡ Some k → m ≤ times k keys → floor + max m r.min * listed k ≤ total cost keys + r.min * listed k
  listed_more r k m i e some =
      let own = listed_floor r k e in
      let same : option_map_or listed r.key filler ≡ listed k = ap (λ (o : Option Key). option_map_or listed o filler) e in
      let all = share_one cost (counts_key a r) (option_map_or listed r.key filler) keys (rule_price r i) in
      let long : counted a r keys * listed k ≤ own_share r = subst (λ (c : ℕ). counted a r keys * c ≤ own_share r) same all in
      let enough : m ≤ counted a r keys = subst (λ (n : ℕ). m ≤ n) (sym (counted_key a r keys k e)) some in
      let step = most_of (counted a r keys) m r.min (listed k) (own_share r) (bounds_of r i).0 enough long in
      one_more r (max m r.min * listed k) (r.min * listed k) i (omega (arith, own, step))

  pub listed_at_least_within : (base : ℕ) (r : DRule) (k : Key) (m : ℕ) → base ≤ floor → IsIn r a → r.key ≡ Some k → m ≤ times k keys → listed_at_least base (listed k) m r ≤ total cost keys
  listed_at_least_within base r k m low i e some = by (has_room m r.max) refl
    where
      by : (b : Bool) → has_room m r.max ≡ b → (if b then swapped base (many r.min (listed k)) (many (max m r.min) (listed k)) else too_long) ≤ total cost keys
      by true f =
          let own = listed_floor r k e in
          let part = part_of_floor r i in
          swapped_within base floor (total cost keys) (r.min * listed k) (max m r.min * listed k) low floor_least (omega (arith, own, part)) (listed_more r k m i e some)
      by false f =
          let less = room_or m r.max (counted a r keys) f (bounds_of r i).1 in
          let same = counted_key a r keys k e in
          absurd (omega (arith, less, same, some))

  pub listed_at_most_within : (base : ℕ) (r : DRule) (k : Key) (m : ℕ) → base ≤ floor → IsIn r a → r.key ≡ Some k → times k keys ≤ m → listed_at_most base m r ≤ total cost keys
  listed_at_most_within base r k m low i e few = by (nat_le r.min m) refl
    where
      by : (b : Bool) → nat_le r.min m ≡ b → (if b then base else too_long) ≤ total cost keys
      by true f = let least = floor_least in omega (arith, low, least)
      by false f =
          let least = (bounds_of r i).0 in
          let same = counted_key a r keys k e in
          let less = leb-false r.min m f in absurd (omega (arith, less, least, same, few))

  -- ---- keys by the wildcard

  pub wild_floor : (w : DRule) → w.key ≡ None → rule_floor listed filler w ≡ w.min * filler
  wild_floor w e = ap (λ (o : Option Key). w.min * option_map_or listed o filler) e

  counted_other : (w : DRule) (q : Key) → w.key ≡ None → counts_key a w q ≡ true → is_listed a q ≡ false
  counted_other w q e t = by (counts_own a w q t)
    where
      by : (w.key ≡ Some q) ⊎ ((w.key ≡ None) × (is_listed a q ≡ false)) → is_listed a q ≡ false
      by (inl f) = absurd (none-some q (sym e ∙ f))
      by (inr f) = f.1

  -- the wildcard's keys, of which those that pass a test have this length at least
  pub wild_share : (w : DRule) (t : Key → Bool) (length : ℕ) → IsIn w a → w.key ≡ None → filler ≤ length → ((q : Key) → IsIn q keys → is_listed a q ≡ false → t q ≡ true → length ≤ other q)
      → counted a w keys * filler + count_by (λ q. counts_key a w q && t q) keys * (length - filler) ≤ own_share w
  wild_share w t length i e dear high =
      share_two cost (counts_key a w) t filler (length - filler) keys
      (λ q j c. let none = counted_other w q e c in let same = price_other listed other a q none in let low = cheapest q j none in omega (arith, same, low))
      (λ q j c u. let none = counted_other w q e c in let same = price_other listed other a q none in let long = high q j none u in omega (arith, same, long, dear))

  pub other_more : (w : DRule) (t : Key → Bool) (length m : ℕ) → IsIn w a → w.key ≡ None → filler ≤ length → ((q : Key) → IsIn q keys → is_listed a q ≡ false → t q ≡ true → length ≤ other q)
      → m ≤ count_by (λ q. counts_key a w q && t q) keys → floor + m * length ≤ total cost keys + min m w.min * filler
  other_more w t length m i e dear high some =
      let own = wild_floor w e in
      let all = wild_share w t length i e dear high in
      let within = count_mono (λ (q : Key). counts_key a w q && t q) (counts_key a w) keys (λ q j h. first_of (counts_key a w q) (t q) h) in
      let parts : length ≡ filler + (length - filler) = omega (arith, dear) in
      let step = more_of (counted a w keys) m w.min (count_by (λ q. counts_key a w q && t q) keys) filler (length - filler) length (own_share w) parts (bounds_of w i).0 some within all in
      one_more w (m * length) (min m w.min * filler) i (omega (arith, own, step))
    where
      first_of : (b c : Bool) → (b && c) ≡ true → b ≡ true
      first_of true c h = refl
      first_of false c h = absurd (let f : false ≡ true = h in cc)

  pub other_less : (w : DRule) (t : Key → Bool) (length m : ℕ) → IsIn w a → w.key ≡ None → filler ≤ length → ((q : Key) → IsIn q keys → is_listed a q ≡ false → t q ≡ true → length ≤ other q)
      → counted a w keys ≤ m + count_by (λ q. counts_key a w q && t q) keys → floor + (w.min - m) * length ≤ total cost keys + (w.min - m) * filler
  other_less w t length m i e dear high most =
      let own = wild_floor w e in
      let all = wild_share w t length i e dear high in
      let parts : length ≡ filler + (length - filler) = omega (arith, dear) in
      let step = less_of (counted a w keys) (count_by (λ q. counts_key a w q && t q) keys) m w.min filler (length - filler) length (own_share w) parts (bounds_of w i).0 most all in
      one_more w ((w.min - m) * length) ((w.min - m) * filler) i (omega (arith, own, step))
