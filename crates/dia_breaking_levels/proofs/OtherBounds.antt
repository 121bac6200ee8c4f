-- What keys that are placed cost at least, where those by the wildcard occur often or seldom.
use Rattle.std.proofs.Common.{◌≡◌, ℕ, ◌+◌, ◌-◌, ◌*◌, ◌≤◌, Bool, true, false, cond, List, [], ◌∷◌, Option, Some, None, refl, sym, ap, ◌∙◌, arith, inl, inr}
use Rattle.std.specs.Prelude.{◌⊎◌, not, min, ◌&&◌, is_some, count_by, if◌then◌else◌}
use Rattle.std.proofs.Math.Nat.{mul-le-mul_right}
use Rattle.dia_wire.specs.declared.Key.{Key}
use Rattle.dia_book.specs.declared.DRule.{DRule}
use Rattle.dia_book.proofs.Members.{find-is_some}
use Rattle.dia_valid.specs.Valid.{Placed, is_listed, is_wildcard, has_wildcard, counted}
use Rattle.dia_valid.proofs.RuleCounts.{counts_key}
use Rattle.dia_valid.specs.Rules.{wildcard_of}
use Rattle.dia_valid.proofs.Members.{IsIn, contains_in, count_cons, count_none, count_mono, none_or_some}
use Rattle.dia_breaking_levels.specs.CountsAndRanks.{AreSound, strangers}
use Rattle.dia_breaking_levels.specs.LeastLevels.{total}
use Rattle.dia_breaking_levels.specs.LevelTests.{too_long, price, has_room, swapped, many, other_at_least, refilled}
use Rattle.dia_breaking_levels.proofs.CountsAndRanks.{placed-in_place}
use Rattle.dia_breaking_levels.proofs.LeastLevels.{by_key, counted_wild, not_both, not_true}
use Rattle.dia_breaking_levels.proofs.RuleSums.{swapped_within}
use Rattle.dia_breaking_levels.proofs.LevelBounds.{floor, floor_least, bounds_of, other_more, other_less, part_of_floor, wild_floor, is_wild, room_or}

-- of the keys that no rule lists those that pass a test
abbrev pub others_that : List DRule → (Key → Bool) → List Key → ℕ
others_that a t keys = count_by (λ q. not (is_listed a q) && t q) keys

counted_that : (a : List DRule) (w : DRule) (t : Key → Bool) (keys : List Key) → w.key ≡ None → count_by (λ q. counts_key a w q && t q) keys ≡ others_that a t keys
counted_that a w t keys e = ap (λ (o : Option Key). count_by (λ q. by_key a q o && t q) keys) e

first_of : (b c : Bool) → (b && c) ≡ true → b ≡ true
first_of true c h = refl
first_of false c h = absurd (let f : false ≡ true = h in cc)

-- some are there
pub counted_some : (p : Key → Bool) (keys : List Key) → 1 ≤ count_by p keys → (q : Key) × IsIn q keys × (p q ≡ true)
counted_some p keys some = by (none_or_some p keys)
  where
    by : ((q : Key) → IsIn q keys → p q ≡ false) ⊎ ((q : Key) × IsIn q keys × (p q ≡ true)) → (q : Key) × IsIn q keys × (p q ≡ true)
    by (inl none) = let zero = count_none p keys none in absurd (omega (arith, zero, some))
    by (inr found) = found

-- what passes one test passes another, or fails it
pub count_either : (p s : Key → Bool) (keys : List Key) → count_by p keys ≤ count_by s keys + count_by (λ q. p q && not (s q)) keys
count_either p s [] = omega arith
count_either p s (k ∷ keys) =
    let ih = count_either p s keys in
    let first = count_cons p k keys in
    let second = count_cons s k keys in
    let third = count_cons (λ (q : Key). p q && not (s q)) k keys in
    let here = one (p k) (s k) in
    omega (arith, ih, first, second, third, here)
  where
    one : (b c : Bool) → cond b 1 0 ≤ cond c 1 0 + cond (b && not c) 1 0
    one true true = omega arith
    one true false = omega arith
    one false c = omega arith

module _ (a : List DRule) (listed other : Key → ℕ) (filler : ℕ) (keys : List Key) (sound : AreSound a) (placed : Placed a keys)
    (cheapest : (q : Key) → IsIn q keys → is_listed a q ≡ false → filler ≤ other q) where
  abbrev all_cost : ℕ
  all_cost = total (price listed other a) keys

  abbrev least : ℕ
  least = floor a listed other filler keys sound placed cheapest

  no_wildcard : wildcard_of a ≡ None → has_wildcard a ≡ false
  no_wildcard e = sym (find-is_some is_wildcard a) ∙ ap (λ (o : Option DRule). is_some o) e

  pub other_at_least_within : (base length m : ℕ) (t : Key → Bool) (o : Option DRule) → wildcard_of a ≡ o → base ≤ least → filler ≤ length
      → ((q : Key) → IsIn q keys → is_listed a q ≡ false → t q ≡ true → length ≤ other q) → 1 ≤ m → m ≤ others_that a t keys → other_at_least base filler length m o ≤ all_cost
  other_at_least_within base length m t None e low dear high some enough =
      let found = counted_some (λ (q : Key). not (is_listed a q) && t q) keys (omega (arith, some, enough)) in
      let unlisted = not_true (is_listed a found.0) (first_of (not (is_listed a found.0)) (t found.0) found.2) in
      let wild = (placed-in_place a keys sound placed).allowed found.0 (contains_in keys found.0 found.1) unlisted in
      absurd (not_both (has_wildcard a) wild (no_wildcard e))
  other_at_least_within base length m t (Some w) e low dear high some enough = by (has_room m w.max) refl
    where
      by : (b : Bool) → has_room m w.max ≡ b → (if b then swapped base (many (min m w.min) filler) (many m length) else too_long) ≤ all_cost
      by true f =
          let own = is_wild a w e in
          let same = counted_that a w t keys own.1 in
          let more = other_more a listed other filler keys sound placed cheapest w t length m own.0 own.1 dear high (omega (arith, same, enough)) in
          let part = part_of_floor a listed other filler keys sound placed cheapest w own.0 in
          let own_floor = wild_floor a listed other filler keys sound placed cheapest w own.1 in
          let within : min m w.min * filler ≤ w.min * filler = mul-le-mul_right filler (omega arith) in
          let all = floor_least a listed other filler keys sound placed cheapest in
          swapped_within base least all_cost (min m w.min * filler) (m * length) low all (omega (arith, within, own_floor, part)) more
      by false f =
          let own = is_wild a w e in
          let less = room_or m w.max (counted a w keys) f (bounds_of a listed other filler keys sound placed cheapest w own.0).1 in
          let same = counted_wild a w keys own.1 in
          let within = count_mono (λ (q : Key). not (is_listed a q) && t q) (λ (q : Key). not (is_listed a q)) keys (λ q j h. first_of (not (is_listed a q)) (t q) h) in
          absurd (omega (arith, less, same, within, enough))

  pub refilled_within : (base length m : ℕ) (t : Key → Bool) (o : Option DRule) → wildcard_of a ≡ o → base ≤ least → filler ≤ length
      → ((q : Key) → IsIn q keys → is_listed a q ≡ false → t q ≡ true → length ≤ other q) → strangers a keys ≤ m + others_that a t keys → refilled base filler length m o ≤ all_cost
  refilled_within base length m t None e low dear high most = let all = floor_least a listed other filler keys sound placed cheapest in omega (arith, low, all)
  refilled_within base length m t (Some w) e low dear high most =
      let own = is_wild a w e in
      let same = counted_that a w t keys own.1 in
      let count = counted_wild a w keys own.1 in
      let more = other_less a listed other filler keys sound placed cheapest w t length m own.0 own.1 dear high (omega (arith, same, count, most)) in
      let part = part_of_floor a listed other filler keys sound placed cheapest w own.0 in
      let own_floor = wild_floor a listed other filler keys sound placed cheapest w own.1 in
      let within : (w.min - m) * filler ≤ w.min * filler = mul-le-mul_right filler (omega arith) in
      let all = floor_least a listed other filler keys sound placed cheapest in
      swapped_within base least all_cost ((w.min - m) * filler) ((w.min - m) * length) low all (omega (arith, within, own_floor, part)) more
