-- What keys cost of which few, or some, are not listed by the other definition.
use Rattle.std.proofs.Common.{◌≡◌, ℕ, ◌+◌, ◌-◌, ◌≤◌, Bool, true, false, cond, List, [], ◌∷◌, Option, Some, None, refl, ap, arith}
use Rattle.std.specs.Prelude.{not, nat_le, ◌&&◌, count_by, if◌then◌else◌}
use Rattle.std.proofs.lemmas.Bool.{leb-false}
use Rattle.dia_wire.specs.declared.Key.{Key}
use Rattle.dia_book.specs.declared.DRule.{DRule}
use Rattle.dia_valid.specs.Valid.{Placed, is_listed}
use Rattle.dia_valid.proofs.RuleCounts.{counts_key}
use Rattle.dia_valid.specs.Rules.{wildcard_of}
use Rattle.dia_valid.proofs.Members.{IsIn, count_cons, count_in, count_mono}
use Rattle.dia_breaking_levels.specs.declared.floor.Floor.{Floor}
use Rattle.dia_breaking_levels.specs.CountsAndRanks.{AreSound, strangers}
use Rattle.dia_breaking_levels.specs.LeastLevels.{total}
use Rattle.dia_breaking_levels.specs.Strangers.{needed}
use Rattle.dia_breaking_levels.specs.LevelTests.{too_long, price, filler, refilled, few_others, other_at_least}
use Rattle.dia_breaking_levels.proofs.LeastLevels.{share, by_key, one_if, not_true}
use Rattle.dia_breaking_levels.proofs.Strangers.{needed_least, others_most}
use Rattle.dia_breaking_levels.proofs.LevelBounds.{floor_least, is_wild}
use Rattle.dia_breaking_levels.proofs.OtherBounds.{others_that, count_either, other_at_least_within, refilled_within}
use Rattle.dia_breaking_levels.proofs.LineBounds.{IsFloor, cheapest_of}

pub share_count : (s p : Key → Bool) (keys : List Key) → share (λ q. one_if (s q)) p keys ≡ count_by (λ q. p q && s q) keys
share_count s p [] = refl
share_count s p (k ∷ keys) =
    let ih = share_count s p keys in
    let here = count_cons (λ (q : Key). p q && s q) k keys in
    let one = step (p k) (s k) in
    omega (arith, ih, here, one)
  where
    step : (b c : Bool) → cond b (one_if c) 0 ≡ cond (b && c) 1 0
    step true c = refl
    step false c = refl

-- the keys by the wildcard that the other does not list, and those that the rules need, are no more than all that it does not
-- list
pub outside_most : (a b : List DRule) (keys : List Key) (w : DRule) → AreSound a → Placed a keys → IsIn w a → w.key ≡ None
    → needed b a + others_that a (λ q. not (is_listed b q)) keys ≤ strangers b keys
outside_most a b keys w sound placed i e =
    let all = others_most a b keys w sound placed i e in
    let same = share_count (λ (q : Key). not (is_listed b q)) (counts_key a w) keys in
    let own : count_by (λ q. counts_key a w q && not (is_listed b q)) keys ≡ others_that a (λ q. not (is_listed b q)) keys =
    ap (λ (o : Option Key). count_by (λ q. by_key a q o && not (is_listed b q)) keys) e in
    omega (arith, all, same, own)

module _ (f : Floor) (listed other : Key → ℕ) (a b : List DRule) (keys : List Key) (is : IsFloor f listed other a b) (sound : AreSound a) (placed : Placed a keys) where
  abbrev all_cost : ℕ
  all_cost = total (price listed other a) keys

  -- the keys that only the second lists, and those that neither does
  parted : (m : ℕ) → others_that a (λ q. not (is_listed b q)) keys ≤ m → strangers a keys ≤ m + others_that a (λ q. is_listed b q) keys
  parted m few =
      let most = count_either (λ (q : Key). not (is_listed a q)) (λ (q : Key). not (is_listed a q) && not (is_listed b q)) keys in
      let same = count_mono (λ (q : Key). not (is_listed a q) && not (not (is_listed a q) && not (is_listed b q))) (λ (q : Key). not (is_listed a q) && is_listed b q) keys
      (λ q i h. step (is_listed a q) (is_listed b q) h) in
      omega (arith, most, same, few)
    where
      step : (t u : Bool) → (not t && not (not t && not u)) ≡ true → (not t && u) ≡ true
      step true u h = h
      step false true h = refl
      step false false h = h

  pub few_others_within : (m : ℕ) → strangers b keys ≤ m → few_others f m (wildcard_of a) ≤ all_cost
  few_others_within m few = by (nat_le f.needed m) refl
    where
      needs : f.needed ≤ m
      needs =
          let own = is.needed in
          let least = needed_least a b keys sound placed in
          omega (arith, own, least, few)

      filled : (o : Option DRule) → wildcard_of a ≡ o → refilled f.base (filler f) f.inner (m - f.needed) o ≤ all_cost
      filled None e =
          let low = is.base in
          let all = floor_least a listed other (filler f) keys sound placed (cheapest_of f listed other a b keys is sound placed) in
          omega (arith, low, all)
      filled (Some w) e =
          let own = is_wild a w e in
          let most = outside_most a b keys w sound placed own.0 own.1 in
          let need = is.needed in
          refilled_within a listed other (filler f) keys sound placed (cheapest_of f listed other a b keys is sound placed) f.base f.inner (m - f.needed) (λ q. is_listed b q) (Some w) e is.base
          (omega arith)
          (λ q i none also. is.inner q none also) (parted (m - f.needed) (omega (arith, most, need, few)))

      by : (t : Bool) → nat_le f.needed m ≡ t → (if t then refilled f.base (filler f) f.inner (m - f.needed) (wildcard_of a) else too_long) ≤ all_cost
      by true e = filled (wildcard_of a) refl
      by false e = let low = needs in let less = leb-false f.needed m e in absurd (omega (arith, less, low))

  -- a key that neither lists
  pub outside_within : (k : Key) → IsIn k keys → is_listed a k ≡ false → is_listed b k ≡ false → other_at_least f.base (filler f) f.outer 1 (wildcard_of a) ≤ all_cost
  outside_within k i none free =
      other_at_least_within a listed other (filler f) keys sound placed (cheapest_of f listed other a b keys is sound placed) f.base f.outer 1 (λ q. not (is_listed b q)) (wildcard_of a) refl is.base
      (omega arith)
      (λ q j unlisted also. is.outer q unlisted (not_true (is_listed b q) also)) (omega arith)
      (count_in (λ (q : Key). not (is_listed a q) && not (is_listed b q)) keys k i (step (is_listed a k) (is_listed b k) none free))
    where
      step : (t u : Bool) → t ≡ false → u ≡ false → (not t && not u) ≡ true
      step false false e h = refl
      step false true e h = absurd (let g : true ≡ false = h in cc)
      step true u e h = absurd (let g : true ≡ false = e in cc)
