-- The lengths that are computed for a key that occurs seldom or often are no more than what such keys cost.
use Rattle.std.proofs.Common.{◌≡◌, ◌≢◌, ℕ, ◌≤◌, Bool, true, false, List, Option, Some, None, refl, sym, ap, ◌∙◌, arith}
use Rattle.std.specs.Prelude.{not, min, ◌&&◌, is_some, if◌then◌else◌}
use Rattle.std.specs.Option.{option_eq, option_map_or}
use Rattle.dia_wire.specs.declared.Key.{Key}
use Rattle.dia_book.specs.declared.DRule.{DRule}
use Rattle.dia_book.specs.Keys.{same_key}
use Rattle.dia_book.specs.Dictionary.{lists_key}
use Rattle.dia_book.proofs.SameKeys.{same_key-refl, same_key-true}
use Rattle.dia_book.proofs.Members.{at_find, find-is_some}
use Rattle.dia_valid.specs.Valid.{Placed, is_listed}
use Rattle.dia_valid.specs.Rules.{rule_of, wildcard_of}
use Rattle.dia_valid.proofs.Members.{IsIn, in_at, count_mono}
use Rattle.dia_breaking_levels.specs.declared.floor.Floor.{Floor}
use Rattle.dia_breaking_levels.specs.CountsAndRanks.{AreSound, times}
use Rattle.dia_breaking_levels.specs.LeastLevels.{total}
use Rattle.dia_breaking_levels.specs.Strangers.{needed}
use Rattle.dia_breaking_levels.specs.LevelTests.{price, rule_floor, filler, next_length, at_least, at_most}
use Rattle.dia_breaking_levels.proofs.LeastLevels.{not_both, not_true}
use Rattle.dia_breaking_levels.proofs.RuleSums.{sum_of}
use Rattle.dia_breaking_levels.proofs.LevelBounds.{listed_at_least_within, listed_at_most_within}
use Rattle.dia_breaking_levels.proofs.OtherBounds.{others_that, count_either, other_at_least_within, refilled_within}

-- none of these is more than what it is the least of
pub record IsFloor (f : Floor) (listed other : Key → ℕ) (a b : List DRule) : Type 0 where
  pub base : f.base ≤ sum_of (rule_floor listed (filler f)) a
  pub inner : (q : Key) → is_listed a q ≡ false → is_listed b q ≡ true → f.inner ≤ other q
  pub second : (q : Key) → is_listed a q ≡ false → is_listed b q ≡ true → f.first ≢ Some q → f.second ≤ other q
  pub outer : (q : Key) → is_listed a q ≡ false → is_listed b q ≡ false → f.outer ≤ other q
  pub ordered : f.inner ≤ f.second
  pub needed : f.needed ≤ needed b a

-- the rule of a key
pub is_rule : (a : List DRule) (k : Key) (r : DRule) → rule_of a k ≡ Some r → IsIn r a × (r.key ≡ Some k)
is_rule a k r e = let p = at_find (lists_key k) a r e in (in_at a p.0 r p.1, by r.key p.2)
  where
    by : (o : Option Key) → option_map_or (same_key k) o false ≡ true → o ≡ Some k
    by None h = absurd (let f : false ≡ true = h in cc)
    by (Some q) h = ap (λ (x : Key). Some x) (sym (same_key-true k q h))

pub no_rule : (a : List DRule) (k : Key) → rule_of a k ≡ None → is_listed a k ≡ false
no_rule a k e = sym (find-is_some (lists_key k) a) ∙ ap (λ (o : Option DRule). is_some o) e

module _ (f : Floor) (listed other : Key → ℕ) (a b : List DRule) (keys : List Key) (is : IsFloor f listed other a b) (sound : AreSound a) (placed : Placed a keys) where
  abbrev all_cost : ℕ
  all_cost = total (price listed other a) keys

  low_filler : (q : Key) → is_listed a q ≡ false → filler f ≤ other q
  low_filler q none = by (is_listed b q) refl
    where
      by : (t : Bool) → is_listed b q ≡ t → filler f ≤ other q
      by true e = let low = is.inner q none e in omega (arith, low)
      by false e = let low = is.outer q none e in omega (arith, low)

  pub cheapest_of : (q : Key) → IsIn q keys → is_listed a q ≡ false → filler f ≤ other q
  cheapest_of q i none = low_filler q none

  -- of the others the key comes as often
  times_among : (k : Key) → is_listed a k ≡ false → times k keys ≤ others_that a (λ q. same_key q k) keys
  times_among k none = count_mono (λ (q : Key). same_key q k) (λ (q : Key). not (is_listed a q) && same_key q k) keys (λ q i h. by q h)
    where
      step : (t u : Bool) → t ≡ false → u ≡ true → (not t && u) ≡ true
      step true u e h = absurd (let g : true ≡ false = e in cc)
      step false u e h = h

      by : (q : Key) → same_key q k ≡ true → (not (is_listed a q) && same_key q k) ≡ true
      by q h = step (is_listed a q) (same_key q k) (ap (is_listed a) (same_key-true q k h) ∙ none) h

  pub at_least_within : (k : Key) (m : ℕ) (o : Option DRule) → rule_of a k ≡ o → 1 ≤ m → m ≤ times k keys → at_least f listed other k m o (wildcard_of a) ≤ all_cost
  at_least_within k m (Some r) e some enough =
      let own = is_rule a k r e in
      listed_at_least_within a listed other (filler f) keys sound placed cheapest_of f.base r k m is.base own.0 own.1 enough
  at_least_within k m None e some enough =
      let none = no_rule a k e in
      let among = times_among k none in
      other_at_least_within a listed other (filler f) keys sound placed cheapest_of f.base (other k) m (λ q. same_key q k) (wildcard_of a) refl is.base (low_filler k none)
      (λ q i unlisted same. let own : other k ≡ other q = sym (ap other (same_key-true q k same)) in omega (arith, own)) some (omega (arith, enough, among))

  low_next : (k q : Key) → is_listed a q ≡ false → same_key q k ≡ false → next_length f k ≤ other q
  low_next k q none apart = by (option_eq same_key f.first (Some k)) refl (is_listed b q) refl
    where
      first_is : (o : Option Key) → option_eq same_key o (Some k) ≡ true → o ≡ Some k
      first_is None h = absurd (let g : false ≡ true = h in cc)
      first_is (Some x) h = ap (λ (y : Key). Some y) (same_key-true x k h)

      not_first : option_eq same_key f.first (Some k) ≡ true → f.first ≢ Some q
      not_first h e =
          let same : Some k ≡ Some q = sym (first_is f.first h) ∙ e in
          let own : k ≡ q = ap (λ (o : Option Key). option_map_or (λ x. x) o k) same in
          not_both (same_key q k) (ap (λ (x : Key). same_key q x) own ∙ same_key-refl q) apart

      by : (t : Bool) → option_eq same_key f.first (Some k) ≡ t → (u : Bool) → is_listed b q ≡ u → (if t then min f.second f.outer else filler f) ≤ other q
      by true h true e = let low = is.second q none e (not_first h) in omega (arith, low)
      by true h false e = let low = is.outer q none e in omega (arith, low)
      by false h true e = let low = is.inner q none e in omega (arith, low)
      by false h false e = let low = is.outer q none e in omega (arith, low)

  dear_next : (k : Key) → filler f ≤ next_length f k
  dear_next k = by (option_eq same_key f.first (Some k))
    where
      by : (t : Bool) → filler f ≤ (if t then min f.second f.outer else filler f)
      by true = let ordered = is.ordered in omega (arith, ordered)
      by false = omega arith

  pub at_most_within : (k : Key) (m : ℕ) (o : Option DRule) → rule_of a k ≡ o → times k keys ≤ m → at_most f k m o (wildcard_of a) ≤ all_cost
  at_most_within k m (Some r) e few =
      let own = is_rule a k r e in
      listed_at_most_within a listed other (filler f) keys sound placed cheapest_of f.base r k m is.base own.0 own.1 few
  at_most_within k m None e few =
      let none = no_rule a k e in
      let most = count_either (λ (q : Key). not (is_listed a q)) (λ (q : Key). same_key q k) keys in
      refilled_within a listed other (filler f) keys sound placed cheapest_of f.base (next_length f k) m (λ q. not (same_key q k)) (wildcard_of a) refl is.base (dear_next k)
      (λ q i unlisted apart. low_next k q unlisted (not_true (same_key q k) apart)) (omega (arith, few, most))
