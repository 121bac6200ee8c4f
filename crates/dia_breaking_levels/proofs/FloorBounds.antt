-- What is computed of the least level and of the shortest AVPs by the wildcard is no more than what keys cost.
use Rattle.std.proofs.Common.{◌≡◌, ◌≢◌, ℕ, ◌+◌, ◌-◌, ◌^◌, ◌≤◌, Bool, true, false, List, [], ◌∷◌, Option, Some, None, refl, sym, ap, ◌∙◌, arith, inl, inr}
use Rattle.std.specs.Prelude.{min, ◌||◌, fold, if◌then◌else◌}
use Rattle.std.specs.Option.{option_eq, option_map_or}
use Rattle.dia_wire.specs.declared.Key.{Key}
use Rattle.dia_book.specs.Keys.{same_key}
use Rattle.dia_book.specs.declared.DRule.{DRule}
use Rattle.dia_book.proofs.SameKeys.{same_key-true}
use Rattle.dia_valid.specs.Valid.{is_listed}
use Rattle.dia_valid.proofs.Members.{IsIn, any_in}
use Rattle.dia_breaking_levels.specs.Strangers.{needs, needed}
use Rattle.dia_breaking_levels.specs.LevelTests.{too_long, capped, many, rule_floor, inner_length, cheapest, base_length, needed_up}
use Rattle.dia_breaking_levels.proofs.RuleSums.{sum_of}

-- ---- the least level

base_from : (listed : Key → ℕ) (filler start : ℕ) (rules : List DRule)
    → fold (λ sum rule. capped (sum + many rule.min (option_map_or listed rule.key filler))) start rules ≤ start + sum_of (rule_floor listed filler) rules
base_from listed filler start [] = omega arith
base_from listed filler start (r ∷ rules) =
    let ih = base_from listed filler (capped (start + many r.min (option_map_or listed r.key filler))) rules in
    omega (arith, ih)

pub base_within : (listed : Key → ℕ) (filler : ℕ) (rules : List DRule) → base_length listed filler rules ≤ sum_of (rule_floor listed filler) rules
base_within listed filler rules = let all = base_from listed filler 0 rules in omega (arith, all)

needed_from : (b : List DRule) (start : ℕ) (rules : List DRule) → fold (λ sum rule. min (sum + needs b rule) (2 ^ 64 - 1)) start rules ≤ start + needed b rules
needed_from b start [] = omega arith
needed_from b start (r ∷ rules) =
    let ih = needed_from b (min (start + needs b r) (2 ^ 64 - 1)) rules in
    omega (arith, ih)

pub needed_within : (b a : List DRule) → needed_up b a ≤ needed b a
needed_within b a = let all = needed_from b 0 a in omega (arith, all)

needed_exact : (b : List DRule) (start : ℕ) (rules : List DRule) → start ≤ 2 ^ 64 - 1 → fold (λ sum rule. min (sum + needs b rule) (2 ^ 64 - 1)) start rules ≡ min (start + needed b rules) (2 ^ 64 - 1)
needed_exact b start [] le = omega (arith, le)
needed_exact b start (r ∷ rules) le =
    let ih = needed_exact b (min (start + needs b r) (2 ^ 64 - 1)) rules (omega arith) in
    omega (arith, ih)

pub needed_is : (b a : List DRule) → needed_up b a ≡ min (needed b a) (2 ^ 64 - 1)
needed_is b a = let all = needed_exact b 0 a (omega arith) in omega (arith, all)

-- ---- the shortest AVPs

cheapest_from : (length : DRule → ℕ) (best : ℕ) (rules : List DRule) → fold (λ best rule. min best (length rule)) best rules ≤ best
cheapest_from length best [] = omega arith
cheapest_from length best (r ∷ rules) = let ih = cheapest_from length (min best (length r)) rules in omega (arith, ih)

cheapest_in : (length : DRule → ℕ) (best : ℕ) (rules : List DRule) (r : DRule) → IsIn r rules → fold (λ best rule. min best (length rule)) best rules ≤ length r
cheapest_in length best [] r i = absurd i
cheapest_in length best (s ∷ rules) r (inl same) =
    let all = cheapest_from length (min best (length s)) rules in
    let own : length s ≡ length r = ap length (sym same) in
    omega (arith, all, own)
cheapest_in length best (s ∷ rules) r (inr i) = cheapest_in length (min best (length s)) rules r i

cheapest_more : (length other : DRule → ℕ) (best more : ℕ) (rules : List DRule) → best ≤ more → ((r : DRule) → length r ≤ other r)
    → fold (λ best rule. min best (length rule)) best rules ≤ fold (λ best rule. min best (other rule)) more rules
cheapest_more length other best more [] le each = le
cheapest_more length other best more (r ∷ rules) le each =
    let here = each r in
    cheapest_more length other (min best (length r)) (min more (other r)) rules (omega (arith, le, here)) each

pub rule_of_listed : (b : List DRule) (q : Key) → is_listed b q ≡ true → (s : DRule) × IsIn s b × (s.key ≡ Some q)
rule_of_listed b q e = let found = any_in (λ (r : DRule). option_map_or (same_key q) r.key false) b e in (found.0, found.1, by found.0.key found.2)
  where
    by : (o : Option Key) → option_map_or (same_key q) o false ≡ true → o ≡ Some q
    by None h = absurd (let f : false ≡ true = h in cc)
    by (Some k) h = ap (λ (x : Key). Some x) (sym (same_key-true q k h))

pub not_same : (first : Option Key) (q : Key) → first ≢ Some q → option_eq same_key first (Some q) ≡ false
not_same None q other = refl
not_same (Some k) q other = by (same_key k q) refl
  where
    by : (t : Bool) → same_key k q ≡ t → same_key k q ≡ false
    by true e = absurd (other (ap (λ (x : Key). Some x) (same_key-true k q e)))
    by false e = e

-- none of the keys that come by the wildcard and that the second definition lists takes less, but for the one that is left out
pub inner_within : (other : Key → ℕ) (a b : List DRule) (except : Option Key) (q : Key) → is_listed a q ≡ false → is_listed b q ≡ true → except ≢ Some q
    → cheapest (inner_length other a except) b ≤ other q
inner_within other a b except q unlisted listed apart =
    let s = rule_of_listed b q listed in
    let all = cheapest_in (inner_length other a except) too_long b s.0 s.1 in
    let own : inner_length other a except s.0 ≡ (if is_listed a q || option_eq same_key except (Some q) then too_long else capped (other q)) =
    ap (λ (o : Option Key). option_map_or (λ key. if is_listed a key || option_eq same_key except (Some key) then too_long else capped (other key)) o too_long) s.2 in
    let free : (is_listed a q || option_eq same_key except (Some q)) ≡ false = ap (λ (t : Bool). t || option_eq same_key except (Some q)) unlisted ∙ not_same except q apart in
    let same : (if is_listed a q || option_eq same_key except (Some q) then too_long else capped (other q)) ≡ capped (other q) = ap (λ (t : Bool). if t then too_long else capped (other q)) free in
    omega (arith, all, own, same)

-- with a key left out the shortest is no shorter
pub inner_less : (other : Key → ℕ) (a b : List DRule) (except : Option Key) → cheapest (inner_length other a None) b ≤ cheapest (inner_length other a except) b
inner_less other a b except = cheapest_more (inner_length other a None) (inner_length other a except) too_long too_long b (omega arith) (λ r. by r.key)
  where
    step : (t u : Bool) (n : ℕ) → (if t || false then too_long else capped n) ≤ (if t || u then too_long else capped n)
    step true u n = omega arith
    step false true n = omega arith
    step false false n = omega arith

    by : (o : Option Key) → option_map_or (λ key. if is_listed a key || option_eq same_key None (Some key) then too_long else capped (other key)) o too_long
        ≤ option_map_or (λ key. if is_listed a key || option_eq same_key except (Some key) then too_long else capped (other key)) o too_long
    by None = omega arith
    by (Some key) = step (is_listed a key) (option_eq same_key except (Some key)) (other key)
