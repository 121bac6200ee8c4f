-- The levels that are written for lines of too few AVPs by the wildcard have too few.
use Rattle.std.proofs.Common.{◌≡◌, ℕ, zero, suc, ◌+◌, ◌-◌, ◌*◌, ◌^◌, ◌<◌, ◌≤◌, Bool, true, false, cond, List, [], ◌∷◌, Option, Some, None, refl, sym, ap, subst, ◌∙◌, arith, inl, inr}
use Rattle.std.specs.Prelude.{not, min, max, nat_le, ◌||◌, ◌==◌, is_some, fold, if◌then◌else◌}
use Rattle.std.specs.Option.{option_map_or}
use Rattle.std.proofs.Math.Nat.{mul-le-mul_left}
use Rattle.std.proofs.lemmas.Bool.{leb-true}
use Rattle.dia_wire.specs.declared.Key.{Key}
use Rattle.dia_book.specs.Keys.{same_key}
use Rattle.dia_book.specs.declared.DRule.{DRule}
use Rattle.dia_book.proofs.SameKeys.{same_key-true}
use Rattle.dia_valid.specs.Valid.{is_listed}
use Rattle.dia_valid.proofs.RuleCounts.{counts_key}
use Rattle.dia_valid.specs.Rules.{wildcard_of}
use Rattle.dia_valid.proofs.Members.{IsIn, contains_in}
use Rattle.dia_valid.proofs.RulesOfKeys.{is_listed_by}
use Rattle.dia_breaking_levels.specs.declared.demand.Wanted.{Wanted}
use Rattle.dia_breaking_levels.specs.declared.floor.Floor.{Floor}
use Rattle.dia_breaking_levels.specs.declared.line.Reason.TheVariants.{MissingOthers}
use Rattle.dia_breaking_levels.specs.Chosen.{PlainDemand, Reads, below_least, cheapest_key, count_of, demand, inner_first, level_parts, missing_others_demand, other_count, reads_between, wants, wild_min}
use Rattle.dia_breaking_levels.specs.CountsAndRanks.{AreSound, strangers}
use Rattle.dia_breaking_levels.specs.Exact.{floor_between}
use Rattle.dia_breaking_levels.specs.Levels.{ShowsAt}
use Rattle.dia_breaking_levels.specs.LevelTests.{too_long, capped, few_others, filler, many, missing_others_length, refilled, rule_floor, swapped, base_length, needed_up}
use Rattle.dia_breaking_levels.specs.Strangers.{needed, needs}
use Rattle.dia_breaking_levels.specs.Showing.{HaveLengths, part_keys}
use Rattle.dia_breaking_levels.proofs.EachLine.{the_wildcard}
use Rattle.dia_breaking_levels.proofs.FloorBounds.{needed_is}
use Rattle.dia_breaking_levels.proofs.LeastLevels.{by_key, not_both}
use Rattle.dia_breaking_levels.proofs.PartKeys.{of_other, of_rule, of_rule-key, of_rule-wild, passing_plain}
use Rattle.dia_breaking_levels.proofs.RuleSums.{sum_of}
use Rattle.dia_breaking_levels.proofs.ShownFew.{as_many, neither_of, no_key, one_rule_most, unless_false, unless_true}
use Rattle.dia_breaking_levels.proofs.ShownFillers.{cheapest_unlisted, inner_first_found}
use Rattle.dia_breaking_levels.proofs.Strangers.{needs_key, needs_none}

-- ---- what is needed has room in the least level

-- what is computed is exact, up to what is too long
base_from : (listed : Key → ℕ) (low start : ℕ) (rules : List DRule) → start ≤ too_long
    → fold (λ sum rule. capped (sum + many rule.min (option_map_or listed rule.key low))) start rules ≡ capped (start + sum_of (rule_floor listed low) rules)
base_from listed low start [] within = omega (arith, within)
base_from listed low start (rule ∷ rules) within =
    let ih = base_from listed low (capped (start + many rule.min (option_map_or listed rule.key low))) rules (omega arith) in
    omega (arith, ih)

pub base_exact : (listed : Key → ℕ) (low : ℕ) (rules : List DRule) → base_length listed low rules ≡ capped (sum_of (rule_floor listed low) rules)
base_exact listed low rules = let all = base_from listed low 0 rules (omega arith) in omega (arith, all)

pub needs_floor : (listed : Key → ℕ) (low : ℕ) (b : List DRule) (s : DRule) → HaveLengths listed → needs b s ≤ rule_floor listed low s
needs_floor listed low b s have = by s.key refl
  where
    by : (o : Option Key) → s.key ≡ o → needs b s ≤ rule_floor listed low s
    by None e = let none = needs_none b s e in omega (arith, none)
    by (Some k) e = least (is_listed b k) refl
      where
        own : rule_floor listed low s ≡ s.min * listed k
        own = ap (λ (o : Option Key). s.min * option_map_or listed o low) e

        least : (t : Bool) → is_listed b k ≡ t → needs b s ≤ rule_floor listed low s
        least true h = let none = needs_key b s k true e h in omega (arith, none)
        least false h =
            let all = needs_key b s k false e h in
            let le = as_many s.min (listed k) (have k) in
            omega (arith, all, own, le)

pub needed_floor : (listed : Key → ℕ) (low : ℕ) (b rules : List DRule) → HaveLengths listed → needed b rules ≤ sum_of (rule_floor listed low) rules
needed_floor listed low b [] have = omega arith
needed_floor listed low b (s ∷ rules) have =
    let here = needs_floor listed low b s have in
    let ih = needed_floor listed low b rules have in
    omega (arith, here, ih)

-- where a message has room for the least level, what is needed is counted
pub needed_counted : (listed : Key → ℕ) (low : ℕ) (a b : List DRule) → HaveLengths listed → base_length listed low a < too_long → (needed_up b a ≡ needed b a) × (needed b a < too_long)
needed_counted listed low a b have room =
    let exact = base_exact listed low a in
    let le = needed_floor listed low b a have in
    let up = needed_is b a in
    (omega (arith, room, exact, le, up), omega (arith, room, exact, le))

pub refilled_base : (base low length m : ℕ) (wild : Option DRule) → low ≤ length → refilled base low length m wild < too_long → base < too_long
refilled_base base low length m None le short = short
refilled_base base low length m (Some w) le short =
    let more = mul-le-mul_left (w.min - m) le in
    let is : swapped base (many (w.min - m) low) (many (w.min - m) length) < too_long = short in
    omega (arith, more, is)

-- ---- what rules have besides what they need

sums_needed : (b : List DRule) (g extra : DRule → ℕ) (rules : List DRule) → ((s : DRule) → IsIn s rules → g s ≤ needs b s + extra s) → sum_of g rules ≤ needed b rules + sum_of extra rules
sums_needed b g extra [] each = omega arith
sums_needed b g extra (s ∷ rules) each =
    let here = each s (inl refl) in
    let ih = sums_needed b g extra rules (λ t i. each t (inr i)) in
    omega (arith, here, ih)

sum_none : (rules : List DRule) → sum_of (λ s. 0) rules ≡ 0
sum_none [] = refl
sum_none (s ∷ rules) = let ih = sum_none rules in omega (arith, ih)

module _ (listed other : Key → ℕ) (keys : List Key) (a b : List DRule) (sound : AreSound a) (sound_b : AreSound b) (have : HaveLengths listed) where
  abbrev r : Reads
  r = reads_between a b listed other keys

  abbrev f : Floor
  f = floor_between listed other keys a b

  abbrev level : PlainDemand → List Key
  level d = part_keys (level_parts a d)

  abbrev is_stranger : Key → Bool
  is_stranger k = not (is_listed b k)

  abbrev few_demand : Option Wanted → PlainDemand
  few_demand first = demand first None (inner_first r)

  -- what is needed, and what is wanted by the wildcard
  few_of : (first : Option Wanted) (extra : DRule → ℕ) → ((q : Key) → is_listed a q ≡ true → count_of first q ≡ 0)
      → ((s : DRule) → IsIn s a → s.key ≡ None → of_other is_stranger a first ≤ extra s) → strangers b (level (demand first None (inner_first r))) ≤ needed b a + sum_of extra a
  few_of first extra none_wanted by_wild =
      let all = passing_plain is_stranger a (few_demand first) (λ i. refl) in
      let le = sums_needed b (of_rule is_stranger a (few_demand first) 0) extra a (λ s i. by s i s.key refl) in
      omega (arith, all, le)
    where
      by : (s : DRule) → IsIn s a → (o : Option Key) → s.key ≡ o → of_rule is_stranger a (few_demand first) 0 s ≤ needs b s + extra s
      by s i None e =
          let own = of_rule-wild is_stranger a (few_demand first) 0 s e in
          let le = by_wild s i e in
          let rest = no_key is_stranger (inner_first r) (s.min - other_count a first - 0 - 0) (λ k h. ap not (inner_first_found listed other keys a b k h).1) in
          omega (arith, own, le, rest)
      by s i (Some q) e = test (is_listed b q) refl
        where
          own : of_rule is_stranger a (few_demand first) 0 s ≡ cond (not (is_listed b q)) (min (min (max (max (count_of first q) 0) s.min + 0) (2 ^ 64 - 1)) (2 ^ 32 - 1)) 0
          own = of_rule-key is_stranger a (few_demand first) 0 s q e

          test : (t : Bool) → is_listed b q ≡ t → of_rule is_stranger a (few_demand first) 0 s ≤ needs b s + extra s
          test true h =
              let none : of_rule is_stranger a (few_demand first) 0 s ≡ 0 =
              own ∙ ap (λ (t : Bool). cond (not t) (min (min (max (max (count_of first q) 0) s.min + 0) (2 ^ 64 - 1)) (2 ^ 32 - 1)) 0) h in
              omega (arith, none)
          test false h =
              let all : of_rule is_stranger a (few_demand first) 0 s ≡ min (min (max (max (count_of first q) 0) s.min + 0) (2 ^ 64 - 1)) (2 ^ 32 - 1) =
              own ∙ ap (λ (t : Bool). cond (not t) (min (min (max (max (count_of first q) 0) s.min + 0) (2 ^ 64 - 1)) (2 ^ 32 - 1)) 0) h in
              let none = none_wanted q (is_listed_by a q s i e) in
              let needs_is = needs_key b s q false e h in
              omega (arith, all, none, needs_is)

  missing_others_most : (w : DRule) → IsIn w b → w.key ≡ None → few_others f (w.min - 1) f.wild < too_long → strangers b (level (missing_others_demand r)) ≤ w.min - 1
  missing_others_most w i e short = by (cheapest_key r) refl
    where
      parts : (nat_le f.needed (w.min - 1) ≡ true) × (refilled f.base (filler f) f.inner (w.min - 1 - f.needed) f.wild < too_long)
      parts = unless_false (nat_le f.needed (w.min - 1)) (refilled f.base (filler f) f.inner (w.min - 1 - f.needed) f.wild) short

      counted : (needed_up b a ≡ needed b a) × (needed b a < too_long)
      counted = needed_counted listed (filler f) a b have (refilled_base f.base (filler f) f.inner (w.min - 1 - f.needed) f.wild (omega arith) parts.1)

      room : needed b a ≤ w.min - 1
      room = let le : needed_up b a ≤ w.min - 1 = leb-true f.needed (w.min - 1) parts.0 in let same = counted.0 in omega (arith, le, same)

      wanted : ℕ
      wanted = min (below_least (wildcard_of b) - needed_up b a) (wild_min f)

      wanted_most : wanted ≤ w.min - 1 - needed b a
      wanted_most =
          let own : below_least (wildcard_of b) ≡ w.min - 1 = ap below_least (the_wildcard b w sound_b (contains_in b w i, e)) in
          let same = counted.0 in
          omega (arith, own, same)

      by : (o : Option Key) → cheapest_key r ≡ o → strangers b (level (missing_others_demand r)) ≤ w.min - 1
      by None h =
          let le = few_of None (λ s. 0) (λ q j. refl) (λ s j g. omega arith) in
          let none = sum_none a in
          subst (λ (o : Option Key). strangers b (level (demand (wants o wanted) None (inner_first r))) ≤ w.min - 1) (sym h) (omega (arith, le, none, room))
      by (Some k) h =
          let le = few_of (wants (Some k) wanted) (λ s. cond (counts_key a s k) (w.min - 1 - needed b a) 0) none_wanted by_wild in
          let most = one_rule_most a k (w.min - 1 - needed b a) (λ s. cond (counts_key a s k) (w.min - 1 - needed b a) 0) sound (λ s j. omega arith) in
          subst (λ (o : Option Key). strangers b (level (demand (wants o wanted) None (inner_first r))) ≤ w.min - 1) (sym h) (omega (arith, le, most, room))
        where
          unlisted : is_listed a k ≡ false
          unlisted = cheapest_unlisted listed other keys a b k h

          none_wanted : (q : Key) → is_listed a q ≡ true → count_of (wants (Some k) wanted) q ≡ 0
          none_wanted q listed_q = test (same_key k q) refl
            where
              test : (t : Bool) → same_key k q ≡ t → (if t then wanted else 0) ≡ 0
              test true g = absurd (not_both (is_listed a q) listed_q (ap (is_listed a) (sym (same_key-true k q g)) ∙ unlisted))
              test false g = refl

          one : (t : Bool) → cond (not t) (min wanted (2 ^ 32 - 1)) 0 ≤ wanted
          one true = omega arith
          one false = omega arith

          by_wild : (s : DRule) → IsIn s a → s.key ≡ None → of_other is_stranger a (wants (Some k) wanted) ≤ cond (counts_key a s k) (w.min - 1 - needed b a) 0
          by_wild s j g =
              let own : of_other is_stranger a (wants (Some k) wanted) ≡ cond (not (is_listed b k)) (min wanted (2 ^ 32 - 1)) 0 =
              ap (λ (t : Bool). if t then 0 else cond (not (is_listed b k)) (min wanted (2 ^ 32 - 1)) 0) unlisted in
              let le = one (is_listed b k) in
              let counts : counts_key a s k ≡ true = ap (by_key a k) g ∙ ap not unlisted in
              subst (λ (t : Bool). of_other is_stranger a (wants (Some k) wanted) ≤ cond t (w.min - 1 - needed b a) 0) (sym counts) (omega (arith, own, le, wanted_most))

  pub missing_others_shown : (w : DRule) → IsIn w b → missing_others_length f w < too_long → ShowsAt a b (level (missing_others_demand r)) MissingOthers w.key
  missing_others_shown w i short = by w.key refl
    where
      parts : ((is_some w.key || (w.min == 0)) ≡ false) × (few_others f (w.min - 1) f.wild < too_long)
      parts = unless_true (is_some w.key || (w.min == 0)) (few_others f (w.min - 1) f.wild) short

      free : (is_some w.key ≡ false) × ((w.min == 0) ≡ false)
      free = neither_of (is_some w.key) (w.min == 0) parts.0

      above_zero : (n : ℕ) → (n == 0) ≡ false → 0 < n
      above_zero zero h = absurd (let bad : true ≡ false = h in cc)
      above_zero (suc n) h = omega arith

      by : (o : Option Key) → w.key ≡ o → ShowsAt a b (level (missing_others_demand r)) MissingOthers o
      by (Some k) e = absurd (let bad : true ≡ false = sym (ap (λ (o : Option Key). is_some o) e) ∙ free.0 in cc)
      by None e =
          let most = missing_others_most w i e parts.1 in
          let some = above_zero w.min free.1 in
          (w, (contains_in b w i, e), omega (arith, most, some))
