-- The levels that are written for lines of too few AVPs have too few.
use Rattle.std.proofs.Common.{◌≡◌, ℕ, zero, suc, ◌+◌, ◌-◌, ◌*◌, ◌^◌, ◌<◌, ◌≤◌, Bool, true, false, cond, List, [], ◌∷◌, Option, Some, None, refl, sym, ap, subst, ◌∙◌, arith, inl, inr}
use Rattle.std.specs.Prelude.{◌⊎◌, not, min, max, nat_le, ◌||◌, ◌==◌, if◌then◌else◌}
use Rattle.std.specs.Option.{option_eq, option_map_or}
use Rattle.std.proofs.Math.Nat.{mul-le-mul_left}
use Rattle.std.proofs.lemmas.Bool.{leb-true}
use Rattle.dia_wire.specs.declared.Key.{Key}
use Rattle.dia_book.specs.Keys.{same_key}
use Rattle.dia_book.specs.declared.DRule.{DRule}
use Rattle.dia_book.proofs.SameKeys.{same_key-refl, same_key-symm, same_key-true}
use Rattle.dia_valid.specs.Valid.{is_listed}
use Rattle.dia_valid.proofs.RuleCounts.{counts_key}
use Rattle.dia_valid.specs.Rules.{rule_of}
use Rattle.dia_valid.proofs.Members.{IsIn, contains_in}
use Rattle.dia_valid.proofs.RulesOfKeys.{is_listed_by}
use Rattle.dia_breaking_levels.specs.declared.floor.Floor.{Floor}
use Rattle.dia_breaking_levels.specs.declared.line.Reason.TheVariants.{Missing}
use Rattle.dia_breaking_levels.specs.Chosen.{PlainDemand, Reads, below_least, cheapest_key, count_of, demand, extra_at, level_parts, missing_demand, next_key, reads_between, wants, wild_min}
use Rattle.dia_breaking_levels.specs.CountsAndRanks.{AreSound, times}
use Rattle.dia_breaking_levels.specs.Exact.{first_inner, floor_between}
use Rattle.dia_breaking_levels.specs.Levels.{ShowsAt}
use Rattle.dia_breaking_levels.specs.LevelTests.{too_long, at_most, listed_at_most, missing_length}
use Rattle.dia_breaking_levels.specs.Showing.{part_keys}
use Rattle.dia_breaking_levels.proofs.CountsAndRanks.{one_rule}
use Rattle.dia_breaking_levels.proofs.LeastLevels.{by_key, count_apart, not_both, share, shares_within}
use Rattle.dia_breaking_levels.proofs.LineBounds.{is_rule, no_rule}
use Rattle.dia_breaking_levels.proofs.PartKeys.{of_key, of_rule, of_rule-key, of_rule-wild, of_wild, passing_plain}
use Rattle.dia_breaking_levels.proofs.RuleSums.{shares_sum, sum_of, sums_each}
use Rattle.dia_breaking_levels.proofs.ShownFillers.{cheapest_found, cheapest_unlisted, next_found}

-- ---- sums and tests

-- what only the rule has that counts a key
pub one_rule_most : (a : List DRule) (key : Key) (m : ℕ) (g : DRule → ℕ) → AreSound a → ((s : DRule) → IsIn s a → g s ≤ cond (counts_key a s key) m 0) → sum_of g a ≤ m
one_rule_most a key m g sound each =
    let within = shares_within (counts_key a) (λ q. m) a (key ∷ []) (count_apart a a sound.distinct (λ s i. i)) in
    let sum = shares_sum (counts_key a) (λ q. m) a (key ∷ []) in
    let le = sums_each g (λ s. share (λ q. m) (counts_key a s) (key ∷ [])) a (λ s i. let h = each s i in omega (arith, h)) in
    omega (arith, within, sum, le)

pub as_many : (n length : ℕ) → 0 < length → n ≤ n * length
as_many n length some = let all = mul-le-mul_left n (let le : 1 ≤ length = omega (arith, some) in le) in omega (arith, all)

-- one of two lengths isn't too long
pub unless_true : (t : Bool) (n : ℕ) → (if t then too_long else n) < too_long → (t ≡ false) × (n < too_long)
unless_true true n less = absurd (omega (arith, less))
unless_true false n less = (refl, less)

pub unless_false : (t : Bool) (n : ℕ) → (if t then n else too_long) < too_long → (t ≡ true) × (n < too_long)
unless_false true n less = (refl, less)
unless_false false n less = absurd (omega (arith, less))

pub neither_of : (t u : Bool) → (t || u) ≡ false → (t ≡ false) × (u ≡ false)
neither_of false u e = (refl, e)
neither_of true u e = absurd (let f : true ≡ false = e in cc)

apart : (rules : List DRule) (k key : Key) → is_listed rules k ≡ false → is_listed rules key ≡ true → same_key k key ≡ false
apart rules k key none some = by (same_key k key) refl
  where
    by : (t : Bool) → same_key k key ≡ t → same_key k key ≡ false
    by true e = absurd (not_both (is_listed rules key) some (ap (is_listed rules) (sym (same_key-true k key e)) ∙ none))
    by false e = e

pub no_key : (p : Key → Bool) (o : Option Key) (n : ℕ) → ((k : Key) → o ≡ Some k → p k ≡ false) → of_key p o n ≡ 0
no_key p None n each = refl
no_key p (Some k) n each = ap (λ (t : Bool). cond t (min n (2 ^ 32 - 1)) 0) (each k refl)

module _ (listed other : Key → ℕ) (keys : List Key) (a b : List DRule) (sound : AreSound a) (sound_b : AreSound b) where
  abbrev r : Reads
  r = reads_between a b listed other keys

  abbrev f : Floor
  f = floor_between listed other keys a b

  abbrev level : PlainDemand → List Key
  level d = part_keys (level_parts a d)

  abbrev is_of : Key → Key → Bool
  is_of key k = same_key k key

  -- ---- no more than so many

  most_of : (key : Key) (m : ℕ) (d : PlainDemand) → ((i : ℕ) → extra_at d i ≡ 0)
      → ((s : DRule) → IsIn s a → s.key ≡ Some key → max (max (count_of d.first key) (count_of d.second key)) s.min ≤ m)
      → ((n : ℕ) → of_wild (is_of key) a d n 0 ≤ cond (not (is_listed a key)) m 0) → times key (level d) ≤ m
  most_of key m d plain by_rule by_wild =
      let all = passing_plain (is_of key) a d plain in
      let le = one_rule_most a key m (of_rule (is_of key) a d 0) sound (λ s i. by s i s.key refl) in
      omega (arith, all, le)
    where
      by : (s : DRule) → IsIn s a → (o : Option Key) → s.key ≡ o → of_rule (is_of key) a d 0 s ≤ cond (counts_key a s key) m 0
      by s i None e =
          let own = of_rule-wild (is_of key) a d 0 s e in
          let counts : counts_key a s key ≡ not (is_listed a key) = ap (by_key a key) e in
          let le = by_wild s.min in
          subst (λ (t : Bool). of_rule (is_of key) a d 0 s ≤ cond t m 0) (sym counts) (omega (arith, own, le))
      by s i (Some q) e = test (same_key q key) refl
        where
          own : of_rule (is_of key) a d 0 s ≡ cond (same_key q key) (min (min (max (max (count_of d.first q) (count_of d.second q)) s.min + 0) (2 ^ 64 - 1)) (2 ^ 32 - 1)) 0
          own = of_rule-key (is_of key) a d 0 s q e

          test : (t : Bool) → same_key q key ≡ t → of_rule (is_of key) a d 0 s ≤ cond (counts_key a s key) m 0
          test false h =
              let none : of_rule (is_of key) a d 0 s ≡ 0 =
              own ∙ ap (λ (t : Bool). cond t (min (min (max (max (count_of d.first q) (count_of d.second q)) s.min + 0) (2 ^ 64 - 1)) (2 ^ 32 - 1)) 0) h in
              omega (arith, none)
          test true h =
              let same : q ≡ key = same_key-true q key h in
              let counts : counts_key a s key ≡ true = ap (by_key a key) (e ∙ ap (λ (k : Key). Some k) same) ∙ same_key-refl key in
              let le = by_rule s i (e ∙ ap (λ (k : Key). Some k) same) in
              let most : max (max (count_of d.first q) (count_of d.second q)) s.min ≤ m = subst (λ (k : Key). max (max (count_of d.first k) (count_of d.second k)) s.min ≤ m) (sym same) le in
              let all : of_rule (is_of key) a d 0 s ≡ min (min (max (max (count_of d.first q) (count_of d.second q)) s.min + 0) (2 ^ 64 - 1)) (2 ^ 32 - 1) =
              own ∙ ap (λ (t : Bool). cond t (min (min (max (max (count_of d.first q) (count_of d.second q)) s.min + 0) (2 ^ 64 - 1)) (2 ^ 32 - 1)) 0) h in
              subst (λ (t : Bool). of_rule (is_of key) a d 0 s ≤ cond t m 0) (sym counts) (omega (arith, all, most))

  -- ---- too few

  missing_most : (key : Key) (rule : DRule) → IsIn rule b → rule.key ≡ Some key → at_most f key (rule.min - 1) (rule_of a key) f.wild < too_long
      → times key (level (missing_demand r (Some key))) ≤ rule.min - 1
  missing_most key rule i e short = by (is_listed a key) refl
    where
      listed_b : is_listed b key ≡ true
      listed_b = is_listed_by b key rule i e

      cheapest : PlainDemand
      cheapest = demand None None (cheapest_key r)

      next : ℕ → PlainDemand
      next n = demand (wants (Some key) n) None (next_key r)

      -- without the key
      without : ((k : Key) → cheapest_key r ≡ Some k → same_key k key ≡ false) → ((s : DRule) → IsIn s a → s.key ≡ Some key → s.min ≤ rule.min - 1) → times key (level cheapest) ≤ rule.min - 1
      without others few =
          most_of key (rule.min - 1) cheapest (λ j. refl) (λ s j h. let le = few s j h in omega (arith, le))
          (λ n. let none = no_key (is_of key) (cheapest_key r) (n - 0 - 0 - 0) others in omega (arith, none))

      of_rules : (o : Option DRule) → rule_of a key ≡ o → (s : DRule) → IsIn s a → s.key ≡ Some key → s.min ≤ rule.min - 1
      of_rules None h s j g = absurd (not_both (is_listed a key) (is_listed_by a key s j g) (no_rule a key h))
      of_rules (Some t) h s j g =
          let there = is_rule a key t h in
          let same : t ≡ s = one_rule a t s sound there.0 j (there.1 ∙ sym g) in
          let least : listed_at_most f.base (rule.min - 1) t < too_long = subst (λ (o : Option DRule). at_most f key (rule.min - 1) o f.wild < too_long) h short in
          let within = leb-true t.min (rule.min - 1) (unless_false (nat_le t.min (rule.min - 1)) f.base least).0 in
          let own : t.min ≡ s.min = ap (λ (u : DRule). u.min) same in
          omega (arith, within, own)

      below : below_least (rule_of b key) ≤ rule.min - 1
      below = least (rule_of b key) refl
        where
          least : (o : Option DRule) → rule_of b key ≡ o → below_least (rule_of b key) ≤ rule.min - 1
          least None h = let none : below_least (rule_of b key) ≡ 0 = ap below_least h in omega (arith, none)
          least (Some t) h =
              let there = is_rule b key t h in
              let same : t ≡ rule = one_rule b t rule sound_b there.0 i (there.1 ∙ sym e) in
              let own : below_least (rule_of b key) ≡ rule.min - 1 = ap below_least h ∙ ap (λ (u : DRule). u.min - 1) same in
              omega (arith, own)

      filled : is_listed a key ≡ false → option_eq same_key (cheapest_key r) (Some key) ≡ true → (n : ℕ) → n ≤ rule.min - 1 → times key (level (next n)) ≤ rule.min - 1
      filled none is n few =
          most_of key (rule.min - 1) (next n) (λ j. refl) (λ s j h. absurd (not_both (is_listed a key) (is_listed_by a key s j h) none))
          (λ wild. let rest = no_key (is_of key) (next_key r) (wild - (if is_listed a key then 0 else n) - 0 - 0) others in let own = first_part wild in
          subst (λ (t : Bool). of_wild (is_of key) a (next n) wild 0 ≤ cond (not t) (rule.min - 1) 0) (sym none) (omega (arith, own, rest)))
        where
          first_is : first_inner other a b ≡ Some key
          first_is = from (cheapest_key r) refl is
            where
              from : (o : Option Key) → cheapest_key r ≡ o → option_eq same_key o (Some key) ≡ true → first_inner other a b ≡ Some key
              from None h g = absurd (let bad : false ≡ true = g in cc)
              from (Some k) h g = of_two (cheapest_found listed other keys a b k h)
                where
                  same : k ≡ key
                  same = same_key-true k key g

                  of_two : ((is_listed a k ≡ false) × (is_listed b k ≡ true) × (first_inner other a b ≡ Some k)) ⊎ ((is_listed a k ≡ false) × (is_listed b k ≡ false))
                      → first_inner other a b ≡ Some key
                  of_two (inl found) = found.2 ∙ ap (λ (q : Key). Some q) same
                  of_two (inr found) = absurd (not_both (is_listed b key) listed_b (ap (is_listed b) (sym same) ∙ found.1))

          others : (k : Key) → next_key r ≡ Some k → same_key k key ≡ false
          others k h = of_two (next_found listed other keys a b k h)
            where
              of_two : (option_eq same_key (first_inner other a b) (Some k) ≡ false) ⊎ (is_listed b k ≡ false) → same_key k key ≡ false
              of_two (inl g) = same_key-symm k key ∙ sym (ap (λ (o : Option Key). option_eq same_key o (Some k)) first_is) ∙ g
              of_two (inr g) = apart b k key g listed_b

          first_part : (wild : ℕ) → of_wild (is_of key) a (next n) wild 0 ≤ rule.min - 1 + of_key (is_of key) (next_key r) (wild - (if is_listed a key then 0 else n) - 0 - 0)
          first_part wild = step (is_listed a key) (same_key key key)
            where
              step : (t u : Bool) → (if t then 0 else cond u (min n (2 ^ 32 - 1)) 0) + 0 + 0 + of_key (is_of key) (next_key r) (wild - (if t then 0 else n) - 0 - 0)
                  ≤ rule.min - 1 + of_key (is_of key) (next_key r) (wild - (if t then 0 else n) - 0 - 0)
              step true u = omega arith
              step false true = omega (arith, few)
              step false false = omega arith

      by : (t : Bool) → is_listed a key ≡ t → times key (level (missing_demand r (Some key))) ≤ rule.min - 1
      by true h =
          let le = without (λ k g. apart a k key (cheapest_unlisted listed other keys a b k g) h) (of_rules (rule_of a key) refl) in
          subst (λ (t : Bool). times key (level
          (if t || not (option_eq same_key (cheapest_key r) (Some key)) then cheapest else next (min (below_least (rule_of b key)) (wild_min f)))) ≤ rule.min - 1) (sym h) le
      by false h = test (option_eq same_key (cheapest_key r) (Some key)) refl
        where
          test : (u : Bool) → option_eq same_key (cheapest_key r) (Some key) ≡ u → times key (level (missing_demand r (Some key))) ≤ rule.min - 1
          test true g =
              let le = filled h g (min (below_least (rule_of b key)) (wild_min f)) (let most = below in omega (arith, most)) in
              subst (λ (t : Bool). times key (level
              (if t || not (option_eq same_key (cheapest_key r) (Some key)) then cheapest else next (min (below_least (rule_of b key)) (wild_min f)))) ≤ rule.min - 1) (sym h)
              (subst (λ (u : Bool). times key (level (if not u then cheapest else next (min (below_least (rule_of b key)) (wild_min f)))) ≤ rule.min - 1) (sym g) le)
          test false g =
              let le = without (λ k j. sym (ap (λ (o : Option Key). option_eq same_key o (Some key)) j) ∙ g) (of_rules (rule_of a key) refl) in
              subst (λ (t : Bool). times key (level
              (if t || not (option_eq same_key (cheapest_key r) (Some key)) then cheapest else next (min (below_least (rule_of b key)) (wild_min f)))) ≤ rule.min - 1) (sym h)
              (subst (λ (u : Bool). times key (level (if not u then cheapest else next (min (below_least (rule_of b key)) (wild_min f)))) ≤ rule.min - 1) (sym g) le)

  pub missing_shown : (rule : DRule) → IsIn rule b → missing_length f a rule < too_long → ShowsAt a b (level (missing_demand r rule.key)) Missing rule.key
  missing_shown rule i short = by rule.key refl
    where
      by : (o : Option Key) → rule.key ≡ o → ShowsAt a b (level (missing_demand r o)) Missing o
      by None e =
          let long : missing_length f a rule ≡ too_long =
          ap (λ (o : Option Key). option_map_or (λ k. if rule.min == 0 then too_long else at_most f k (rule.min - 1) (rule_of a k) f.wild) o too_long) e in
          absurd (omega (arith, long, short))
      by (Some key) e =
          let own : missing_length f a rule ≡ (if rule.min == 0 then too_long else at_most f key (rule.min - 1) (rule_of a key) f.wild) =
          ap (λ (o : Option Key). option_map_or (λ k. if rule.min == 0 then too_long else at_most f k (rule.min - 1) (rule_of a k) f.wild) o too_long) e in
          let parts = unless_true (rule.min == 0) (at_most f key (rule.min - 1) (rule_of a key) f.wild) (omega (arith, own, short)) in
          let most = missing_most key rule i e parts.1 in
          let some = above_zero rule.min parts.0 in
          (rule, (contains_in b rule i, e), omega (arith, most, some))
        where
          above_zero : (n : ℕ) → (n == 0) ≡ false → 0 < n
          above_zero zero h = absurd (let bad : true ≡ false = h in cc)
          above_zero (suc n) h = omega arith
