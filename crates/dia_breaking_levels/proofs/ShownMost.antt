-- The levels that are written for lines of too many AVPs by the wildcard have too many.
use Rattle.std.proofs.Common.{◌≡◌, ℕ, zero, suc, ◌+◌, ◌-◌, ◌*◌, ◌^◌, ◌<◌, ◌≤◌, Bool, true, false, cond, List, [], ◌∷◌, ◌++◌, Option, Some, None, refl, sym, ap, subst, ◌∙◌, arith, inl, inr}
use Rattle.std.specs.Prelude.{not, min, max, nat_lt, ◌||◌, ◌==◌, is_some, find, fold, option_and_then, slice_get, unwrap_or, if◌then◌else◌}
use Rattle.std.specs.Option.{option_eq, option_map_or}
use Rattle.std.proofs.Math.Nat.{mul_comm}
use Rattle.std.proofs.lemmas.Bool.{eqb-true, ltb-true, ne_eqb}
use Rattle.std.proofs.lemmas.List.Sums.{sum_by-append, sum_by-cons}
use Rattle.dia_wire.specs.declared.Key.{Key}
use Rattle.dia_book.specs.Keys.{same_key}
use Rattle.dia_book.specs.declared.DRule.{DRule}
use Rattle.dia_valid.specs.Valid.{is_listed}
use Rattle.dia_valid.proofs.Members.{IsIn, contains_in}
use Rattle.dia_breaking_levels.specs.declared.cut.Cut.{Cut}
use Rattle.dia_breaking_levels.specs.declared.floor.Floor.{Floor}
use Rattle.dia_breaking_levels.specs.declared.line.Reason.TheVariants.{TooManyOthers}
use Rattle.dia_breaking_levels.specs.declared.steps.Step.{Step}
use Rattle.dia_breaking_levels.specs.Chosen.{PlainDemand, Reads, cheapest_key, cut_after, cut_following, extra_of, extras_of, level_parts, many_demand, outer_key, reads_between, steps_to, taken_of, wanted_others}
use Rattle.dia_breaking_levels.specs.CountsAndRanks.{AreSound, strangers}
use Rattle.dia_breaking_levels.specs.Cuts.{IsCut}
use Rattle.dia_breaking_levels.specs.Exact.{floor_between, least_inner}
use Rattle.dia_breaking_levels.specs.Levels.{ShowsAt}
use Rattle.dia_breaking_levels.specs.LevelTests.{too_long, capped, filler, inner_length, is_outside, outer_length, rule_floor, too_many_others_length}
use Rattle.dia_breaking_levels.specs.Steps.{IsLeastMost, IsTakenInOrder, greatest, room_above, steps, steps_of}
use Rattle.dia_breaking_levels.specs.Strangers.{needed, needs}
use Rattle.dia_breaking_levels.specs.Showing.{HaveLengths, part_keys}
use Rattle.dia_breaking_levels.proofs.EachLine.{the_wildcard}
use Rattle.dia_breaking_levels.proofs.PartKeys.{of_key, of_rule, of_rule-key, of_rule-wild, of_wild, passing_level, sum_at}
use Rattle.dia_breaking_levels.proofs.RuleSums.{one_of_sum, sum_of}
use Rattle.dia_breaking_levels.proofs.ShownFew.{as_many, neither_of, unless_true}
use Rattle.dia_breaking_levels.proofs.ShownFillers.{outer_found}
use Rattle.dia_breaking_levels.proofs.ShownOthers.{base_exact, needed_counted}
use Rattle.dia_breaking_levels.proofs.ShownTaken.{following, cut_within, of_length, same_length, takes, takes-append, takes_wanted, wanted_few, wanted_there}
use Rattle.dia_breaking_levels.proofs.Strangers.{needs_key, needs_none}

-- ---- steps that take nothing

of_length-append : (t : ℕ) (xs ys : List Step) → of_length t (xs ++ ys) ≡ of_length t xs + of_length t ys
of_length-append t xs ys = sum_by-append (λ (step : Step). if step.length == t then step.count else 0) xs ys

of_length-cons : (t : ℕ) (x : Step) (xs : List Step) → of_length t (x ∷ xs) ≡ (if x.length == t then x.count else 0) + of_length t xs
of_length-cons t x xs = sum_by-cons (λ (step : Step). if step.length == t then step.count else 0) x xs

not_zero : (n count : ℕ) → 0 < n → (if n == 0 then count else 0) ≡ 0
not_zero n count some = ap (λ (t : Bool). if t then count else 0) (ne_eqb n 0 (λ e. omega (arith, some, e)))

at_most : (t : Bool) (n : ℕ) → (if t then n else 0) ≤ n
at_most true n = omega arith
at_most false n = omega arith

free_of : (listed : Key → ℕ) (low outer : ℕ) (b : List DRule) (wanted : ℕ) (s : DRule) → HaveLengths listed → 0 < low → 0 < outer
    → of_length 0 (steps_of listed low outer b wanted s) ≤ rule_floor listed low s
free_of listed low outer b wanted s have some_low some_outer = by s.key refl
  where
    by : (o : Option Key) → s.key ≡ o → of_length 0 (steps_of listed low outer b wanted s) ≤ rule_floor listed low s
    by None e =
        let swap : Step = record { length = outer - low; count = s.min } in
        let more : Step = record { length = outer; count = room_above wanted s } in
        let own : steps_of listed low outer b wanted s ≡ swap ∷ more ∷ [] =
        ap (λ (o : Option Key). option_map_or (λ key. if is_listed b key then [] else record { length = listed key; count = room_above wanted s } ∷ []) o (swap ∷ more ∷ [])) e in
        let count = ap (of_length 0) own in
        let first = of_length-cons 0 swap (more ∷ []) in
        let second = of_length-cons 0 more [] in
        let most = at_most (outer - low == 0) s.min in
        let none = not_zero outer (room_above wanted s) some_outer in
        let floor : rule_floor listed low s ≡ s.min * low = ap (λ (o : Option Key). s.min * option_map_or listed o low) e in
        let le = as_many s.min low some_low in
        omega (arith, count, first, second, most, none, floor, le)
    by (Some k) e =
        let own : steps_of listed low outer b wanted s ≡ (if is_listed b k then [] else record { length = listed k; count = room_above wanted s } ∷ []) =
        ap (λ (o : Option Key). option_map_or (λ key. if is_listed b key then [] else record { length = listed key; count = room_above wanted s } ∷ []) o
        (record { length = outer - low; count = s.min } ∷ record { length = outer; count = room_above wanted s } ∷ [])) e in
        let count = ap (of_length 0) own in
        let none = test (is_listed b k) in
        omega (arith, count, none)
      where
        test : (t : Bool) → of_length 0 (if t then [] else record { length = listed k; count = room_above wanted s } ∷ []) ≡ 0
        test true = refl
        test false =
            let one = of_length-cons 0 (record { length = listed k; count = room_above wanted s }) [] in
            let none = not_zero (listed k) (room_above wanted s) (have k) in
            omega (arith, one, none)

free_steps : (listed : Key → ℕ) (low outer : ℕ) (b : List DRule) (wanted : ℕ) (rules : List DRule) → HaveLengths listed → 0 < low → 0 < outer
    → of_length 0 (steps listed low outer b wanted rules) ≤ sum_of (rule_floor listed low) rules
free_steps listed low outer b wanted [] have some_low some_outer = omega arith
free_steps listed low outer b wanted (s ∷ rules) have some_low some_outer =
    let here = free_of listed low outer b wanted s have some_low some_outer in
    let ih = free_steps listed low outer b wanted rules have some_low some_outer in
    let all = of_length-append 0 (steps_of listed low outer b wanted s) (steps listed low outer b wanted rules) in
    omega (arith, here, ih, all)

-- ---- what the wildcard lets in takes something

cheapest_some : (length : DRule → ℕ) (best : ℕ) (rules : List DRule) → 0 < best → ((s : DRule) → 0 < length s) → 0 < fold (λ best rule. min best (length rule)) best rules
cheapest_some length best [] some each = some
cheapest_some length best (s ∷ rules) some each = let here = each s in cheapest_some length (min best (length s)) rules (omega (arith, some, here)) each

inner_some : (other : Key → ℕ) (a b : List DRule) → HaveLengths other → 0 < least_inner other a b
inner_some other a b have = cheapest_some (inner_length other a None) too_long b (omega arith) (λ s. by s.key)
  where
    test : (t : Bool) (n : ℕ) → 0 < n → 0 < (if t then too_long else capped n)
    test true n some = omega arith
    test false n some = omega (arith, some)

    by : (o : Option Key) → 0 < option_map_or (λ key. if is_listed a key || option_eq same_key None (Some key) then too_long else capped (other key)) o too_long
    by None = omega arith
    by (Some key) = test (is_listed a key || option_eq same_key None (Some key)) (other key) (have key)

outer_some : (other : Key → ℕ) (keys : List Key) (a b : List DRule) → HaveLengths other → 0 < outer_length other keys a b
outer_some other keys a b have = by (find (is_outside a b) keys)
  where
    by : (o : Option Key) → 0 < option_map_or other o too_long
    by None = omega arith
    by (Some k) = have k

-- ---- what a cut takes of a step

pub taken_longer : (cut : Cut) (size n : ℕ) → cut.length < size → taken_of cut size n ≡ 0
taken_longer cut size n longer = by (nat_lt size cut.length) (size == cut.length) refl refl
  where
    by : (t u : Bool) → nat_lt size cut.length ≡ t → (size == cut.length) ≡ u → (if t then n else if u then min n cut.left else 0) ≡ 0
    by true u e g = let less = ltb-true size cut.length e in absurd (omega (arith, less, longer))
    by false true e g = let same = eqb-true size cut.length g in absurd (omega (arith, same, longer))
    by false false e g = refl

pub taken_none : (cut : Cut) (size : ℕ) → taken_of cut size 0 ≡ 0
taken_none cut size = by (nat_lt size cut.length) (size == cut.length)
  where
    by : (t u : Bool) → (if t then 0 else if u then min 0 cut.left else 0) ≡ 0
    by true u = refl
    by false true = omega arith
    by false false = refl

module _ (listed other : Key → ℕ) (keys : List Key) (a b : List DRule) (sound_b : AreSound b) (have : HaveLengths listed) (have_other : HaveLengths other) where
  abbrev r : Reads
  r = reads_between a b listed other keys

  abbrev f : Floor
  f = floor_between listed other keys a b

  abbrev is_stranger : Key → Bool
  is_stranger k = not (is_listed b k)

  -- where rules have so many more
  abbrev many_by : List ℕ → PlainDemand
  many_by extras = record { first = None; second = None; rest = cheapest_key r; front = None; extras = extras; outer = outer_key r }

  abbrev steps_by : ℕ → DRule → List Step
  steps_by wanted s = steps_of listed (filler f) f.outer b wanted s

  after_is : (wanted : ℕ) (cut : Cut) (s : DRule) → following cut (steps_by wanted s) ≡ cut_after r wanted cut s
  after_is wanted cut s = by s.key
    where
      test : (t : Bool) (k : Key) → following cut (if t then [] else record { length = listed k; count = room_above wanted s } ∷ []) ≡ (if t then cut else cut_following cut (listed k) (room_above wanted s))
      test true k = refl
      test false k = refl

      by : (o : Option Key) → following cut
          (option_map_or (λ key. if is_listed b key then [] else record { length = listed key; count = room_above wanted s } ∷ []) o
          (record { length = f.outer - filler f; count = s.min } ∷ record { length = f.outer; count = room_above wanted s } ∷ []))
          ≡ option_map_or (λ key. if is_listed b key then cut else cut_following cut (listed key) (room_above wanted s)) o
          (cut_following (cut_following cut (f.outer - filler f) s.min) f.outer (room_above wanted s))
      by None = refl
      by (Some k) = test (is_listed b k) k

  following_length : (cut : Cut) (xs : List Step) → (following cut xs).length ≡ cut.length
  following_length cut [] = refl
  following_length cut (x ∷ xs) = following_length (cut_following cut x.length x.count) xs ∙ same_length cut x.length x.count

  module _ (extras : List ℕ) (wanted c : ℕ) (room : f.base + c < too_long) where
    -- each rule has what its steps have, as far as counts go
    rule_takes : (cut : Cut) (s : DRule) → IsIn s a → cut.length ≤ c
        → min (needs b s + takes cut (steps_by wanted s)) (2 ^ 32 - 1) ≤ of_rule is_stranger a (many_by extras) (extra_of r wanted cut s) s
    rule_takes cut s i within = by s.key refl
      where
        e_of : Option Key → ℕ
        e_of o = option_map_or (λ key. if is_listed b key then 0 else taken_of cut (listed key) (room_above wanted s)) o
            (min (taken_of cut (f.outer - filler f) s.min + taken_of (cut_following cut (f.outer - filler f) s.min) f.outer (room_above wanted s)) (2 ^ 64 - 1))

        steps_for : Option Key → List Step
        steps_for o = option_map_or (λ key. if is_listed b key then [] else record { length = listed key; count = room_above wanted s } ∷ []) o
            (record { length = f.outer - filler f; count = s.min } ∷ record { length = f.outer; count = room_above wanted s } ∷ [])

        by : (o : Option Key) → s.key ≡ o
            → min (needs b s + takes cut (steps_by wanted s)) (2 ^ 32 - 1) ≤ of_rule is_stranger a (many_by extras) (extra_of r wanted cut s) s
        by None e = outer (outer_key r) refl
          where
            extra : ℕ
            extra = taken_of cut (f.outer - filler f) s.min + taken_of (cut_following cut (f.outer - filler f) s.min) f.outer (room_above wanted s)

            none : needs b s ≡ 0
            none = needs_none b s e

            taken_is : takes cut (steps_by wanted s) ≡ extra
            taken_is = ap (λ (o : Option Key). takes cut (steps_for o)) e ∙ sums (taken_of cut (f.outer - filler f) s.min)
                (taken_of (cut_following cut (f.outer - filler f) s.min) f.outer (room_above wanted s))
              where
                sums : (m n : ℕ) → m + (n + 0) ≡ m + n
                sums m n = omega arith

            extra_is : extra_of r wanted cut s ≡ min extra (2 ^ 64 - 1)
            extra_is = ap e_of e

            own : of_rule is_stranger a (many_by extras) (extra_of r wanted cut s) s ≡ of_wild is_stranger a (many_by extras) s.min (min extra (2 ^ 64 - 1))
            own = of_rule-wild is_stranger a (many_by extras) (extra_of r wanted cut s) s e ∙ ap (of_wild is_stranger a (many_by extras) s.min) extra_is

            outer : (o : Option Key) → outer_key r ≡ o
                → min (needs b s + takes cut (steps_by wanted s)) (2 ^ 32 - 1) ≤ of_rule is_stranger a (many_by extras) (extra_of r wanted cut s) s
            outer (Some k) h =
                let out = outer_found listed other keys a b k h in
                let part : of_key is_stranger (outer_key r) (min extra (2 ^ 64 - 1)) ≡ min (min extra (2 ^ 64 - 1)) (2 ^ 32 - 1) =
                ap (λ (o : Option Key). of_key is_stranger o (min extra (2 ^ 64 - 1))) h ∙ ap (λ (t : Bool). cond (not t) (min (min extra (2 ^ 64 - 1)) (2 ^ 32 - 1)) 0) out.1 in
                omega (arith, none, taken_is, own, part)
            outer None h =
                let long : f.outer ≡ too_long = ap (λ (o : Option Key). option_map_or other o too_long) h in
                let second = taken_longer (cut_following cut (f.outer - filler f) s.min) f.outer (room_above wanted s)
                (let same = same_length cut (f.outer - filler f) s.min in omega (arith, same, long, within, room)) in
                let first = swap s.min refl long in
                omega (arith, none, taken_is, first, second)
              where
                swap : (n : ℕ) → s.min ≡ n → f.outer ≡ too_long → taken_of cut (f.outer - filler f) s.min ≡ 0
                swap zero g long = ap (taken_of cut (f.outer - filler f)) g ∙ taken_none cut (f.outer - filler f)
                swap (suc n) g long =
                    let floor : rule_floor listed (filler f) s ≡ s.min * filler f = ap (λ (o : Option Key). s.min * option_map_or listed o (filler f)) e in
                    let one = one_of_sum (rule_floor listed (filler f)) a s i in
                    let exact = base_exact listed (filler f) a in
                    let some : 0 < s.min = omega (arith, g) in
                    let le : filler f ≤ filler f * s.min = as_many (filler f) s.min some in
                    let flip : filler f * s.min ≡ s.min * filler f = mul_comm (filler f) s.min in
                    let base_is : f.base ≡ capped (sum_of (rule_floor listed (filler f)) a) = exact in
                    taken_longer cut (f.outer - filler f) s.min (omega (arith, long, within, room, floor, one, base_is, le, flip))
        by (Some q) e = test (is_listed b q) refl
          where
            own : of_rule is_stranger a (many_by extras) (extra_of r wanted cut s) s
                ≡ cond (not (is_listed b q)) (min (min (max (max 0 0) s.min + extra_of r wanted cut s) (2 ^ 64 - 1)) (2 ^ 32 - 1)) 0
            own = of_rule-key is_stranger a (many_by extras) (extra_of r wanted cut s) s q e

            taken_is : takes cut (steps_by wanted s) ≡ takes cut (if is_listed b q then [] else record { length = listed q; count = room_above wanted s } ∷ [])
            taken_is = ap (λ (o : Option Key). takes cut (steps_for o)) e

            extra_is : extra_of r wanted cut s ≡ (if is_listed b q then 0 else taken_of cut (listed q) (room_above wanted s))
            extra_is = ap e_of e

            test : (t : Bool) → is_listed b q ≡ t
                → min (needs b s + takes cut (steps_by wanted s)) (2 ^ 32 - 1) ≤ of_rule is_stranger a (many_by extras) (extra_of r wanted cut s) s
            test true h =
                let none = needs_key b s q true e h in
                let taken : takes cut (steps_by wanted s) ≡ 0 =
                taken_is ∙ ap (λ (t : Bool). takes cut (if t then [] else record { length = listed q; count = room_above wanted s } ∷ [])) h in
                omega (arith, none, taken)
            test false h =
                let least = needs_key b s q false e h in
                let taken : takes cut (steps_by wanted s) ≡ taken_of cut (listed q) (room_above wanted s) + 0 =
                taken_is ∙ ap (λ (t : Bool). takes cut (if t then [] else record { length = listed q; count = room_above wanted s } ∷ [])) h in
                let extra : extra_of r wanted cut s ≡ taken_of cut (listed q) (room_above wanted s) =
                extra_is ∙ ap (λ (t : Bool). if t then 0 else taken_of cut (listed q) (room_above wanted s)) h in
                let all : of_rule is_stranger a (many_by extras) (extra_of r wanted cut s) s ≡ min (min (max (max 0 0) s.min + extra_of r wanted cut s) (2 ^ 64 - 1)) (2 ^ 32 - 1) =
                own ∙ ap (λ (t : Bool). cond (not t) (min (min (max (max 0 0) s.min + extra_of r wanted cut s) (2 ^ 64 - 1)) (2 ^ 32 - 1)) 0) h in
                omega (arith, least, taken, extra, all)

    rules_take : (rules : List DRule) (cut : Cut) → ((s : DRule) → IsIn s rules → IsIn s a) → cut.length ≤ c
        → min (needed b rules + takes cut (steps listed (filler f) f.outer b wanted rules)) (2 ^ 32 - 1)
        ≤ sum_at (λ i. of_rule is_stranger a (many_by extras) (unwrap_or (slice_get (extras_of r wanted cut rules) i) 0)) rules
    rules_take [] cut among within = omega arith
    rules_take (s ∷ rules) cut among within =
        let here = rule_takes cut s (among s (inl refl)) within in
        let length_is = following_length cut (steps_by wanted s) in
        let next = after_is wanted cut s in
        let after : (cut_after r wanted cut s).length ≤ c = subst (λ (next : Cut). next.length ≤ c) next (omega (arith, length_is, within)) in
        let ih = rules_take rules (cut_after r wanted cut s) (λ t i. among t (inr i)) after in
        let all = takes-append cut (steps_by wanted s) (steps listed (filler f) f.outer b wanted rules) in
        let rest : takes (following cut (steps_by wanted s)) (steps listed (filler f) f.outer b wanted rules) ≡ takes (cut_after r wanted cut s) (steps listed (filler f) f.outer b wanted rules) =
        ap (λ (next : Cut). takes next (steps listed (filler f) f.outer b wanted rules)) next in
        omega (arith, here, ih, all, rest)

  -- ---- the level

  enough : (wanted c : ℕ) (cut : Cut) → f.base + c < too_long → IsTakenInOrder wanted (steps listed (filler f) f.outer b wanted a) c → IsCut wanted (steps listed (filler f) f.outer b wanted a) cut
      → needed b a + wanted ≤ strangers b (part_keys (level_parts a (many_by (extras_of r wanted cut a))))
  enough wanted c cut room some is =
      let all_steps = steps listed (filler f) f.outer b wanted a in
      let short : c < too_long = omega (arith, room) in
      let level = passing_level is_stranger a (many_by (extras_of r wanted cut a)) in
      let each = rules_take (extras_of r wanted cut a) wanted c room a cut (λ s i. i) (cut_within wanted all_steps cut is c some short) in
      let taken = takes_wanted wanted all_steps cut is (wanted_there wanted c all_steps some short) in
      let few = wanted_few wanted c all_steps some short in
      let some_low : 0 < filler f = let first = inner_some other a b have_other in let second = outer_some other keys a b have_other in omega (arith, first, second) in
      let free = free_steps listed (filler f) f.outer b wanted a have some_low (outer_some other keys a b have_other) in
      let exact : f.base ≡ capped (sum_of (rule_floor listed (filler f)) a) = base_exact listed (filler f) a in
      let counted = (needed_counted listed (filler f) a b have (omega (arith, room))).1 in
      omega (arith, level, each, taken, few, free, exact, counted, room)

  pub too_many_others_shown : (w : DRule) (most : ℕ) (cut : Cut) → IsIn w b → IsLeastMost listed f a b most → too_many_others_length most w < too_long
      → IsCut (wanted_others r) (steps_to r (wanted_others r)) cut → ShowsAt a b (part_keys (level_parts a (many_demand r cut))) TooManyOthers w.key
  too_many_others_shown w most cut i is_most short is_cut = by w.key w.max refl refl
    where
      parts : ((is_some w.key || not (is_some w.max)) ≡ false) × (most < too_long)
      parts = unless_true (is_some w.key || not (is_some w.max)) most short

      free : (is_some w.key ≡ false) × (not (is_some w.max) ≡ false)
      free = neither_of (is_some w.key) (not (is_some w.max)) parts.0

      by : (o : Option Key) (m : Option ℕ) → w.key ≡ o → w.max ≡ m → ShowsAt a b (part_keys (level_parts a (many_demand r cut))) TooManyOthers o
      by (Some k) m e is = absurd (let bad : true ≡ false = sym (ap (λ (o : Option Key). is_some o) e) ∙ free.0 in cc)
      by None None e is = absurd (let bad : true ≡ false = sym (ap (λ (o : Option ℕ). not (is_some o)) is) ∙ free.1 in cc)
      by None (Some max) e is =
          let the = the_wildcard b w sound_b (contains_in b w i, e) in
          let greatest_is : greatest b ≡ Some max = ap (λ (o : Option DRule). option_and_then (λ (s : DRule). s.max) o) the ∙ is in
          let over = is_most max greatest_is in
          let c = over.0 in
          let most_is = over.1 in
          let room : f.base + c < too_long = let less = parts.1 in omega (arith, most_is, less) in
          let counted = (needed_counted listed (filler f) a b have (omega (arith, room))).0 in
          let others_is : wanted_others r ≡ max + 1 - f.needed =
          ap (λ (o : Option DRule). option_map_or (λ wild. unwrap_or wild.max (2 ^ 32 - 1)) o 0 + 1 - f.needed) the ∙ ap (λ (o : Option ℕ). unwrap_or o (2 ^ 32 - 1) + 1 - f.needed) is in
          let wanted_is : max + 1 - needed b a ≡ wanted_others r = omega (arith, counted, others_is) in
          let taken : IsTakenInOrder (wanted_others r) (steps listed (filler f) f.outer b (wanted_others r) a) c =
          subst (λ (n : ℕ). IsTakenInOrder n (steps listed (filler f) f.outer b n a) c) wanted_is over.3 in
          let all = enough (wanted_others r) c cut room taken is_cut in
          (w, max, (contains_in b w i, e), is, omega (arith, all, wanted_is))
