-- The AVPs of a level that is written for a line are ones that messages have room for.
use Rattle.std.proofs.Common.{◌≡◌, ℕ, zero, suc, ◌+◌, ◌-◌, ◌*◌, ◌^◌, ◌<◌, ◌≤◌, Bool, true, false, cond, List, [], ◌∷◌, Option, Some, None, refl, sym, ap, ◌∙◌, arith, inl, inr}
use Rattle.std.specs.Prelude.{◌⊎◌, not, min, max, nat_le, nat_lt, ◌||◌, ◌==◌, find, fold, option_and_then, slice_get, unwrap_or, if◌then◌else◌}
use Rattle.std.specs.Option.{option_eq, option_map_or}
use Rattle.std.proofs.Math.Nat.{mul_comm}
use Rattle.std.proofs.lemmas.Bool.{cases_lt, eqb-true, leb-false, lt-ltb, ltb-true}
use Rattle.std.proofs.lemmas.Option.{none-some}
use Rattle.dia_wire.specs.declared.Key.{Key}
use Rattle.dia_book.specs.Keys.{same_key}
use Rattle.dia_book.specs.declared.DRule.{DRule}
use Rattle.dia_book.proofs.Members.{at_find}
use Rattle.dia_book.proofs.SameKeys.{same_key-true}
use Rattle.dia_valid.specs.Valid.{is_listed}
use Rattle.dia_valid.proofs.Members.{IsIn}
use Rattle.dia_valid.proofs.RulesOfKeys.{is_listed_by}
use Rattle.dia_breaking_levels.specs.declared.cut.Cut.{Cut}
use Rattle.dia_breaking_levels.specs.declared.demand.Wanted.{Wanted}
use Rattle.dia_breaking_levels.specs.declared.floor.Floor.{Floor}
use Rattle.dia_breaking_levels.specs.Chosen.{PlainDemand, Reads, cheapest_key, count_of, cut_after, cut_following, extra_at, extra_of, extras_of, inner_first, inner_key, level_parts, next_key, other_count, outer_key, reads_between, taken_of}
use Rattle.dia_breaking_levels.specs.Exact.{first_inner, floor_between, least_inner}
use Rattle.dia_breaking_levels.specs.LevelTests.{too_long, capped, filler, inner_length, price, rule_floor}
use Rattle.dia_breaking_levels.specs.Steps.{room_above}
use Rattle.dia_breaking_levels.proofs.FloorBounds.{inner_less, inner_within}
use Rattle.dia_breaking_levels.proofs.PartKeys.{of_key, of_other, of_rule, of_rule-key, of_rule-wild, of_wild, passing, passing_level, passing_plain, sum_at}
use Rattle.dia_breaking_levels.proofs.RuleSums.{one_of_sum, sum_of}
use Rattle.dia_breaking_levels.proofs.ShownFew.{as_many, no_key}
use Rattle.dia_breaking_levels.proofs.ShownFillers.{outer_found}
use Rattle.dia_breaking_levels.proofs.ShownMost.{taken_longer, taken_none}
use Rattle.dia_breaking_levels.proofs.ShownOthers.{base_exact}
use Rattle.dia_breaking_levels.proofs.ShownTaken.{same_length}

-- ---- sums of nothing

sum_none : (g : DRule → ℕ) (rules : List DRule) → ((s : DRule) → IsIn s rules → g s ≡ 0) → sum_of g rules ≡ 0
sum_none g [] each = refl
sum_none g (s ∷ rules) each =
    let here = each s (inl refl) in
    let ih = sum_none g rules (λ t i. each t (inr i)) in
    omega (arith, here, ih)

cond_none : (t : Bool) (n : ℕ) → n ≡ 0 → cond t n 0 ≡ 0
cond_none true n e = e
cond_none false n e = refl

either_none : (t : Bool) (n : ℕ) → n ≡ 0 → (if t then 0 else n) ≡ 0
either_none true n e = refl
either_none false n e = e

-- ---- the least of lengths is within what is too long

cheapest_most : (length : DRule → ℕ) (best : ℕ) (rules : List DRule) → fold (λ best rule. min best (length rule)) best rules ≤ best
cheapest_most length best [] = omega arith
cheapest_most length best (r ∷ rules) = let ih = cheapest_most length (min best (length r)) rules in omega (arith, ih)

module _ (listed other : Key → ℕ) (keys : List Key) (a b : List DRule) where
  abbrev r : Reads
  r = reads_between a b listed other keys

  abbrev f : Floor
  f = floor_between listed other keys a b

  -- no message has room for an AVP of the key
  abbrev pub is_long : Key → Bool
  is_long k = not (nat_lt (price listed other a k) too_long)

  pub listed_short : (k : Key) → is_listed a k ≡ true → listed k < too_long → is_long k ≡ false
  listed_short k is lt = ap (λ (t : Bool). not (nat_lt (if t then listed k else other k) too_long)) is ∙ ap not (lt-ltb (listed k) too_long lt)

  pub other_short : (k : Key) → is_listed a k ≡ false → other k < too_long → is_long k ≡ false
  other_short k is lt = ap (λ (t : Bool). not (nat_lt (if t then listed k else other k) too_long)) is ∙ ap not (lt-ltb (other k) too_long lt)

  long_listed : (k : Key) → is_listed a k ≡ true → is_long k ≡ true → too_long ≤ listed k
  long_listed k is long = by (cases_lt (listed k) too_long)
    where
      by : (listed k < too_long) ⊎ (too_long ≤ listed k) → too_long ≤ listed k
      by (inl lt) = absurd (let bad : true ≡ false = sym long ∙ listed_short k is lt in cc)
      by (inr le) = le

  long_other : (k : Key) → is_listed a k ≡ false → is_long k ≡ true → too_long ≤ other k
  long_other k is long = by (cases_lt (other k) too_long)
    where
      by : (other k < too_long) ⊎ (too_long ≤ other k) → too_long ≤ other k
      by (inl lt) = absurd (let bad : true ≡ false = sym long ∙ other_short k is lt in cc)
      by (inr le) = le

  -- ---- the keys that fill the least counts of wildcards

  inner_short : (except : Option Key) (n : ℕ) (k : Key) → n < too_long → option_and_then (λ rule. rule.key) (find (λ rule. inner_length other a except rule == n) b) ≡ Some k → is_long k ≡ false
  inner_short except n k short is = by (find (λ rule. inner_length other a except rule == n) b) refl is
    where
      tests : (t u : Bool) (m : ℕ) → (if t || u then too_long else capped m) ≡ n → (t ≡ false) × (m < too_long)
      tests true u m e = absurd (omega (arith, e, short))
      tests false true m e = absurd (omega (arith, e, short))
      tests false false m e = (refl, omega (arith, e, short))

      by : (o : Option DRule) → find (λ rule. inner_length other a except rule == n) b ≡ o → option_and_then (λ rule. rule.key) o ≡ Some k → is_long k ≡ false
      by None e h = absurd (none-some k h)
      by (Some rule) e h =
          let found = at_find (λ (s : DRule). inner_length other a except s == n) b rule e in
          let own : inner_length other a except rule ≡ n = eqb-true (inner_length other a except rule) n found.2 in
          let is_length : inner_length other a except rule ≡ (if is_listed a k || option_eq same_key except (Some k) then too_long else capped (other k)) =
          ap (λ (o : Option Key). option_map_or (λ key. if is_listed a key || option_eq same_key except (Some key) then too_long else capped (other key)) o too_long) h in
          let parts = tests (is_listed a k) (option_eq same_key except (Some k)) (other k) (sym is_length ∙ own) in
          other_short k parts.0 parts.1

  outer_is : (k : Key) → outer_key r ≡ Some k → f.outer ≡ other k
  outer_is k is = ap (λ (o : Option Key). option_map_or other o too_long) is

  pub outer_short : (k : Key) → outer_key r ≡ Some k → f.outer < too_long → is_long k ≡ false
  outer_short k is short = let same = outer_is k is in other_short k (outer_found listed other keys a b k is).0 (omega (arith, same, short))

  pub inner_first_short : (k : Key) → inner_first r ≡ Some k → is_long k ≡ false
  inner_first_short k is = by (nat_lt (least_inner other a b) too_long) refl is
    where
      by : (t : Bool) → nat_lt (least_inner other a b) too_long ≡ t → (if t then first_inner other a b else None) ≡ Some k → is_long k ≡ false
      by true e h = inner_short None (least_inner other a b) k (ltb-true (least_inner other a b) too_long e) h
      by false e h = absurd (none-some k h)

  pub cheapest_short : (k : Key) → cheapest_key r ≡ Some k → is_long k ≡ false
  cheapest_short k is = by (nat_le r.floor.inner r.floor.outer) refl is
    where
      by : (t : Bool) → nat_le r.floor.inner r.floor.outer ≡ t → (if t then inner_first r else outer_key r) ≡ Some k → is_long k ≡ false
      by true e h = inner_first_short k h
      by false e h =
          let less = leb-false r.floor.inner r.floor.outer e in
          let most = cheapest_most (inner_length other a None) too_long b in
          outer_short k h (omega (arith, less, most))

  pub next_short : (k : Key) → next_key r ≡ Some k → is_long k ≡ false
  next_short k is = by (nat_le r.floor.second r.floor.outer) refl is
    where
      inner : (t : Bool) → nat_lt r.floor.second too_long ≡ t
          → (if t then option_and_then (λ rule. rule.key) (find (λ rule. inner_length other a (first_inner other a b) rule == r.floor.second) b) else None) ≡ Some k → is_long k ≡ false
      inner true e h = inner_short (first_inner other a b) r.floor.second k (ltb-true r.floor.second too_long e) h
      inner false e h = absurd (none-some k h)

      by : (t : Bool) → nat_le r.floor.second r.floor.outer ≡ t → (if t then inner_key r (first_inner other a b) r.floor.second else outer_key r) ≡ Some k → is_long k ≡ false
      by true e h = inner (nat_lt r.floor.second too_long) refl h
      by false e h =
          let less = leb-false r.floor.second r.floor.outer e in
          let most = cheapest_most (inner_length other a (first_inner other a b)) too_long b in
          outer_short k h (omega (arith, less, most))

  -- what fills them is no longer than what the wildcard lets in
  pub filler_most : filler f ≤ too_long
  filler_most = let most = cheapest_most (inner_length other a None) too_long b in omega (arith, most)

  pub filler_inner : (k : Key) → is_listed a k ≡ false → is_listed b k ≡ true → filler f ≤ other k
  filler_inner k unlisted is = let le = inner_within other a b None k unlisted is (λ e. none-some k e) in omega (arith, le)

  pub filler_outer : (k : Key) → outer_key r ≡ Some k → filler f ≤ other k
  filler_outer k is = let same = outer_is k is in omega (arith, same)

  pub filler_next : filler f ≤ min f.second f.outer
  filler_next = let le = inner_less other a b (first_inner other a b) in omega (arith, le)

  module _ (room : f.base < too_long) where
    -- what the rules ask for
    pub asked : (s : DRule) (q : Key) → IsIn s a → s.key ≡ Some q → 1 ≤ s.min → listed q < too_long
    asked s q i e some =
        let floor : rule_floor listed (filler f) s ≡ s.min * listed q = ap (λ (o : Option Key). s.min * option_map_or listed o (filler f)) e in
        let one = one_of_sum (rule_floor listed (filler f)) a s i in
        let base_is : f.base ≡ capped (sum_of (rule_floor listed (filler f)) a) = base_exact listed (filler f) a in
        let le : listed q ≤ listed q * s.min = as_many (listed q) s.min (omega (arith, some)) in
        let flip : listed q * s.min ≡ s.min * listed q = mul_comm (listed q) s.min in
        omega (arith, floor, one, base_is, le, flip, room)

    none_asked : (s : DRule) (q : Key) → IsIn s a → s.key ≡ Some q → is_long q ≡ true → s.min ≡ 0
    none_asked s q i e long = by s.min refl
      where
        by : (n : ℕ) → s.min ≡ n → n ≡ 0
        by zero h = refl
        by (suc n) h =
            let high = long_listed q (is_listed_by a q s i e) long in
            let low = asked s q i e (omega (arith, h)) in
            absurd (omega (arith, high, low))

    -- the wanted key is short
    abbrev pub IsShortWanted : Option Wanted → Type 0
    IsShortWanted wanted = (w : Wanted) → wanted ≡ Some w → is_long w.key ≡ false

    none_wanted : (wanted : Option Wanted) (q : Key) → IsShortWanted wanted → is_long q ≡ true → count_of wanted q ≡ 0
    none_wanted None q short long = refl
    none_wanted (Some w) q short long = by (same_key w.key q) refl
      where
        by : (t : Bool) → same_key w.key q ≡ t → (if t then w.count else 0) ≡ 0
        by true e = absurd (let bad : true ≡ false = sym long ∙ ap is_long (sym (same_key-true w.key q e)) ∙ short w refl in cc)
        by false e = refl

    none_other : (wanted : Option Wanted) → IsShortWanted wanted → of_other is_long a wanted ≡ 0
    none_other None short = refl
    none_other (Some w) short =
        ap (λ (t : Bool). if is_listed a w.key then 0 else cond t (min w.count (2 ^ 32 - 1)) 0) (short w refl) ∙ either_none (is_listed a w.key) 0 refl

    none_of_none : (o : Option Key) → of_key is_long o 0 ≡ 0
    none_of_none None = refl
    none_of_none (Some k) = cond_none (is_long k) (min 0 (2 ^ 32 - 1)) (omega arith)

    -- where no more is wanted
    pub plain_short : (d : PlainDemand) → ((i : ℕ) → extra_at d i ≡ 0) → IsShortWanted d.first → IsShortWanted d.second → ((k : Key) → d.rest ≡ Some k → is_long k ≡ false)
        → passing is_long (level_parts a d) ≡ 0
    plain_short d plain first second rest = passing_plain is_long a d plain ∙ sum_none (of_rule is_long a d 0) a each
      where
        each : (s : DRule) → IsIn s a → of_rule is_long a d 0 s ≡ 0
        each s i = by s.key refl
          where
            by : (o : Option Key) → s.key ≡ o → of_rule is_long a d 0 s ≡ 0
            by None e =
                let own = of_rule-wild is_long a d 0 s e in
                let one = none_other d.first first in
                let two = none_other d.second second in
                let outer = none_of_none d.outer in
                let last = no_key is_long d.rest (s.min - other_count a d.first - other_count a d.second - 0) rest in
                omega (arith, own, one, two, outer, last)
            by (Some q) e = test (is_long q) refl
              where
                own : of_rule is_long a d 0 s ≡ cond (is_long q) (min (min (max (max (count_of d.first q) (count_of d.second q)) s.min + 0) (2 ^ 64 - 1)) (2 ^ 32 - 1)) 0
                own = of_rule-key is_long a d 0 s q e

                test : (t : Bool) → is_long q ≡ t → of_rule is_long a d 0 s ≡ 0
                test true h =
                    let one = none_wanted d.first q first h in
                    let two = none_wanted d.second q second h in
                    let least = none_asked s q i e h in
                    own ∙ cond_none (is_long q) (min (min (max (max (count_of d.first q) (count_of d.second q)) s.min + 0) (2 ^ 64 - 1)) (2 ^ 32 - 1)) (omega (arith, one, two, least))
                test false h = own ∙ ap (λ (t : Bool). cond t (min (min (max (max (count_of d.first q) (count_of d.second q)) s.min + 0) (2 ^ 64 - 1)) (2 ^ 32 - 1)) 0) h

    -- ---- more by the wildcard than it allows

    after_length : (wanted : ℕ) (cut : Cut) (s : DRule) → (cut_after r wanted cut s).length ≡ cut.length
    after_length wanted cut s = by s.key
      where
        test : (t : Bool) (k : Key) → (if t then cut else cut_following cut (listed k) (room_above wanted s)).length ≡ cut.length
        test true k = refl
        test false k = same_length cut (listed k) (room_above wanted s)

        by : (o : Option Key) → (option_map_or (λ key. if is_listed b key then cut else cut_following cut (listed key) (room_above wanted s)) o
            (cut_following (cut_following cut (f.outer - filler f) s.min) f.outer (room_above wanted s))).length ≡ cut.length
        by None = same_length (cut_following cut (f.outer - filler f) s.min) f.outer (room_above wanted s) ∙ same_length cut (f.outer - filler f) s.min
        by (Some k) = test (is_listed b k) k

    -- where rules have so many more
    abbrev many_by : List ℕ → PlainDemand
    many_by extras = record { first = None; second = None; rest = cheapest_key r; front = None; extras = extras; outer = outer_key r }

    module _ (extras : List ℕ) (wanted c : ℕ) (fits : f.base + c < too_long) where
      extra_short : (cut : Cut) (s : DRule) → IsIn s a → cut.length ≤ c → of_rule is_long a (many_by extras) (extra_of r wanted cut s) s ≡ 0
      extra_short cut s i within = by s.key refl
        where
          e_of : Option Key → ℕ
          e_of o = option_map_or (λ key. if is_listed b key then 0 else taken_of cut (listed key) (room_above wanted s)) o
              (min (taken_of cut (f.outer - filler f) s.min + taken_of (cut_following cut (f.outer - filler f) s.min) f.outer (room_above wanted s)) (2 ^ 64 - 1))

          by : (o : Option Key) → s.key ≡ o → of_rule is_long a (many_by extras) (extra_of r wanted cut s) s ≡ 0
          by None e = outer (outer_key r) refl
            where
              extra : ℕ
              extra = taken_of cut (f.outer - filler f) s.min + taken_of (cut_following cut (f.outer - filler f) s.min) f.outer (room_above wanted s)

              own : of_rule is_long a (many_by extras) (extra_of r wanted cut s) s ≡ of_wild is_long a (many_by extras) s.min (min extra (2 ^ 64 - 1))
              own = of_rule-wild is_long a (many_by extras) (extra_of r wanted cut s) s e ∙ ap (λ (n : ℕ). of_wild is_long a (many_by extras) s.min n) (ap e_of e)

              last : of_key is_long (cheapest_key r) (s.min - 0 - 0 - min extra (2 ^ 64 - 1)) ≡ 0
              last = no_key is_long (cheapest_key r) (s.min - 0 - 0 - min extra (2 ^ 64 - 1)) cheapest_short

              swap : (n : ℕ) → s.min ≡ n → too_long ≤ f.outer → taken_of cut (f.outer - filler f) s.min ≡ 0
              swap zero g long = ap (λ (n : ℕ). taken_of cut (f.outer - filler f) n) g ∙ taken_none cut (f.outer - filler f)
              swap (suc n) g long =
                  let floor : rule_floor listed (filler f) s ≡ s.min * filler f = ap (λ (o : Option Key). s.min * option_map_or listed o (filler f)) e in
                  let one = one_of_sum (rule_floor listed (filler f)) a s i in
                  let base_is : f.base ≡ capped (sum_of (rule_floor listed (filler f)) a) = base_exact listed (filler f) a in
                  let le : filler f ≤ filler f * s.min = as_many (filler f) s.min (omega (arith, g)) in
                  let flip : filler f * s.min ≡ s.min * filler f = mul_comm (filler f) s.min in
                  taken_longer cut (f.outer - filler f) s.min (omega (arith, long, within, fits, floor, one, base_is, le, flip))

              outer : (o : Option Key) → outer_key r ≡ o → of_rule is_long a (many_by extras) (extra_of r wanted cut s) s ≡ 0
              outer None h =
                  let part : of_key is_long (outer_key r) (min extra (2 ^ 64 - 1)) ≡ 0 = ap (λ (o : Option Key). of_key is_long o (min extra (2 ^ 64 - 1))) h in
                  omega (arith, own, last, part)
              outer (Some k) h = test (is_long k) refl
                where
                  part : of_key is_long (outer_key r) (min extra (2 ^ 64 - 1)) ≡ cond (is_long k) (min (min extra (2 ^ 64 - 1)) (2 ^ 32 - 1)) 0
                  part = ap (λ (o : Option Key). of_key is_long o (min extra (2 ^ 64 - 1))) h

                  test : (t : Bool) → is_long k ≡ t → of_rule is_long a (many_by extras) (extra_of r wanted cut s) s ≡ 0
                  test true g =
                      let same = outer_is k h in
                      let high = long_other k (outer_found listed other keys a b k h).0 g in
                      let long : too_long ≤ f.outer = omega (arith, same, high) in
                      let second = taken_longer (cut_following cut (f.outer - filler f) s.min) f.outer (room_above wanted s)
                      (let size = same_length cut (f.outer - filler f) s.min in omega (arith, size, long, within, fits)) in
                      let first = swap s.min refl long in
                      let none = cond_none (is_long k) (min (min extra (2 ^ 64 - 1)) (2 ^ 32 - 1)) (omega (arith, first, second)) in
                      omega (arith, own, last, part, none)
                  test false g =
                      let none = ap (λ (t : Bool). cond t (min (min extra (2 ^ 64 - 1)) (2 ^ 32 - 1)) 0) g in
                      omega (arith, own, last, part, none)
          by (Some q) e = test (is_long q) refl
            where
              own : of_rule is_long a (many_by extras) (extra_of r wanted cut s) s ≡ cond (is_long q) (min (min (max (max 0 0) s.min + extra_of r wanted cut s) (2 ^ 64 - 1)) (2 ^ 32 - 1)) 0
              own = of_rule-key is_long a (many_by extras) (extra_of r wanted cut s) s q e

              test : (t : Bool) → is_long q ≡ t → of_rule is_long a (many_by extras) (extra_of r wanted cut s) s ≡ 0
              test true h =
                  let least = none_asked s q i e h in
                  let high = long_listed q (is_listed_by a q s i e) h in
                  let extra : extra_of r wanted cut s ≡ (if is_listed b q then 0 else taken_of cut (listed q) (room_above wanted s)) = ap e_of e in
                  let none = either_none (is_listed b q) (taken_of cut (listed q) (room_above wanted s)) (taken_longer cut (listed q) (room_above wanted s) (omega (arith, high, within, fits))) in
                  own ∙ cond_none (is_long q) (min (min (max (max 0 0) s.min + extra_of r wanted cut s) (2 ^ 64 - 1)) (2 ^ 32 - 1)) (omega (arith, least, extra, none))
              test false h = own ∙ ap (λ (t : Bool). cond t (min (min (max (max 0 0) s.min + extra_of r wanted cut s) (2 ^ 64 - 1)) (2 ^ 32 - 1)) 0) h

      extras_short : (rules : List DRule) (cut : Cut) → ((s : DRule) → IsIn s rules → IsIn s a) → cut.length ≤ c
          → sum_at (λ i. of_rule is_long a (many_by extras) (unwrap_or (slice_get (extras_of r wanted cut rules) i) 0)) rules ≡ 0
      extras_short [] cut among within = refl
      extras_short (s ∷ rules) cut among within =
          let here = extra_short cut s (among s (inl refl)) within in
          let size = after_length wanted cut s in
          let ih = extras_short rules (cut_after r wanted cut s) (λ t i. among t (inr i)) (omega (arith, size, within)) in
          omega (arith, here, ih)

    pub many_short : (wanted c : ℕ) (cut : Cut) → f.base + c < too_long → cut.length ≤ c → passing is_long (level_parts a (many_by (extras_of r wanted cut a))) ≡ 0
    many_short wanted c cut fits within = passing_level is_long a (many_by (extras_of r wanted cut a)) ∙ extras_short (extras_of r wanted cut a) wanted c fits a cut (λ s i. i) within
