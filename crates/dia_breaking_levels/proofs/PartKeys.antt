-- How often keys occur in the levels that parts make.
use Rattle.std.proofs.Common.{◌≡◌, ℕ, zero, suc, ◌+◌, ◌-◌, ◌^◌, Bool, true, false, cond, List, [], ◌∷◌, ◌++◌, length, filter, Option, Some, None, refl, sym, ap, ◌∙◌, append_assoc, arith}
use Rattle.std.specs.Prelude.{not, min, max, ◌==◌, count_by, slice_get, if◌then◌else◌}
use Rattle.std.specs.Option.{option_eq, option_map_or}
use Rattle.std.proofs.lemmas.Bool.{eqb-true}
use Rattle.dia_wire.specs.declared.Key.{Key}
use Rattle.dia_book.specs.Keys.{same_key}
use Rattle.dia_book.specs.declared.DRule.{DRule}
use Rattle.dia_book.specs.Dictionary.{is_fixed}
use Rattle.dia_valid.specs.Valid.{is_listed}
use Rattle.dia_valid.proofs.Members.{count_cons, count_append}
use Rattle.dia_breaking_levels.specs.declared.demand.Wanted.{Wanted}
use Rattle.dia_breaking_levels.specs.declared.line.Part.{Part}
use Rattle.dia_breaking_levels.specs.Chosen.{PlainDemand, count_of, extra_at, kind_parts, level_parts, other_count, other_parts, parts_at, parts_below, parts_by, parts_of, rule_parts, occurs, wild_parts}
use Rattle.dia_breaking_levels.specs.LeastLevels.{copies}
use Rattle.dia_breaking_levels.specs.Showing.{part_keys}
use Rattle.dia_breaking_levels.proofs.RuleSums.{sum_of}

pub part_keys-append : (xs ys : List Part) → part_keys (xs ++ ys) ≡ part_keys xs ++ part_keys ys
part_keys-append [] ys = refl
part_keys-append (x ∷ xs) ys =
    ap (λ (keys : List Key). copies x.count x.key ++ keys) (part_keys-append xs ys) ∙ sym (append_assoc (copies x.count x.key) (part_keys xs) (part_keys ys))

-- ---- sums by places

abbrev below : (ℕ → ℕ) → ℕ → ℕ
below g zero = 0
below g (suc n) = below g n + g n

below_first : (g : ℕ → ℕ) (n : ℕ) → below g (suc n) ≡ g 0 + below (λ i. g (suc i)) n
below_first g zero = omega arith
below_first g (suc n) = let ih = below_first g n in omega (arith, ih)

-- what each rule has, by its place
abbrev pub sum_at : (ℕ → DRule → ℕ) → List DRule → ℕ
sum_at f [] = 0
sum_at f (rule ∷ rules) = f 0 rule + sum_at (λ i. f (suc i)) rules

places_sum : (f : ℕ → DRule → ℕ) (rules : List DRule) → below (λ i. option_map_or (f i) (slice_get rules i) 0) (length rules) ≡ sum_at f rules
places_sum f [] = refl
places_sum f (rule ∷ rules) =
    let first = below_first (λ i. option_map_or (f i) (slice_get (rule ∷ rules) i) 0) (length rules) in
    let ih = places_sum (λ i. f (suc i)) rules in
    omega (arith, first, ih)

pub sum_same : (f : ℕ → DRule → ℕ) (g : DRule → ℕ) (rules : List DRule) → ((i : ℕ) (rule : DRule) → f i rule ≡ g rule) → sum_at f rules ≡ sum_of g rules
sum_same f g [] same = refl
sum_same f g (rule ∷ rules) same =
    let here = same 0 rule in
    let ih = sum_same (λ i. f (suc i)) g rules (λ i. same (suc i)) in
    omega (arith, here, ih)

-- ---- how many keys pass a test

none_if : (b : Bool) (n : ℕ) → n ≡ 0 → n ≡ cond b n 0
none_if true n e = refl
none_if false n e = e

module _ (p : Key → Bool) where
  -- how many of the AVPs pass
  abbrev pub passing : List Part → ℕ
  passing parts = count_by p (part_keys parts)

  count_copies : (n : ℕ) (k : Key) → count_by p (copies n k) ≡ cond (p k) n 0
  count_copies zero k = none_if (p k) 0 refl
  count_copies (suc n) k = let ih = count_copies n k in let here = count_cons p k (copies n k) in one (p k) (count_by p (copies n k)) (count_by p (k ∷ copies n k)) n ih here
    where
      one : (b : Bool) (c all n : ℕ) → c ≡ cond b n 0 → all ≡ cond b 1 0 + c → all ≡ cond b (suc n) 0
      one true c all n ih here = omega (arith, ih, here)
      one false c all n ih here = omega (arith, ih, here)

  pub passing-append : (xs ys : List Part) → passing (xs ++ ys) ≡ passing xs + passing ys
  passing-append xs ys = ap (λ (keys : List Key). count_by p keys) (part_keys-append xs ys) ∙ count_append p (part_keys xs) (part_keys ys)

  passing-cons : (x : Part) (xs : List Part) → passing (x ∷ xs) ≡ cond (p x.key) x.count 0 + passing xs
  passing-cons x xs =
      let all = count_append p (copies x.count x.key) (part_keys xs) in
      let own = count_copies x.count x.key in
      omega (arith, all, own)

  -- parts that pass a test, and the others
  passing_split : (t u : Part → Bool) (xs : List Part) → ((x : Part) → u x ≡ not (t x)) → passing (filter t xs) + passing (filter u xs) ≡ passing xs
  passing_split t u [] each = refl
  passing_split t u (x ∷ xs) each =
      let ih = passing_split t u xs each in
      let own = each x in
      let all = passing-cons x xs in
      by (t x) (u x) own ih all
    where
      by : (b c : Bool) → c ≡ not b → passing (filter t xs) + passing (filter u xs) ≡ passing xs → passing (x ∷ xs) ≡ cond (p x.key) x.count 0 + passing xs
          → passing (cond b (x ∷ filter t xs) (filter t xs)) + passing (cond c (x ∷ filter u xs) (filter u xs)) ≡ passing (x ∷ xs)
      by true true own ih all = absurd (let e : true ≡ false = own in cc)
      by true false own ih all = let some = passing-cons x (filter t xs) in omega (arith, ih, all, some)
      by false true own ih all = let some = passing-cons x (filter u xs) in omega (arith, ih, all, some)
      by false false own ih all = absurd (let e : false ≡ true = own in cc)

  -- ---- so many of a key

  abbrev pub of_key : Option Key → ℕ → ℕ
  of_key key n = option_map_or (λ k. cond (p k) (min n (2 ^ 32 - 1)) 0) key 0

  pub passing_of : (key : Option Key) (n : ℕ) → passing (parts_of key n) ≡ of_key key n
  passing_of None n = refl
  passing_of (Some k) n = by (n == 0) refl
    where
      by : (t : Bool) → (n == 0) ≡ t → passing (if t then [] else record { key = k; count = min n (2 ^ 32 - 1) } ∷ []) ≡ cond (p k) (min n (2 ^ 32 - 1)) 0
      by true e =
          let z = eqb-true n 0 e in
          let none = none_if (p k) (min n (2 ^ 32 - 1)) (omega (arith, z)) in
          omega (arith, z, none)
      by false e = let all = passing-cons (record { key = k; count = min n (2 ^ 32 - 1) }) [] in omega (arith, all)

  -- a wanted key that comes by the wildcard
  abbrev pub of_other : List DRule → Option Wanted → ℕ
  of_other rules wanted = option_map_or (λ w. if is_listed rules w.key then 0 else of_key (Some w.key) w.count) wanted 0

  passing_other : (rules : List DRule) (wanted : Option Wanted) → passing (other_parts rules wanted) ≡ of_other rules wanted
  passing_other rules None = refl
  passing_other rules (Some w) = by (is_listed rules w.key)
    where
      by : (t : Bool) → passing (if t then [] else parts_of (Some w.key) w.count) ≡ (if t then 0 else of_key (Some w.key) w.count)
      by true = refl
      by false = passing_of (Some w.key) w.count

  abbrev pub of_wild : List DRule → PlainDemand → ℕ → ℕ → ℕ
  of_wild rules d n extra = of_other rules d.first + of_other rules d.second + of_key d.outer extra + of_key d.rest (n - other_count rules d.first - other_count rules d.second - extra)

  passing_wild : (rules : List DRule) (d : PlainDemand) (n extra : ℕ) → passing (wild_parts rules d n extra) ≡ of_wild rules d n extra
  passing_wild rules d n extra =
      let first = other_parts rules d.first in
      let second = other_parts rules d.second in
      let outer = parts_of d.outer extra in
      let rest = parts_of d.rest (n - other_count rules d.first - other_count rules d.second - extra) in
      let a = passing-append (first ++ second ++ outer) rest in
      let b = passing-append (first ++ second) outer in
      let c = passing-append first second in
      omega (
        arith,
        a,
        b,
        c,
        passing_other rules d.first,
        passing_other rules d.second,
        passing_of d.outer extra,
        passing_of d.rest (n - other_count rules d.first - other_count rules d.second - extra),
      )

  -- ---- by a rule

  abbrev pub of_rule : List DRule → PlainDemand → ℕ → DRule → ℕ
  of_rule rules d extra rule = option_map_or (λ key. of_key (Some key) (min (max (max (count_of d.first key) (count_of d.second key)) rule.min + extra) (2 ^ 64 - 1))) rule.key
      (of_wild rules d rule.min extra)

  pub passing_rule : (rules : List DRule) (d : PlainDemand) (extra : ℕ) (rule : DRule) → passing (rule_parts rules d extra rule) ≡ of_rule rules d extra rule
  passing_rule rules d extra rule = by rule.key
    where
      by : (o : Option Key) → passing
          (option_map_or (λ key. parts_of (Some key) (min (max (max (count_of d.first key) (count_of d.second key)) rule.min + extra) (2 ^ 64 - 1))) o (wild_parts rules d rule.min extra))
          ≡ option_map_or (λ key. of_key (Some key) (min (max (max (count_of d.first key) (count_of d.second key)) rule.min + extra) (2 ^ 64 - 1))) o (of_wild rules d rule.min extra)
      by None = passing_wild rules d rule.min extra
      by (Some key) = passing_of (Some key) (min (max (max (count_of d.first key) (count_of d.second key)) rule.min + extra) (2 ^ 64 - 1))

  pub of_rule-key : (rules : List DRule) (d : PlainDemand) (extra : ℕ) (rule : DRule) (k : Key) → rule.key ≡ Some k
      → of_rule rules d extra rule ≡ cond (p k) (min (min (max (max (count_of d.first k) (count_of d.second k)) rule.min + extra) (2 ^ 64 - 1)) (2 ^ 32 - 1)) 0
  of_rule-key rules d extra rule k e =
      ap (λ (o : Option Key). option_map_or (λ key. of_key (Some key) (min (max (max (count_of d.first key) (count_of d.second key)) rule.min + extra) (2 ^ 64 - 1))) o
      (of_wild rules d rule.min extra)) e

  pub of_rule-wild : (rules : List DRule) (d : PlainDemand) (extra : ℕ) (rule : DRule) → rule.key ≡ None → of_rule rules d extra rule ≡ of_wild rules d rule.min extra
  of_rule-wild rules d extra rule e =
      ap (λ (o : Option Key). option_map_or (λ key. of_key (Some key) (min (max (max (count_of d.first key) (count_of d.second key)) rule.min + extra) (2 ^ 64 - 1))) o
      (of_wild rules d rule.min extra)) e

  -- ---- of a level

  module _ (rules : List DRule) (d : PlainDemand) where
    both_kinds : (i : ℕ) → passing (parts_at rules d true i) + passing (parts_at rules d false i) ≡ option_map_or (of_rule rules d (extra_at d i)) (slice_get rules i) 0
    both_kinds i = by (slice_get rules i)
      where
        kind : (rule : DRule) (t : Bool) → passing (if (if t then true else not true) then rule_parts rules d (extra_at d i) rule else [])
            + passing (if (if t then false else not false) then rule_parts rules d (extra_at d i) rule else []) ≡ of_rule rules d (extra_at d i) rule
        kind rule true = let own = passing_rule rules d (extra_at d i) rule in omega (arith, own)
        kind rule false = let own = passing_rule rules d (extra_at d i) rule in omega (arith, own)

        by : (o : Option DRule) → passing (option_map_or (parts_by rules d true (extra_at d i)) o []) + passing (option_map_or (parts_by rules d false (extra_at d i)) o [])
            ≡ option_map_or (of_rule rules d (extra_at d i)) o 0
        by None = refl
        by (Some rule) = kind rule (is_fixed rule)

    kinds_below : (n : ℕ) → passing (parts_below rules d true n) + passing (parts_below rules d false n)
        ≡ below (λ i. option_map_or (of_rule rules d (extra_at d i)) (slice_get rules i) 0) n
    kinds_below zero = refl
    kinds_below (suc n) =
        let ih = kinds_below n in
        let here = both_kinds n in
        omega (arith, ih, here, passing-append (parts_below rules d true n) (parts_at rules d true n), passing-append (parts_below rules d false n) (parts_at rules d false n))

    -- the sum of what each rule has
    pub passing_level : passing (level_parts rules d) ≡ sum_at (λ i. of_rule rules d (extra_at d i)) rules
    passing_level =
        let fixed = kind_parts rules d true in
        let loose = kind_parts rules d false in
        let a = passing-append (fixed ++ filter (occurs d.front true) loose) (filter (occurs d.front false) loose) in
        let b = passing-append fixed (filter (occurs d.front true) loose) in
        let c = passing_split (occurs d.front true) (occurs d.front false) loose (λ part. either (option_eq same_key d.front (Some part.key))) in
        let all = kinds_below (length rules) in
        let each = places_sum (λ i. of_rule rules d (extra_at d i)) rules in
        omega (arith, a, b, c, all, each)
      where
        either : (t : Bool) → (if t then false else not false) ≡ not (if t then true else not true)
        either true = refl
        either false = refl

    -- where no rule has more than its count
    pub passing_plain : ((i : ℕ) → extra_at d i ≡ 0) → passing (level_parts rules d) ≡ sum_of (of_rule rules d 0) rules
    passing_plain none = passing_level ∙ sum_same (λ i. of_rule rules d (extra_at d i)) (of_rule rules d 0) rules (λ i rule. ap (λ (n : ℕ). of_rule rules d n rule) (none i))
