-- A least level that has a chosen AVP exists, and its AVPs are made.
use Rattle.std.proofs.Common.{◌≡◌, ℕ, ◌+◌, ◌-◌, ◌<◌, ◌≤◌, ◌≢◌, zero, suc, Bool, true, false, List, Option, Some, None, refl, ap, subst, arith, inl, inr}
use Rattle.std.specs.Prelude.{nat_eq, nat_le, nat_lt, not, ◌||◌, if◌then◌else◌, IfSome, IsTrue, Contains}
use Rattle.std.specs.List.{AllByRecursion}
use Rattle.std.specs.Option.{option_eq, option_map_or}
use Rattle.std.proofs.lemmas.Bool.{leb-false, ltb-true, ltb-false}
use Rattle.dia_wire.specs.declared.Key.{Key}
use Rattle.dia_book.specs.declared.DRule.{DRule}
use Rattle.dia_book.specs.Dictionary.{Dictionary, IsDictionary, PlainDefinition, AreRules, definitions}
use Rattle.dia_book.proofs.SameKeys.{same_key-refl}
use Rattle.dia_terms.specs.declared.Sends.{Sends}
use Rattle.dia_terms.specs.declared.Sends.TheVariants.{Any, Known, Filled, Listed}
use Rattle.dia_valid.specs.Valid.{Placed, is_listed}
use Rattle.dia_valid.specs.Rules.{wildcard_of}
use Rattle.dia_valid.proofs.Members.{IsIn, contains_in, in_contains}
use Rattle.dia_valid.proofs.RuleCounts.{counts_key}
use Rattle.dia_valid.proofs.RulesOfKeys.{is_listed_by}
use Rattle.dia_breaking_sites.specs.Sent.{StandAsSent}
use Rattle.dia_breaking_levels.specs.LeastLevels.{plan, total}
use Rattle.dia_breaking_levels.specs.LevelTests.{too_long, capped, base_length, least_filler}
use Rattle.dia_breaking_levels.proofs.LeastLevels.{counts_by, definition_rules}
use Rattle.dia_breaking_levels.proofs.LevelBounds.{is_wild}
use Rattle.dia_breaking_shortest.specs.Exact.{IsFillerLength}
use Rattle.dia_breaking_shortest.specs.Floors.{IsSpellable}
use Rattle.dia_breaking_shortest.specs.Lengths.{length_of}
use Rattle.dia_breaking_shortest.proofs.ShortestLevels.{asked_within, plan_total}
use Rattle.dia_lint.specs.Costs.{other_length}
use Rattle.dia_lint.specs.Ways.{Side, AreOfSide, beside_of, cost_of, listed_in, other_in, with_listed}
use Rattle.dia_lint.proofs.ChosenPlans.{chosen, chosen_all, chosen_has, chosen_placed, one_instead, one_more}
use Rattle.dia_lint.proofs.Fillers.{filler_is}
use Rattle.dia_lint.proofs.MadeAvps.{IsMade}
use Rattle.dia_lint.proofs.MadeLevels.{AreAskedMade, asked_listed, asked_made, known_spelled, length_made}

-- a level by these rules that has an AVP of the key; all AVPs are made, and together they are so long
abbrev pub IsMadeWith : Side → List DRule → Key → ℕ → Type 0
IsMadeWith s rules key n = (keys : List Key) × StandAsSent s.sends rules keys × AllByRecursion (λ k. IsMade s.book s.sends k (listed_in s k)) keys × Contains keys key
    × (total (listed_in s) keys ≡ n)

-- ---- tests

some_room : (most : Option ℕ) → option_eq nat_eq most (Some 0) ≡ false → IfSome most (λ m. 1 ≤ m)
some_room None e = tt
some_room (Some zero) e = absurd (let bad : true ≡ false = e in cc)
some_room (Some (suc n)) e = omega arith

-- what comes through a wildcard takes what comes by a rule
other_same : (d : Dictionary) (sends : Sends) (lengths : List ℕ) (key : Key) → other_length d sends lengths key < too_long → other_length d sends lengths key ≡ length_of d sends lengths key
other_same d Any lengths key short = refl
other_same d Known lengths key short = refl
other_same d Filled lengths key short = absurd (omega (arith, short))
other_same d Listed lengths key short = absurd (omega (arith, short))

stand_by : (sends : Sends) (rules : List DRule) (keys : List Key) → sends ≢ Filled → Placed rules keys → (sends ≡ Listed → AllByRecursion (λ k. IsTrue (is_listed rules k)) keys) → StandAsSent sends rules keys
stand_by Any rules keys other placed all = (placed, inl refl)
stand_by Known rules keys other placed all = (placed, inl refl)
stand_by Filled rules keys other placed all = absurd (other refl)
stand_by Listed rules keys other placed all = (placed, inr (all refl))

-- ---- the level

module _ (s : Side) (is : IsDictionary s.book) (of : AreOfSide s) (group : PlainDefinition) (has : Contains (definitions s.book) group) where
  abbrev f : Key → ℕ
  f = listed_in s

  abbrev rules : List DRule
  rules = group.rules

  -- what a wildcard's least count takes
  abbrev each : ℕ
  each = least_filler (other_in s) s.others rules

  abbrev base : ℕ
  base = base_length f each rules

  are : AreRules rules
  are = definition_rules s.book group is has

  is_each : IsFillerLength s.book s.sends s.lengths rules each
  is_each = filler_is s.book s.lengths is group has s.sends s.others of.exact of.are_others

  module _ (below : base < too_long) (key : Key) (small : IsSpellable key) (short : f key < too_long) (listed : s.sends ≡ Listed → IsTrue (is_listed rules key)) (rule : DRule)
      (is_rule : IsIn rule rules) (own : counts_key rules rule key ≡ true) (room : IfSome rule.max (λ m. 1 ≤ m)) where
    asks : AreAskedMade s.book s.sends s.lengths each rules
    asks = asked_made s.book s.sends s.lengths is of.spelled of.exact each group has is_each below

    abbrev keys : List Key
    keys = chosen rules are asks.filler key rule is_rule own room asks.free

    least : base ≡ total f (plan asks.filler rules)
    least = plan_total f each asks.filler rules below asks.same

    all_listed : s.sends ≡ Listed → AllByRecursion (λ k. IsTrue (is_listed rules k)) keys
    all_listed e =
        let none : each ≡ too_long = subst (λ (x : Sends). IsFillerLength s.book x s.lengths rules each) e is_each in
        chosen_all rules are asks.filler key rule is_rule own room asks.free (λ (k : Key). IsTrue (is_listed rules k)) (listed e) (asked_listed f each asks.filler rules none below)

    level : (n : ℕ) → total f keys ≡ n → IsMadeWith s rules key n
    level n sum =
        let placed = chosen_placed rules are asks.filler key rule is_rule own room asks.free in
        let own_made = length_made s.book s.sends s.lengths is of.spelled of.exact key small short in
        let all = chosen_all rules are asks.filler key rule is_rule own room asks.free (λ (k : Key). IsMade s.book s.sends k (f k)) own_made asks.made in
        (keys, stand_by s.sends rules keys of.not_filled placed all_listed, all, chosen_has rules are asks.filler key rule is_rule own room asks.free, sum)

    -- where the rule asks for none
    more : rule.min ≡ 0 → IsMadeWith s rules key (base + f key)
    more none =
        let sum = one_more rules are asks.filler key rule is_rule own room asks.free f none in
        level (base + f key) (omega (arith, sum, least))

    -- and else
    instead : 0 < rule.min → (n : ℕ) → n + option_map_or f rule.key each ≡ base + f key → IsMadeWith s rules key n
    instead some n is_n =
        let sum = one_instead rules are asks.filler key rule is_rule own room asks.free f some in
        let same = asks.same rule is_rule (omega (arith, some)) in
        level n (omega (arith, sum, least, same, is_n))

  module _ (key : Key) (rule : DRule) (is_rule : IsIn rule rules) where
    listed_by_rule : rule.key ≡ Some key → with_listed (cost_of s rules) rule (f key) < too_long → IsMadeWith s rules key (with_listed (cost_of s rules) rule (f key))
    listed_by_rule own = by (option_eq nat_eq rule.max (Some 0)) (nat_le too_long (f key)) (nat_lt 0 rule.min) refl refl refl
      where
        small : IsSpellable key
        small = known_spelled s.book of.spelled key (is.known_keys group rule key has (contains_in rules rule is_rule) own)

        listed : s.sends ≡ Listed → IsTrue (is_listed rules key)
        listed e = is_listed_by rules key rule is_rule own

        counts : counts_key rules rule key ≡ true
        counts = counts_by rules rule key (Some key) own (same_key-refl key)

        same : option_map_or f rule.key each ≡ f key
        same = ap (λ (o : Option Key). option_map_or f o each) own

        by : (b c d : Bool) → option_eq nat_eq rule.max (Some 0) ≡ b → nat_le too_long (f key) ≡ c → nat_lt 0 rule.min ≡ d
            → (if b || c then too_long else if d then base else capped (base + f key)) < too_long
            → IsMadeWith s rules key (if b || c then too_long else if d then base else capped (base + f key))
        by true c d e g h short = absurd (omega (arith, short))
        by false true d e g h short = absurd (omega (arith, short))
        by false false true e g h short =
            let low = leb-false too_long (f key) g in
            instead short key small (omega (arith, low)) listed rule is_rule counts (some_room rule.max e) (ltb-true 0 rule.min h) base (omega (arith, same))
        by false false false e g h short =
            let low = leb-false too_long (f key) g in
            let none = ltb-false 0 rule.min h in
            let level = more (omega (arith, short)) key small (omega (arith, low)) listed rule is_rule counts (some_room rule.max e) (omega (arith, none)) in
            subst (IsMadeWith s rules key) (omega (arith, short)) level

    other_by_wildcard : rule.key ≡ None → is_listed rules key ≡ false → IsSpellable key → beside_of base each rule + other_in s key < too_long
        → IsMadeWith s rules key (beside_of base each rule + other_in s key)
    other_by_wildcard wild unlisted small = by (option_eq nat_eq rule.max (Some 0)) (nat_le too_long base) (nat_lt 0 rule.min) refl refl refl
      where
        listed : other_in s key < too_long → s.sends ≡ Listed → IsTrue (is_listed rules key)
        listed short e = absurd (let none = ap (λ (x : Sends). other_length s.book x s.lengths key) e in omega (arith, none, short))

        counts : counts_key rules rule key ≡ true
        counts = counts_by rules rule key None wild (ap not unlisted)

        same : option_map_or f rule.key each ≡ each
        same = ap (λ (o : Option Key). option_map_or f o each) wild

        by : (b c d : Bool) → option_eq nat_eq rule.max (Some 0) ≡ b → nat_le too_long base ≡ c → nat_lt 0 rule.min ≡ d
            → (if b || c then too_long else if d then base - each else base) + other_in s key < too_long
            → IsMadeWith s rules key ((if b || c then too_long else if d then base - each else base) + other_in s key)
        by true c d e g h short = absurd (omega (arith, short))
        by false true d e g h short = absurd (omega (arith, short))
        by false false true e g h short =
            let below : base < too_long = leb-false too_long base g in
            let some = ltb-true 0 rule.min h in
            let low = asked_within f each rules below rule is_rule (omega (arith, some)) in
            let other = other_same s.book s.sends s.lengths key (omega (arith, short)) in
            instead below key small (omega (arith, other, short)) (listed (omega (arith, short))) rule is_rule counts (some_room rule.max e) some (base - each + other_in s key)
            (omega (arith, same, low, other))
        by false false false e g h short =
            let below : base < too_long = leb-false too_long base g in
            let none = ltb-false 0 rule.min h in
            let other = other_same s.book s.sends s.lengths key (omega (arith, short)) in
            let level = more below key small (omega (arith, other, short)) (listed (omega (arith, short))) rule is_rule counts (some_room rule.max e) (omega (arith, none)) in
            subst (IsMadeWith s rules key) (omega (arith, other)) level

-- an AVP that a rule lists
pub listed_chosen : (s : Side) → IsDictionary s.book → AreOfSide s → (group : PlainDefinition) → Contains (definitions s.book) group → (rule : DRule) → Contains group.rules rule → (key : Key)
    → rule.key ≡ Some key
    → with_listed (cost_of s group.rules) rule (listed_in s key) < too_long → IsMadeWith s group.rules key (with_listed (cost_of s group.rules) rule (listed_in s key))
listed_chosen s is of group has rule has_rule key own = listed_by_rule s is of group has key rule (in_contains group.rules rule has_rule) own

-- an AVP that comes through the wildcard
pub other_chosen : (s : Side) → IsDictionary s.book → AreOfSide s → (group : PlainDefinition) → Contains (definitions s.book) group → (key : Key) → is_listed group.rules key ≡ false → IsSpellable key
    → (cost_of s group.rules).beside + other_in s key < too_long → IsMadeWith s group.rules key ((cost_of s group.rules).beside + other_in s key)
other_chosen s is of group has key unlisted small = by (wildcard_of group.rules) refl
  where
    by : (o : Option DRule) → wildcard_of group.rules ≡ o
        → option_map_or (beside_of (cost_of s group.rules).base (cost_of s group.rules).filler) o too_long + other_in s key < too_long
        → IsMadeWith s group.rules key (option_map_or (beside_of (cost_of s group.rules).base (cost_of s group.rules).filler) o too_long + other_in s key)
    by None e short = absurd (omega (arith, short))
    by (Some wild) e short = let there = is_wild group.rules wild e in other_by_wildcard s is of group has key wild there.0 there.1 unlisted small short
