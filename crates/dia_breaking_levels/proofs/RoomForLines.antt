-- Messages have room for each AVP of the level that is written for a line.
use Rattle.std.proofs.Common.{◌≡◌, ℕ, zero, suc, ◌+◌, ◌-◌, ◌*◌, ◌^◌, ◌<◌, ◌≤◌, Bool, true, false, List, [], ◌∷◌, ◌++◌, Option, Some, None, refl, sym, ap, subst, ◌∙◌, arith, inl, inr}
use Rattle.std.specs.Prelude.{◌⊎◌, not, min, max, nat_le, nat_lt, ◌||◌, ◌==◌, filter_map, find, is_some, option_and_then, unwrap_or, if◌then◌else◌}
use Rattle.std.specs.Option.{option_eq, option_map_or}
use Rattle.std.proofs.Math.Nat.{add-mul, mul-le-mul_left, mul-le-mul_right}
use Rattle.std.proofs.lemmas.Bool.{cases_lt, le-ltb, ltb-true}
use Rattle.std.proofs.lemmas.Option.{none-some, same_Some}
use Rattle.dia_wire.specs.declared.Key.{Key}
use Rattle.dia_book.specs.Keys.{same_key}
use Rattle.dia_book.specs.declared.DRule.{DRule}
use Rattle.dia_book.proofs.Members.{at_filter_map}
use Rattle.dia_book.proofs.SameKeys.{same_key-true}
use Rattle.dia_valid.specs.Valid.{is_listed}
use Rattle.dia_valid.specs.Rules.{rule_of, wildcard_of}
use Rattle.dia_valid.proofs.Members.{IsIn, at_in, contains_in, count_in, in_append, in_at, in_contains}
use Rattle.dia_valid.proofs.RulesOfKeys.{is_listed_by}
use Rattle.dia_breaking_levels.specs.declared.cut.Cut.{Cut}
use Rattle.dia_breaking_levels.specs.declared.demand.Wanted.{Wanted}
use Rattle.dia_breaking_levels.specs.declared.floor.Floor.{Floor}
use Rattle.dia_breaking_levels.specs.declared.line.Line.{Line}
use Rattle.dia_breaking_levels.specs.declared.line.Part.{Part}
use Rattle.dia_breaking_levels.specs.declared.line.Reason.{Reason}
use Rattle.dia_breaking_levels.specs.declared.line.Reason.TheVariants.{Missing, MissingOthers, NotAllowed, NotAllowedOther, Order, TooMany, TooManyOthers}
use Rattle.dia_breaking_levels.specs.Chosen.{IsCutFor, IsLineLevel, PlainDemand, Reads, below_least, cheapest_key, demand, inner_first, level_parts, many_demand, missing_demand, missing_others_demand, next_key, not_allowed_demand, order_demand, outer_key, reads_between, reason_demand, steps_to, too_many_demand, wanted_others, wants, wild_min}
use Rattle.dia_breaking_levels.specs.CountsAndRanks.{AreSound}
use Rattle.dia_breaking_levels.specs.Cuts.{IsCut}
use Rattle.dia_breaking_levels.specs.Exact.{AreOrderLines, IsOrderOf, floor_between, with_line}
use Rattle.dia_breaking_levels.specs.LevelTests.{too_long, at_least, at_most, capped, few_others, filler, has_room, is_outside, length_of, line_of, lines_of, listed_at_least, many, missing_length, missing_others_length, next_length, not_allowed_length, not_allowed_other_length, other_at_least, price, refilled, swapped, too_many_length, too_many_others_length}
use Rattle.dia_breaking_levels.specs.Offers.{MayCome}
use Rattle.dia_breaking_levels.specs.OrderTests.{beyond, by_wild, pair_length, with_others}
use Rattle.dia_breaking_levels.specs.Showing.{HaveLengths, LinesHaveRoom, part_keys}
use Rattle.dia_breaking_levels.specs.Steps.{IsLeastMost, IsTakenInOrder, greatest, steps}
use Rattle.dia_breaking_levels.specs.Strangers.{needed}
use Rattle.dia_breaking_levels.proofs.CountsAndRanks.{rules_sound}
use Rattle.dia_breaking_levels.proofs.EachLine.{the_wildcard}
use Rattle.dia_breaking_levels.proofs.LineBounds.{is_rule, no_rule}
use Rattle.dia_breaking_levels.proofs.PartKeys.{passing}
use Rattle.dia_breaking_levels.proofs.RoomForKeys.{asked, cheapest_short, filler_inner, filler_most, filler_next, filler_outer, inner_first_short, is_long, IsShortWanted, listed_short, many_short, next_short, other_short, outer_short, plain_short}
use Rattle.dia_breaking_levels.proofs.ShownFew.{neither_of, unless_false, unless_true}
use Rattle.dia_breaking_levels.proofs.ShownOthers.{needed_counted, refilled_base}
use Rattle.dia_breaking_levels.proofs.ShownTaken.{cut_within}

-- ---- where a level has room

listed_both : (base length n : ℕ) (rule : DRule) → 1 ≤ n → listed_at_least base length n rule < too_long → (base < too_long) × (length < too_long)
listed_both base length n rule some short =
    let parts = unless_false (has_room n rule.max) (swapped base (many rule.min length) (many (max n rule.min) length)) short in
    let more : rule.min * length ≤ max n rule.min * length = mul-le-mul_right length (omega arith) in
    let one : 1 * length ≤ max n rule.min * length = mul-le-mul_right length (omega (arith, some)) in
    let less = parts.1 in
    (omega (arith, more, less), omega (arith, more, one, less))

other_both : (base low length n : ℕ) (wild : Option DRule) → low ≤ length → 1 ≤ n → other_at_least base low length n wild < too_long → (base < too_long) × (length < too_long)
other_both base low length n None le some short = absurd (omega (arith, short))
other_both base low length n (Some w) le some short =
    let parts = unless_false (has_room n w.max) (swapped base (many (min n w.min) low) (many n length)) short in
    let fewer : min n w.min * low ≤ n * low = mul-le-mul_right low (omega arith) in
    let longer : n * low ≤ n * length = mul-le-mul_left n le in
    let one : 1 * length ≤ n * length = mul-le-mul_right length (omega (arith, some)) in
    let less = parts.1 in
    (omega (arith, fewer, longer, less), omega (arith, fewer, longer, one, less))

others_both : (base low n length : ℕ) (wild : Option DRule) → many n low ≤ length → with_others base low n length wild < too_long → (base < too_long) × (length < too_long)
others_both base low n length None le short =
    let less = (unless_false (n == 0) (swapped base 0 length) short).1 in
    (omega (arith, less), omega (arith, less))
others_both base low n length (Some w) le short =
    let less = (unless_false (has_room n w.max) (swapped base (many (min n w.min) low) length) short).1 in
    let fewer : min n w.min * low ≤ n * low = mul-le-mul_right low (omega arith) in
    (omega (arith, fewer, le, less), omega (arith, fewer, le, less))

module _ (listed other : Key → ℕ) (keys : List Key) (a b : List DRule) (sound_b : AreSound b) (have : HaveLengths listed) where
  abbrev r : Reads
  r = reads_between a b listed other keys

  abbrev f : Floor
  f = floor_between listed other keys a b

  -- messages have room for each AVP of the level
  abbrev HaveRoom : PlainDemand → Type 0
  HaveRoom d = passing (is_long listed other keys a b) (level_parts a d) ≡ 0

  abbrev IsShort : Key → Type 0
  IsShort k = is_long listed other keys a b k ≡ false

  wants_short : (room : f.base < too_long) (o : Option Key) (n : ℕ) → ((k : Key) → o ≡ Some k → IsShort k) → IsShortWanted listed other keys a b room (wants o n)
  wants_short room None n each = λ w e. absurd (none-some w e)
  wants_short room (Some k) n each = λ w e. subst (λ (x : Wanted). IsShort x.key) (same_Some (record { key = k; count = n }) w e) (each k refl)

  none_short : (room : f.base < too_long) → IsShortWanted listed other keys a b room None
  none_short room = λ w e. absurd (none-some w e)

  -- one key is wanted
  one_wanted : (room : f.base < too_long) (o : Option Key) (n : ℕ) (rest : Option Key) → ((k : Key) → o ≡ Some k → IsShort k) → ((k : Key) → rest ≡ Some k → IsShort k)
      → HaveRoom (demand (wants o n) None rest)
  one_wanted room o n rest each fills = plain_short listed other keys a b room (demand (wants o n) None rest) (λ j. refl) (wants_short room o n each) (none_short room) fills

  given : (key : Key) → IsShort key → (k : Key) → Some key ≡ Some k → IsShort k
  given key short k e = subst IsShort (same_Some key k e) short

  -- ---- too few

  missing_room : (rule : DRule) → IsIn rule b → missing_length f a rule < too_long → HaveRoom (missing_demand r rule.key)
  missing_room rule i short = by rule.key refl
    where
      by : (o : Option Key) → rule.key ≡ o → HaveRoom (missing_demand r o)
      by None e =
          let long : missing_length f a rule ≡ too_long =
          ap (λ (o : Option Key). option_map_or (λ k. if rule.min == 0 then too_long else at_most f k (rule.min - 1) (rule_of a k) f.wild) o too_long) e in
          absurd (omega (arith, long, short))
      by (Some key) e = test (is_listed a key) (option_eq same_key (cheapest_key r) (Some key)) refl
        where
          own : missing_length f a rule ≡ (if rule.min == 0 then too_long else at_most f key (rule.min - 1) (rule_of a key) f.wild)
          own = ap (λ (o : Option Key). option_map_or (λ k. if rule.min == 0 then too_long else at_most f k (rule.min - 1) (rule_of a k) f.wild) o too_long) e

          most : at_most f key (rule.min - 1) (rule_of a key) f.wild < too_long
          most = (unless_true (rule.min == 0) (at_most f key (rule.min - 1) (rule_of a key) f.wild) (omega (arith, own, short))).1

          next_most : filler f ≤ next_length f key
          next_most = of (option_eq same_key f.first (Some key))
            where
              of : (t : Bool) → filler f ≤ (if t then min f.second f.outer else filler f)
              of true = filler_next listed other keys a b
              of false = omega arith

          room : f.base < too_long
          room = of (rule_of a key) most
            where
              of : (o : Option DRule) → at_most f key (rule.min - 1) o f.wild < too_long → f.base < too_long
              of (Some t) less = (unless_false (nat_le t.min (rule.min - 1)) f.base less).1
              of None less = refilled_base f.base (filler f) (next_length f key) (rule.min - 1) f.wild next_most less

          same : option_eq same_key (cheapest_key r) (Some key) ≡ true → IsShort key
          same is = of (cheapest_key r) refl is
            where
              of : (o : Option Key) → cheapest_key r ≡ o → option_eq same_key o (Some key) ≡ true → IsShort key
              of None h g = absurd (let bad : false ≡ true = g in cc)
              of (Some k) h g = subst IsShort (same_key-true k key g) (cheapest_short listed other keys a b k h)

          n : ℕ
          n = min (below_least (rule_of b key)) (wild_min f)

          test : (t u : Bool) → option_eq same_key (cheapest_key r) (Some key) ≡ u
              → HaveRoom (if t || not u then demand None None (cheapest_key r) else demand (wants (Some key) n) None (next_key r))
          test true u g = one_wanted room None 0 (cheapest_key r) (λ k h. absurd (none-some k h)) (cheapest_short listed other keys a b)
          test false false g = one_wanted room None 0 (cheapest_key r) (λ k h. absurd (none-some k h)) (cheapest_short listed other keys a b)
          test false true g = one_wanted room (Some key) n (next_key r) (given key (same g)) (next_short listed other keys a b)

  missing_others_room : (w : DRule) → missing_others_length f w < too_long → HaveRoom (missing_others_demand r)
  missing_others_room w short =
      let few = (unless_true (is_some w.key || (w.min == 0)) (few_others f (w.min - 1) f.wild) short).1 in
      let least = (unless_false (nat_le f.needed (w.min - 1)) (refilled f.base (filler f) f.inner (w.min - 1 - f.needed) f.wild) few).1 in
      one_wanted (refilled_base f.base (filler f) f.inner (w.min - 1 - f.needed) f.wild (omega arith) least) (cheapest_key r) (min (below_least (wildcard_of b) - f.needed) (wild_min f)) (inner_first r)
      (cheapest_short listed other keys a b) (inner_first_short listed other keys a b)

  -- ---- too many, and one that isn't allowed

  too_many_room : (rule : DRule) → IsIn rule b → too_many_length f listed other a rule < too_long → HaveRoom (too_many_demand r rule.key)
  too_many_room rule i short = by rule.key rule.max refl refl
    where
      by : (o : Option Key) (most : Option ℕ) → rule.key ≡ o → rule.max ≡ most → HaveRoom (too_many_demand r o)
      by None most e is =
          let long : too_many_length f listed other a rule ≡ too_long =
          ap (λ (o : Option Key). option_map_or (λ k. option_map_or (λ max. at_least f listed other k (max + 1) (rule_of a k) f.wild) rule.max too_long) o too_long) e in
          absurd (omega (arith, long, short))
      by (Some key) None e is =
          let long : too_many_length f listed other a rule ≡ too_long =
          ap (λ (o : Option Key). option_map_or (λ k. option_map_or (λ max. at_least f listed other k (max + 1) (rule_of a k) f.wild) rule.max too_long) o too_long) e
          ∙ ap (λ (o : Option ℕ). option_map_or (λ max. at_least f listed other key (max + 1) (rule_of a key) f.wild) o too_long) is in
          absurd (omega (arith, long, short))
      by (Some key) (Some m) e is =
          let own : too_many_length f listed other a rule ≡ at_least f listed other key (m + 1) (rule_of a key) f.wild =
          ap (λ (o : Option Key). option_map_or (λ k. option_map_or (λ max. at_least f listed other k (max + 1) (rule_of a k) f.wild) rule.max too_long) o too_long) e
          ∙ ap (λ (o : Option ℕ). option_map_or (λ max. at_least f listed other key (max + 1) (rule_of a key) f.wild) o too_long) is in
          let both = of (rule_of a key) refl (omega (arith, own, short)) in
          one_wanted both.0 (Some key) _ (cheapest_key r) (given key both.1) (cheapest_short listed other keys a b)
        where
          of : (o : Option DRule) → rule_of a key ≡ o → at_least f listed other key (m + 1) (rule_of a key) f.wild < too_long → (f.base < too_long) × IsShort key
          of (Some s) h less =
              let there = is_rule a key s h in
              let both = listed_both f.base (listed key) (m + 1) s (omega arith) (subst (λ (o : Option DRule). at_least f listed other key (m + 1) o f.wild < too_long) h less) in
              (both.0, listed_short listed other keys a b key (is_listed_by a key s there.0 there.1) both.1)
          of None h less =
              let unlisted = no_rule a key h in
              let low = filler_inner listed other keys a b key unlisted (is_listed_by b key rule i e) in
              let both = other_both f.base (filler f) (other key) (m + 1) f.wild low (omega arith) (subst (λ (o : Option DRule). at_least f listed other key (m + 1) o f.wild < too_long) h less) in
              (both.0, other_short listed other keys a b key unlisted both.1)

  not_allowed_room : (rule : DRule) → IsIn rule a → not_allowed_length f listed b rule < too_long → HaveRoom (not_allowed_demand r rule.key)
  not_allowed_room rule i short = by rule.key refl
    where
      by : (o : Option Key) → rule.key ≡ o → HaveRoom (not_allowed_demand r o)
      by None e =
          let long : not_allowed_length f listed b rule ≡ too_long =
          ap (λ (o : Option Key). option_map_or (λ k. if f.lets_in || is_listed b k then too_long else listed_at_least f.base (listed k) 1 rule) o too_long) e in
          absurd (omega (arith, long, short))
      by (Some key) e =
          let own : not_allowed_length f listed b rule ≡ (if f.lets_in || is_listed b key then too_long else listed_at_least f.base (listed key) 1 rule) =
          ap (λ (o : Option Key). option_map_or (λ k. if f.lets_in || is_listed b k then too_long else listed_at_least f.base (listed k) 1 rule) o too_long) e in
          let both = listed_both f.base (listed key) 1 rule (omega arith) (unless_true (f.lets_in || is_listed b key) (listed_at_least f.base (listed key) 1 rule) (omega (arith, own, short))).1 in
          one_wanted both.0 (Some key) 1 (cheapest_key r) (given key (listed_short listed other keys a b key (is_listed_by a key rule i e) both.1)) (cheapest_short listed other keys a b)

  not_allowed_other_room : (rule : DRule) → not_allowed_other_length f rule < too_long → HaveRoom (not_allowed_demand r (outer_key r))
  not_allowed_other_room rule short =
      let both = other_both f.base (filler f) f.outer 1 f.wild (omega arith) (omega arith) (unless_true (f.lets_in || is_some rule.key) (other_at_least f.base (filler f) f.outer 1 f.wild) short).1 in
      one_wanted both.0 (outer_key r) 1 (cheapest_key r) (λ k h. outer_short listed other keys a b k h both.1) (cheapest_short listed other keys a b)

  -- ---- more by the wildcard than it allows

  too_many_others_room : (w : DRule) (most : ℕ) (cut : Cut) → IsIn w b → IsLeastMost listed f a b most → too_many_others_length most w < too_long
      → IsCut (wanted_others r) (steps_to r (wanted_others r)) cut → HaveRoom (many_demand r cut)
  too_many_others_room w most cut i is_most short is_cut = by w.key w.max refl refl
    where
      parts : ((is_some w.key || not (is_some w.max)) ≡ false) × (most < too_long)
      parts = unless_true (is_some w.key || not (is_some w.max)) most short

      free : (is_some w.key ≡ false) × (not (is_some w.max) ≡ false)
      free = neither_of (is_some w.key) (not (is_some w.max)) parts.0

      by : (o : Option Key) (m : Option ℕ) → w.key ≡ o → w.max ≡ m → HaveRoom (many_demand r cut)
      by (Some k) m e is = absurd (let bad : true ≡ false = sym (ap (λ (o : Option Key). is_some o) e) ∙ free.0 in cc)
      by None None e is = absurd (let bad : true ≡ false = sym (ap (λ (o : Option ℕ). not (is_some o)) is) ∙ free.1 in cc)
      by None (Some max) e is =
          let the = the_wildcard b w sound_b (contains_in b w i, e) in
          let greatest_is : greatest b ≡ Some max = ap (λ (o : Option DRule). option_and_then (λ (s : DRule). s.max) o) the ∙ is in
          let over = is_most max greatest_is in
          let c = over.0 in
          let most_is = over.1 in
          let fits : f.base + c < too_long = let less = parts.1 in omega (arith, most_is, less) in
          let counted = (needed_counted listed (filler f) a b have (omega (arith, fits))).0 in
          let others_is : wanted_others r ≡ max + 1 - f.needed =
          ap (λ (o : Option DRule). option_map_or (λ wild. unwrap_or wild.max (2 ^ 32 - 1)) o 0 + 1 - f.needed) the ∙ ap (λ (o : Option ℕ). unwrap_or o (2 ^ 32 - 1) + 1 - f.needed) is in
          let wanted_is : max + 1 - needed b a ≡ wanted_others r = omega (arith, counted, others_is) in
          let taken : IsTakenInOrder (wanted_others r) (steps listed (filler f) f.outer b (wanted_others r) a) c =
          subst (λ (n : ℕ). IsTakenInOrder n (steps listed (filler f) f.outer b n a) c) wanted_is over.3 in
          many_short listed other keys a b (omega (arith, fits)) (wanted_others r) c cut fits
          (cut_within (wanted_others r) (steps listed (filler f) f.outer b (wanted_others r) a) cut is_cut c taken (omega (arith, fits)))

  -- ---- one too early before another

  -- what comes by the wildcard takes no less than what fills its least count
  by_wild_low : (k : Key) (o : Option DRule) → (o ≡ None → filler f ≤ other k) → by_wild o * filler f ≤ beyond listed other k o
  by_wild_low k None low = let le = low refl in let most = filler_most listed other keys a b in let one : 1 * filler f ≡ filler f = omega arith in omega (arith, le, most, one)
  by_wild_low k (Some rule) low = let none : 0 * filler f ≡ 0 = omega arith in omega (arith, none)

  beyond_short : (room : f.base < too_long) (k : Key) (o : Option DRule) → rule_of a k ≡ o → beyond listed other k o < too_long → IsShort k
  beyond_short room k None h short = other_short listed other keys a b k (no_rule a k h) (omega (arith, short))
  beyond_short room k (Some rule) h short =
      let there = is_rule a k rule h in
      let one = (unless_false (has_room 1 rule.max) (many (1 - rule.min) (listed k)) short).1 in
      listed_short listed other keys a b k (is_listed_by a k rule there.0 there.1) (of rule.min refl one)
    where
      of : (n : ℕ) → rule.min ≡ n → many (1 - rule.min) (listed k) < too_long → listed k < too_long
      of zero g less =
          let own : (1 - rule.min) * listed k ≡ 1 * listed k = ap (λ (n : ℕ). (1 - n) * listed k) g in
          let one : 1 * listed k ≡ listed k = omega arith in
          omega (arith, own, one, less)
      of (suc n) g less = asked listed other keys a b room rule k (is_rule a k rule h).0 (is_rule a k rule h).1 (omega (arith, g))

  order_room : (x y : Key) → MayCome a b (find (is_outside a b) keys) x → is_listed b y ≡ true → pair_length f listed other a y x < too_long → HaveRoom (order_demand r (Some x) (Some y))
  order_room x y may listed_y short =
      let n = by_wild (rule_of a x) + by_wild (rule_of a y) in
      let sum = beyond listed other x (rule_of a x) + beyond listed other y (rule_of a y) in
      let first = by_wild_low x (rule_of a x) (λ h. low_x (no_rule a x h) may) in
      let second = by_wild_low y (rule_of a y) (λ h. filler_inner listed other keys a b y (no_rule a y h) listed_y) in
      let apart = add-mul (by_wild (rule_of a x)) (by_wild (rule_of a y)) (filler f) in
      let both = others_both f.base (filler f) n (capped sum) f.wild (omega (arith, first, second, apart)) short in
      let room = both.0 in
      let x_short = beyond_short room x (rule_of a x) refl (let less = both.1 in omega (arith, less)) in
      let y_short = beyond_short room y (rule_of a y) refl (let less = both.1 in omega (arith, less)) in
      plain_short listed other keys a b room (order_demand r (Some x) (Some y)) (λ j. refl) (wants_short room (Some x) 1 (given x x_short)) (wants_short room (Some y) 1 (given y y_short))
      (cheapest_short listed other keys a b)
    where
      low_x : is_listed a x ≡ false → MayCome a b (find (is_outside a b) keys) x → filler f ≤ other x
      low_x unlisted (inl is) = absurd (let bad : true ≡ false = sym is ∙ unlisted in cc)
      low_x unlisted (inr (inl is)) = filler_inner listed other keys a b x unlisted is
      low_x unlisted (inr (inr is)) = filler_outer listed other keys a b x is

  -- ---- lines

  abbrev HasRoom : Line → Type 0
  HasRoom line = (parts : List Part) → IsLineLevel r line parts → passing (is_long listed other keys a b) parts ≡ 0

  room_by : (line : Line) → ((cut : Cut) → IsCutFor r line.reason cut → HaveRoom (reason_demand r cut line.reason line.key line.following)) → HasRoom line
  room_by line each parts (d, (cut, is, same), parts_are) =
      subst (λ (ps : List Part). passing (is_long listed other keys a b) ps ≡ 0) (sym (parts_are ∙ ap (level_parts a) same)) (each cut is)

  abbrev line_by : Reason → ℕ → DRule → Line
  line_by reason most rule = record { reason = reason; key = rule.key; following = None; length = length_of reason f most listed other a b rule }

  a_line : (reason : Reason) (most : ℕ) (rule : DRule) (line : Line) → line_of reason f most listed other a b rule ≡ Some line
      → (length_of reason f most listed other a b rule < too_long) × (line_by reason most rule ≡ line)
  a_line reason most rule line is = by (nat_lt (length_of reason f most listed other a b rule) too_long) refl is
    where
      by : (t : Bool) → nat_lt (length_of reason f most listed other a b rule) too_long ≡ t → (if t then Some (line_by reason most rule) else None) ≡ Some line
          → (length_of reason f most listed other a b rule < too_long) × (line_by reason most rule ≡ line)
      by true e h = (ltb-true (length_of reason f most listed other a b rule) too_long e, same_Some (line_by reason most rule) line h)
      by false e h = absurd (none-some line h)

  of_reason : (reason : Reason) (most : ℕ) (rules : List DRule)
      → ((rule : DRule) → IsIn rule rules → length_of reason f most listed other a b rule < too_long → (cut : Cut) → IsCutFor r reason cut → HaveRoom (reason_demand r cut reason rule.key None))
      → (line : Line) → IsIn line (filter_map (line_of reason f most listed other a b) rules) → HasRoom line
  of_reason reason most rules each line i =
      let p = at_in (filter_map (line_of reason f most listed other a b) rules) line i in
      let found = at_filter_map (line_of reason f most listed other a b) rules p.place line p.at in
      let parts = a_line reason most found.1 line found.3 in
      subst HasRoom parts.1 (room_by (line_by reason most found.1) (each found.1 (in_at rules found.0 found.1 found.2) parts.0))

  abbrev lines_by : Reason → ℕ → List DRule → List Line
  lines_by reason most rules = filter_map (line_of reason f most listed other a b) rules

  of_counts : (most : ℕ) → IsLeastMost listed f a b most → (line : Line) → IsIn line (lines_of f most listed other a b) → HasRoom line
  of_counts most is_most line i = too_many_others (in_append _ (lines_by TooManyOthers most b) line i)
    where
      too_many : IsIn line (lines_by Missing most b) ⊎ IsIn line (lines_by TooMany most b) → HasRoom line
      too_many (inl j) = of_reason Missing most b (λ rule k short cut is. missing_room rule k short) line j
      too_many (inr j) = of_reason TooMany most b (λ rule k short cut is. too_many_room rule k short) line j

      not_allowed : IsIn line (lines_by Missing most b ++ lines_by TooMany most b) ⊎ IsIn line (lines_by NotAllowed most a) → HasRoom line
      not_allowed (inl j) = too_many (in_append (lines_by Missing most b) (lines_by TooMany most b) line j)
      not_allowed (inr j) = of_reason NotAllowed most a (λ rule k short cut is. not_allowed_room rule k short) line j

      not_allowed_other : IsIn line (lines_by Missing most b ++ lines_by TooMany most b ++ lines_by NotAllowed most a) ⊎ IsIn line (lines_by NotAllowedOther most a) → HasRoom line
      not_allowed_other (inl j) = not_allowed (in_append (lines_by Missing most b ++ lines_by TooMany most b) (lines_by NotAllowed most a) line j)
      not_allowed_other (inr j) = of_reason NotAllowedOther most a (λ rule k short cut is. not_allowed_other_room rule short) line j

      missing_others : IsIn line (lines_by Missing most b ++ lines_by TooMany most b ++ lines_by NotAllowed most a ++ lines_by NotAllowedOther most a) ⊎
          IsIn line (lines_by MissingOthers most b) → HasRoom line
      missing_others (inl j) = not_allowed_other (in_append (lines_by Missing most b ++ lines_by TooMany most b ++ lines_by NotAllowed most a) (lines_by NotAllowedOther most a) line j)
      missing_others (inr j) = of_reason MissingOthers most b (λ rule k short cut is. missing_others_room rule short) line j

      too_many_others : IsIn line (lines_by Missing most b ++ lines_by TooMany most b ++ lines_by NotAllowed most a ++ lines_by NotAllowedOther most a ++ lines_by MissingOthers most b) ⊎
          IsIn line (lines_by TooManyOthers most b) → HasRoom line
      too_many_others (inl j) =
          missing_others
          (in_append (lines_by Missing most b ++ lines_by TooMany most b ++ lines_by NotAllowed most a ++ lines_by NotAllowedOther most a) (lines_by MissingOthers most b) line j)
      too_many_others (inr j) = of_reason TooManyOthers most b (λ rule k short cut is. too_many_others_room rule most cut k is_most short is) line j

  of_orders : (rules : List DRule) (lines : List Line) → ((s : DRule) → IsIn s rules → IsIn s b) → AreOrderLines f listed other a b (find (is_outside a b) keys) rules lines → (line : Line)
      → IsIn line lines → HasRoom line
  of_orders [] lines among are line i = absurd (subst (IsIn line) are i)
  of_orders (rule ∷ rules) lines among (recorded, rest, is, lines_are, more) line i =
      by recorded rule.key refl is (subst (IsIn line) lines_are i) (of_orders rules rest (λ s j. among s (inr j)) more line)
    where
      by : (recorded : Option Line) (o : Option Key) → rule.key ≡ o → IsOrderOf f listed other a b (find (is_outside a b) keys) o recorded → IsIn line (with_line recorded rest) → (IsIn line rest → HasRoom line)
          → HasRoom line
      by None o e none j ih = ih j
      by (Some l) None e none j ih = absurd (none-some l (sym none))
      by (Some l) (Some y) e (x, may, first, short, same) (inl here) ih =
          subst HasRoom (sym (here ∙ same)) (room_by (record { reason = Order; key = Some y; following = Some x; length = pair_length f listed other a y x })
          (λ cut none. order_room x y may.0 (is_listed_by b y rule (among rule (inl refl)) e) short))
      by (Some l) (Some y) e at (inr j) ih = ih j

pub lines_room : LinesHaveRoom
lines_room listed other keys a b lines line parts are_a are_b have have_other (counts, orders, lines_are, (most, is_most, unbounded, counts_are), order_lines) there level key inside =
    by (cases_lt (price listed other a key) too_long)
  where
    none : passing (is_long listed other keys a b) parts ≡ 0
    none = of (in_append counts orders line (subst (IsIn line) lines_are (in_contains lines line there)))
      where
        of : IsIn line counts ⊎ IsIn line orders → passing (is_long listed other keys a b) parts ≡ 0
        of (inl i) = of_counts listed other keys a b (rules_sound b are_b) have most is_most line (subst (IsIn line) counts_are i) parts level
        of (inr i) = of_orders listed other keys a b (rules_sound b are_b) have b orders (λ s j. j) order_lines line i parts level

    by : (price listed other a key < too_long) ⊎ (too_long ≤ price listed other a key) → price listed other a key < too_long
    by (inl lt) = lt
    by (inr le) =
        let long = ap not (le-ltb (price listed other a key) too_long le) in
        let some = count_in (is_long listed other keys a b) (part_keys parts) key (in_contains (part_keys parts) key inside) long in
        absurd (omega (arith, some, none))
