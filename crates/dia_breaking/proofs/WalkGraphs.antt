-- The levels of a walk's graph are shorter than the levels around them.
use Rattle.std.proofs.Common.{◌≡◌, ℕ, zero, suc, ◌+◌, ◌*◌, ◌<◌, ◌≤◌, Bool, true, false, List, [], ◌∷◌, map, Option, Some, None, refl, sym, ap, subst, ◌∙◌, arith, inl, inr}
use Rattle.std.specs.Prelude.{◌||◌, nat_eq, nat_le, nat_lt, fold, Contains, slice_get, option_and_then, if◌then◌else◌}
use Rattle.std.specs.HashMap.{get}
use Rattle.std.specs.Option.{option_eq, option_map, option_map_or}
use Rattle.std.proofs.Math.Nat.{mul-le-mul_right}
use Rattle.std.proofs.lemmas.Bool.{ltb-true}
use Rattle.std.proofs.lemmas.Option.{none-some, same_Some, slice_get-map}
use Rattle.dia_wire.specs.declared.Key.{Key}
use Rattle.dia_book.specs.Keys.{same_key}
use Rattle.dia_book.specs.declared.DRule.{DRule}
use Rattle.dia_book.specs.Dictionary.{Dictionary, entry_of}
use Rattle.dia_book.proofs.Members.{at_Contains, at_filter_map, at_map, into_map}
use Rattle.dia_terms.specs.declared.Unknown.{Unknown}
use Rattle.dia_terms.specs.declared.Sends.{Sends}
use Rattle.dia_terms.specs.declared.Sends.TheVariants.{Any, Known, Filled, Listed}
use Rattle.dia_valid.proofs.Members.{IsIn, in_at}
use Rattle.dia_breaking_shortest.specs.Floors.{shortest_head}
use Rattle.dia_breaking_levels.specs.LevelTests.{too_long, capped, many, base_length, least_filler}
use Rattle.dia_breaking_ways.specs.Walks.{PlainExits, PlainLevel, PlainNode, AreLevelsShorter, HasExits, Leads, By_rule, By_wildcard}
use Rattle.dia_breaking.specs.declared.exits.Exits.{Exits}
use Rattle.dia_breaking.specs.declared.exits.Inner.{Inner}
use Rattle.dia_breaking.specs.declared.exits.Outlook.{Outlook}
use Rattle.dia_breaking.specs.declared.keys.Own.{Own}
use Rattle.dia_breaking.specs.declared.keys.Recording.{Recording}
use Rattle.dia_breaking.specs.declared.levels.LevelCost.{LevelCost}
use Rattle.dia_breaking.specs.Exits.{AreExits, AreOutlooks, IsInner, IsInnerOrNone, IsOutlook, exit_by}
use Rattle.dia_breaking.specs.Lengths.{Costs, costs_by, length_of_entry, listed_length, other_in, other_length, others_in}
use Rattle.dia_breaking.specs.LevelCosts.{with_listed}
use Rattle.dia_breaking.specs.Nodes.{exits_in, level_in, node_in}
use Rattle.dia_breaking.specs.Outlooks.{group_rules}
use Rattle.dia_breaking.specs.Recording.{IsExactRecording}
use Rattle.dia_breaking.specs.Sides.{sides}
use Rattle.dia_breaking.proofs.Lists.{all_in, contains_at}
use Rattle.dia_breaking.proofs.Reached.{cost, key_at}
use Rattle.dia_breaking.proofs.Shortest.{head_least, of_entry_least, of_entry_most}

-- ---- lengths

head_most : (key : Key) → shortest_head key ≤ too_long
head_most key = by key.vendor
  where
    by : (n : ℕ) → shortest_head (record { code = key.code; vendor = n }) ≤ too_long
    by zero = omega arith
    by (suc n) = omega arith

-- an AVP takes 8 bytes at least
listed_bounds : (d : Dictionary) (who : Sends) (lengths : List ℕ) (key : Key) → (8 ≤ listed_length d who lengths key) × (listed_length d who lengths key ≤ too_long)
listed_bounds d Any lengths key = by (entry_of d key)
  where
    by : (o : Option ℕ) → (8 ≤ option_map_or (length_of_entry lengths) o (shortest_head key)) × (option_map_or (length_of_entry lengths) o (shortest_head key) ≤ too_long)
    by None = (head_least d lengths key, head_most key)
    by (Some e) = (of_entry_least d lengths e, of_entry_most d lengths e)
listed_bounds d Known lengths key = by (entry_of d key)
  where
    by : (o : Option ℕ) → (8 ≤ option_map_or (length_of_entry lengths) o too_long) × (option_map_or (length_of_entry lengths) o too_long ≤ too_long)
    by None = (omega arith, omega arith)
    by (Some e) = (of_entry_least d lengths e, of_entry_most d lengths e)
listed_bounds d Filled lengths key = by (entry_of d key)
  where
    by : (o : Option ℕ) → (8 ≤ option_map_or (length_of_entry lengths) o too_long) × (option_map_or (length_of_entry lengths) o too_long ≤ too_long)
    by None = (omega arith, omega arith)
    by (Some e) = (of_entry_least d lengths e, of_entry_most d lengths e)
listed_bounds d Listed lengths key = by (entry_of d key)
  where
    by : (o : Option ℕ) → (8 ≤ option_map_or (length_of_entry lengths) o too_long) × (option_map_or (length_of_entry lengths) o too_long ≤ too_long)
    by None = (omega arith, omega arith)
    by (Some e) = (of_entry_least d lengths e, of_entry_most d lengths e)

-- through a wildcard it takes no less
other_more : (d : Dictionary) (who : Sends) (lengths : List ℕ) (key : Key) → listed_length d who lengths key ≤ other_length d who lengths key
other_more d Any lengths key = omega arith
other_more d Known lengths key = omega arith
other_more d Filled lengths key = omega arith
other_more d Listed lengths key = (listed_bounds d Listed lengths key).1

-- ---- a least level with an AVP

module _ (f : Key → ℕ) (filler : ℕ) where
  -- what the rule's AVPs take in a least level
  abbrev part : DRule → ℕ
  part rule = many rule.min (option_map_or f rule.key filler)

  abbrev step : ℕ → DRule → ℕ
  step sum rule = capped (sum + part rule)

  fold_up : (rules : List DRule) (sum : ℕ) → sum ≤ too_long → sum ≤ fold step sum rules
  fold_up [] sum le = omega arith
  fold_up (r ∷ rules) sum le = let ih = fold_up rules (step sum r) (omega arith) in omega (arith, ih, le)

  fold_part : (rules : List DRule) (sum : ℕ) (rule : DRule) → IsIn rule rules → part rule ≤ fold step sum rules
  fold_part [] sum rule i = absurd i
  fold_part (r ∷ rules) sum rule (inl same) =
      let up = fold_up rules (step sum r) (omega arith) in
      let e = ap part same in
      omega (arith, up, e)
  fold_part (r ∷ rules) sum rule (inr i) = fold_part rules (step sum r) rule i

  base_part : (rules : List DRule) (rule : DRule) → IsIn rule rules → part rule ≤ base_length f filler rules
  base_part rules rule i = fold_part rules 0 rule i

one_of_many : (n length : ℕ) → 0 < n → length ≤ too_long → length ≤ many n length
one_of_many n length some le =
    let more : 1 * length ≤ n * length = mul-le-mul_right {m = 1} {n = n} length (omega (arith, some)) in
    let one : 1 * length ≡ length = omega arith in
    omega (arith, more, one, le)

-- it is no shorter than the AVP
with_more : (c : LevelCost) (rule : DRule) (length : ℕ) → length ≤ too_long → (0 < rule.min → length ≤ c.base) → length ≤ with_listed c rule length
with_more c rule length le base = by (option_eq nat_eq rule.max (Some 0) || nat_le too_long length) (nat_lt 0 rule.min) refl
  where
    by : (b e : Bool) → nat_lt 0 rule.min ≡ e → length ≤ (if b then too_long else if e then c.base else capped (c.base + length))
    by true e is = le
    by false true is = base (ltb-true 0 rule.min is)
    by false false is = omega (arith, le)

module _ (da db : Dictionary) (who : Sends) (u : Unknown) (lengths : List ℕ) (others : List Key) (recording : Recording) (outlooks : List Outlook) (records : IsExactRecording (sides da db who u) recording)
    (are : AreOutlooks da db recording (costs_by da who lengths others) outlooks) where
  abbrev length_of : Key → ℕ
  length_of = listed_length da who lengths

  abbrev costs : Costs
  costs = costs_by da who lengths others

  abbrev level_cost : List DRule → LevelCost
  level_cost rules = cost da db who u lengths others recording outlooks records are rules

  with_own : (rules : List DRule) (rule : DRule) (q : Key) → IsIn rule rules → rule.key ≡ Some q → length_of q ≤ with_listed (level_cost rules) rule (length_of q)
  with_own rules rule q i is =
      let most = (listed_bounds da who lengths q).1 in
      let filler = least_filler (other_in costs rules) (others_in costs rules) rules in
      with_more (level_cost rules) rule (length_of q) most (λ some.
      let here = base_part length_of filler rules rule i in
      let own : many rule.min (option_map_or length_of rule.key filler) ≡ many rule.min (length_of q) = ap (λ (o : Option Key). many rule.min (option_map_or length_of o filler)) is in
      let one = one_of_many rule.min (length_of q) some most in
      omega (arith, here, own, one))

  -- ---- levels of the graph

  -- the level of the AVP at a place
  record LevelAt (place : ℕ) (level : PlainLevel) : Type 0 where
    outlook : Outlook
    is_outlook : slice_get outlooks place ≡ Some outlook
    inner : Inner
    is_level : level_in inner ≡ level
    is_inner : IsInner da recording costs outlook.key inner

  by_inner : (place : ℕ) (level : PlainLevel) (outlook : Outlook) → slice_get outlooks place ≡ Some outlook → IsOutlook da db recording costs outlook → (o : Option Inner) → outlook.inner ≡ o
      → option_map level_in o ≡ Some level → LevelAt place level
  by_inner place level outlook at has None is e = absurd (none-some level e)
  by_inner place level outlook at has (Some inner) is e = record {
    outlook = outlook;
    is_outlook = at;
    inner = inner;
    is_level = same_Some (level_in inner) level e;
    is_inner = (subst (λ (o : Option Inner). IsInnerOrNone da db recording costs outlook.key o) is has.inner_is).1;
  }

  by_outlook : (place : ℕ) (level : PlainLevel) (o : Option Outlook) → slice_get outlooks place ≡ o → option_and_then (λ (node : PlainNode). node.level) (option_map node_in o) ≡ Some level → LevelAt place level
  by_outlook place level None at e = absurd (none-some level e)
  by_outlook place level (Some outlook) at e =
      by_inner place level outlook at (all_in (IsOutlook da db recording costs) outlooks outlook are.1 (contains_at outlooks place outlook at)) outlook.inner refl e

  level_kept : (place : ℕ) (level : PlainLevel) → option_and_then (λ (node : PlainNode). node.level) (slice_get (map node_in outlooks) place) ≡ Some level → LevelAt place level
  level_kept place level e =
      by_outlook place level (slice_get outlooks place) refl (sym (ap (option_and_then (λ (node : PlainNode). node.level)) (slice_get-map node_in outlooks place)) ∙ e)

  -- it is shorter than its AVP
  less : (place : ℕ) (level : PlainLevel) (l : LevelAt place level) → level.least < length_of l.outlook.key
  less place level l =
      let own : l.inner.least ≡ level.least = ap (λ (x : PlainLevel). x.least) l.is_level in
      let least = l.is_inner.least in
      let some = (listed_bounds da who lengths l.outlook.key).0 in
      let head = head_least da lengths l.outlook.key in
      omega (arith, own, least, some, head)

  -- ---- where levels lead

  -- a rule that lists the place
  record RuleOf (rules : List DRule) (place n : ℕ) : Type 0 where
    rule : DRule
    key : Key
    is_rule : IsIn rule rules
    is_key : rule.key ≡ Some key
    is_place : get same_key recording.places key ≡ Some place
    is_length : with_listed (level_cost rules) rule (length_of key) ≡ n

  by_place : (rules : List DRule) (place n : ℕ) (rule : DRule) → IsIn rule rules → (q : Key) → rule.key ≡ Some q → (o : Option ℕ) → get same_key recording.places q ≡ o
      → option_map {U = ℕ × ℕ} (λ (m : ℕ). (m, with_listed (level_cost rules) rule (length_of q))) o ≡ Some (place, n) → RuleOf rules place n
  by_place rules place n rule i q is None at e = absurd (none-some (place, n) e)
  by_place rules place n rule i q is (Some m) at e =
      let same = same_Some (m, with_listed (level_cost rules) rule (length_of q)) (place, n) e in
      record { rule = rule; key = q; is_rule = i; is_key = is; is_place = at ∙ ap (λ (p : ℕ × ℕ). Some p.0) same; is_length = ap (λ (p : ℕ × ℕ). p.1) same }

  by_key : (rules : List DRule) (place n : ℕ) (rule : DRule) → IsIn rule rules → (o : Option Key) → rule.key ≡ o
      → option_and_then (λ (q : Key). option_map {U = ℕ × ℕ} (λ (m : ℕ). (m, with_listed (level_cost rules) rule (length_of q))) (get same_key recording.places q)) o ≡ Some (place, n) → RuleOf rules place n
  by_key rules place n rule i None is e = absurd (none-some (place, n) e)
  by_key rules place n rule i (Some q) is e = by_place rules place n rule i q is (get same_key recording.places q) refl e

  rule_of_place : (rules : List DRule) (own : Exits) → AreExits recording costs rules own → (place n : ℕ) → Contains own.listed.items (place, n) → RuleOf rules place n
  rule_of_place rules own exits place n inside =
      let a = at_Contains own.listed.items (place, n) inside in
      let (j, rule, at, is) = at_filter_map (exit_by recording length_of (level_cost rules)) rules a.place (place, n)
      (subst (λ (xs : List (ℕ × ℕ)). slice_get xs a.place ≡ Some (place, n)) exits.listed_are a.at) in
      by_key rules place n rule (in_at rules j rule at) rule.key refl is

  -- the key at a place is that of its outlook
  same_keys : (place : ℕ) (q : Key) (outlook : Outlook) → get same_key recording.places q ≡ Some place → slice_get outlooks place ≡ Some outlook → outlook.key ≡ q
  same_keys place q outlook at is =
      let (own, here, alike) = at_map (λ (own : Own). own.key) recording.own.items place outlook.key
      (subst (λ (xs : List Key). slice_get xs place ≡ Some outlook.key) are.0 (into_map (λ (o : Outlook). o.key) outlooks place outlook is)) in
      sym alike ∙ key_at da db who u lengths others recording outlooks records are place q own at here

  -- an AVP takes no more than a level that has it
  takes : (rules : List DRule) (own : Exits) → AreExits recording costs rules own → (place n : ℕ) (outlook : Outlook) → slice_get outlooks place ≡ Some outlook
      → Leads (map node_in outlooks) (exits_in own) place n → length_of outlook.key ≤ n
  takes rules own exits place n outlook at (By_rule lists) =
      let r = rule_of_place rules own exits place n lists in
      let same : length_of outlook.key ≡ length_of r.key = ap length_of (same_keys place r.key outlook r.is_place at) in
      let more = with_own rules r.rule r.key r.is_rule r.is_key in
      let is = r.is_length in
      omega (arith, same, more, is)
  takes rules own exits place n outlook at (By_wildcard node is_node unlisted is_length) =
      let (found, here, alike) = at_map node_in outlooks place node is_node in
      let one : found ≡ outlook = same_Some found outlook (sym here ∙ at) in
      let has = all_in (IsOutlook da db recording costs) outlooks found are.1 (contains_at outlooks place found here) in
      let its : found.other ≡ other_length da who lengths found.key = has.other_is in
      let own_other : found.other ≡ node.other = ap (λ (x : PlainNode). x.other) alike in
      let key : length_of found.key ≡ length_of outlook.key = ap (λ (o : Outlook). length_of o.key) one in
      let more = other_more da who lengths found.key in
      omega (arith, is_length, its, own_other, key, more)

  -- also one to which a level of the graph leads
  pub lead_takes : (rules : List DRule) (first : Exits) (start from : PlainExits) (room place n : ℕ) (outlook : Outlook) → AreExits recording costs rules first → start ≡ exits_in first
      → HasExits (record { nodes = map node_in outlooks; start = start; room = room }) from → Leads (map node_in outlooks) from place n → slice_get outlooks place ≡ Some outlook
      → length_of outlook.key ≤ n
  lead_takes rules first start from room place n outlook exits is has leads at = by has
    where
      led : (own : Exits) → from ≡ exits_in own → Leads (map node_in outlooks) (exits_in own) place n
      led own e = subst (λ (x : PlainExits). Leads (map node_in outlooks) x place n) e leads

      by : HasExits (record { nodes = map node_in outlooks; start = start; room = room }) from → length_of outlook.key ≤ n
      by (inl e) = takes rules first exits place n outlook at (led first (e ∙ is))
      by (inr (p, outer, at_p, e)) =
          let l = level_kept p outer at_p in
          takes (group_rules da l.outlook.key) l.inner.exits l.is_inner.exits place n outlook at (led l.inner.exits (e ∙ ap (λ (x : PlainLevel). x.exits) (sym l.is_level)))

  pub levels_shorter : (rules : List DRule) (first : Exits) (start : PlainExits) (room : ℕ) → AreExits recording costs rules first → start ≡ exits_in first
      → AreLevelsShorter (record { nodes = map node_in outlooks; start = start; room = room })
  levels_shorter rules first start room exits is from place n level has leads at =
      let l = level_kept place level at in
      let more = lead_takes rules first start from room place n l.outlook exits is has leads l.is_outlook in
      let short = less place level l in
      omega (arith, more, short)
