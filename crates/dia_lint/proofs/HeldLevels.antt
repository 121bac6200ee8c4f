-- In messages that are sent each level is reached, and so are its AVPs, by ways that leave room for them.
use Rattle.std.proofs.Common.{◌≡◌, ℕ, zero, suc, ◌+◌, ◌-◌, ◌<◌, ◌≤◌, Bool, true, false, List, [], ◌∷◌, length, map, Option, Some, None, refl, sym, ap, subst, ◌∙◌, arith, inl, inr}
use Rattle.std.specs.Prelude.{◌⊎◌, ◌||◌, sum_by, Contains, slice_get, option_and_then}
use Rattle.std.specs.List.{AllByRecursion}
use Rattle.std.specs.Option.{option_map, option_map_or}
use Rattle.std.proofs.lemmas.Option.{same_Some, slice_get_within}
use Rattle.dia_wire.specs.declared.Key.{Key}
use Rattle.dia_wire.specs.Wire.{PlainAvp, key_of, padded_length, SpellsAll}
use Rattle.dia_book.specs.declared.DRule.{DRule}
use Rattle.dia_book.specs.Dictionary.{DictEntry, PlainDefinition, IsDictionary, AreRules, definitions, entry_of, group_place, groups, lists_key}
use Rattle.dia_book.proofs.Members.{at_Contains, into_right}
use Rattle.dia_valid.specs.Valid.{Placed, is_listed}
use Rattle.dia_valid.specs.Rules.{rules_in}
use Rattle.dia_valid.proofs.Members.{IsIn, any_in, contains_in, in_all, in_at, in_contains, in_filter_map, there_is}
use Rattle.dia_valid.proofs.RulesOfKeys.{is_listed_by, key_of_test}
use Rattle.dia_breaking_levels.specs.LevelTests.{too_long, price}
use Rattle.dia_breaking_levels.proofs.AloneBounds.{least_within}
use Rattle.dia_breaking_levels.proofs.FloorFacts.{rules_in_are}
use Rattle.dia_breaking_levels.proofs.LeastLevels.{definition_rules}
use Rattle.dia_breaking_sites.specs.Sent.{AreBytes, AreSentAvps, IsSentWithin, StandAsSent}
use Rattle.dia_breaking_sites.specs.Sites.{IsLevelOf}
use Rattle.dia_breaking_sites.proofs.Room.{keeps}
use Rattle.dia_breaking_shortest.specs.Floors.{shortest_head, total}
use Rattle.dia_breaking_shortest.proofs.BytesOfAvps.{data_bytes}
use Rattle.dia_breaking_shortest.proofs.FloorsOfAvps.{no_shorter}
use Rattle.dia_breaking_shortest.proofs.FloorsOfLengths.{HasEntry, entry_at, in_map}
use Rattle.dia_breaking_ways.specs.Walks.{Graph, IsWalk, IsReached, IsUnlisted, Leads, By_rule, By_wildcard, PlainExits, PlainLevel, PlainNode, is_by_wildcard, level_of, stage_at, stage_by, stage_of, step_to}
use Rattle.dia_breaking_ways.specs.declared.graph.Step.{Step}
use Rattle.dia_breaking_ways.specs.declared.graph.Reach.{Reach}
use Rattle.dia_lint.specs.Held.{IsBelow, group_number}
use Rattle.dia_lint.specs.Ways.{Side, AreOfSide, command_node, cost_of, entry_node, exit_by, exits_of, graph_in, listed_in, nodes_of, other_in, start_of, start_part, with_listed, with_other}
use Rattle.dia_lint.proofs.Fillers.{filler_least}
use Rattle.dia_lint.proofs.Reported.{in_gathered}
use Rattle.dia_lint.proofs.WayCosts.{IsCostOf, is_cost}
use Rattle.dia_lint.proofs.WayGraphs.{command_there, entry_there, exit_by_rule}
use Rattle.dia_lint.proofs.SentLevels.{AreLong, GroupOf, all_within, beside_within, data_within, group_of, no_longer, one_list, sent_inside, stand_placed, stand_price, total_has}

-- ---- levels are reached

module _ (s : Side) (is : IsDictionary s.book) (are : AreOfSide s) (steps : List Step) (reached : List (Option Reach)) (walk : IsWalk (graph_in s) steps reached) where
  abbrev pub f : Key → ℕ
  f = listed_in s

  abbrev pub graph : Graph
  graph = graph_in s

  -- the place of the definition with this number
  abbrev pub IsPlaceOf : ℕ → ℕ → Type 0
  IsPlaceOf n place = (group_place s.book place ≡ Some n) ⊎ ((i : ℕ) × (i < length s.book.commands) × (n ≡ length (groups s.book) + i) × (place ≡ length s.book.entries + i))

  -- a step leads to the level, and leaves room for it
  pub record AtLevel (n : ℕ) (avps : List PlainAvp) : Type 0 where
    pub number : ℕ
    pub step : Step
    pub x : PlainDefinition
    pub level : PlainLevel
    pub at : slice_get steps number ≡ Some step
    pub is_def : slice_get (definitions s.book) n ≡ Some x
    pub is_place : IsPlaceOf n step.place
    pub is_level : level_of graph step.place ≡ Some level
    pub exits : level.exits ≡ exits_of s x.rules
    pub within : step.way ≤ too_long
    pub inner : IsLevelOf s.book s.sends x.rules (too_long - step.way) avps
    pub small : sum_by padded_length avps < too_long

  -- what is reached has a shortest way
  pub record HasWay (place total : ℕ) : Type 0 where
    pub reach : Reach
    pub at : slice_get reached place ≡ Some (Some reach)
    pub short : reach.length ≤ total

  way_to : (place number total : ℕ) (wild : Bool) (node : PlainNode) → slice_get (nodes_of s) place ≡ Some node → IsReached graph steps place number total wild → HasWay place total
  way_to place number total wild node at reaches = by there.0 there.1
    where
      there : (o : Option Reach) × (slice_get reached place ≡ Some o)
      there =
          let within = slice_get_within (nodes_of s) place node at in
          let size : length reached ≡ length (nodes_of s) = walk.each in
          there_is reached place (omega (arith, within, size))

      by : (o : Option Reach) → slice_get reached place ≡ Some o → HasWay place total
      by None e = absurd (walk.shortest place None e number total wild reaches)
      by (Some reach) e = record { reach = reach; at = e; short = no_longer reach number total wild ((walk.shortest place (Some reach) e).1 number total wild reaches) }

  -- the step to a level that is reached
  pub record HasStep (place : ℕ) (level : PlainLevel) (total : ℕ) : Type 0 where
    pub number : ℕ
    pub step : Step
    pub at : slice_get steps number ≡ Some step
    pub is_place : step.place ≡ place
    pub short : step.way ≤ total - level.least

  step_at : (place : ℕ) (level : PlainLevel) (total : ℕ) → level_of graph place ≡ Some level → HasWay place total → HasStep place level total
  step_at place level total is_level w =
      let step : Step = step_to place level w.reach in
      let j = at_Contains steps step (walk.to_all place level w.reach is_level w.at) in
      let taken : step.way ≡ w.reach.length - level.least = refl in
      let short = w.short in
      record { number = j.place; step = step; at = j.at; is_place = refl; short = omega (arith, taken, short) }

  costs : (n : ℕ) (x : PlainDefinition) → slice_get (definitions s.book) n ≡ Some x → IsCostOf f (other_in s) x.rules (cost_of s x.rules)
  costs n x at =
      let rules : rules_in s.book n ≡ x.rules = ap (λ (o : Option PlainDefinition). option_map_or (λ (y : PlainDefinition). y.rules) o []) at in
      let has = contains_in (definitions s.book) x (in_at (definitions s.book) n x at) in
      is_cost f (other_in s) s.others x.rules (cost_of s x.rules) (subst AreRules rules (rules_in_are s.book n is)) (filler_least s.book s.lengths is x has s.sends s.others are.exact are.are_others) refl refl

  module _ (n : ℕ) (avps : List PlainAvp) (l : AtLevel n avps) where
    abbrev pub keys : List Key
    keys = map key_of avps

    abbrev pub rules : List DRule
    rules = l.x.rules

    abbrev pub room : ℕ
    room = too_long - l.step.way

    long : AreLong f avps
    long v i =
        no_shorter s.book s.sends f are.floors v (data_bytes avps l.inner.bytes v l.inner.spelled l.inner.are_bytes i)
        (l.inner.sent.0, in_all (IsSentWithin s.book s.sends l.inner.sent.0) v avps l.inner.sent.1 i)

    keys_within : total f keys ≤ room
    keys_within = omega (arith, all_within f avps long, keeps s.book s.sends rules room avps l.inner)

    placed : Placed rules keys
    placed = stand_placed s.sends rules keys l.inner.stand

    prices : total (price f (other_in s) rules) keys ≡ total f keys
    prices = stand_price s.book s.sends s.lengths rules keys are.not_filled l.inner.stand

    key_there : (v : PlainAvp) → Contains avps v → Contains keys (key_of v)
    key_there v has = contains_in keys (key_of v) (in_map key_of avps v (in_contains avps v has))

    -- a level with an AVP of the key takes no more than these
    pub rule_within : (key : Key) (rule : DRule) → Contains keys key → IsIn rule rules → rule.key ≡ Some key → with_listed (cost_of s rules) rule (f key) ≤ room
    rule_within key rule has i own =
        let least = (costs n l.x l.is_def).listed_within key rule (contains_in rules rule i, own) keys placed has in
        omega (arith, least, prices, keys_within)

    pub other_within : (key : Key) → Contains keys key → is_listed rules key ≡ false → with_other (cost_of s rules) (other_in s key) ≤ room
    other_within key has none =
        let least = (costs n l.x l.is_def).others_within key none keys placed has in
        omega (arith, least, prices, keys_within)

    -- the level leads to an AVP of it
    abbrev pub LedTo : ℕ → Type 0
    LedTo place = (inner : ℕ) × Leads (nodes_of s) (exits_of s rules) place inner × (inner ≤ total f keys)

    module _ (v : PlainAvp) (has : Contains avps v) (place : ℕ) (at : entry_of s.book (key_of v) ≡ Some place) where
      abbrev key : Key
      key = key_of v

      h : HasEntry s.book key
      h = entry_at s.book key place at

      entry_is : slice_get s.book.entries place ≡ Some h.entry
      entry_is = subst (λ (p : ℕ). slice_get s.book.entries p ≡ Some h.entry) (same_Some h.place place (sym h.is_place ∙ at)) h.at

      by_rule : is_listed rules key ≡ true → LedTo place
      by_rule e =
          let (rule, i, test) = any_in (lists_key key) rules e in
          let own : rule.key ≡ Some key = key_of_test key rule.key test in
          let size = with_listed (cost_of s rules) rule (f key) in
          let exit : exit_by s (cost_of s rules) rule ≡ Some (place, size) =
          ap (λ (o : Option Key). option_and_then (λ (q : Key). option_map {U = ℕ × ℕ} (λ (m : ℕ). (m, with_listed (cost_of s rules) rule (f q))) (entry_of s.book q)) o) own
          ∙ ap (λ (o : Option ℕ). option_map {U = ℕ × ℕ} (λ (m : ℕ). (m, with_listed (cost_of s rules) rule (f key))) o) at in
          let lists = contains_in (exits_of s rules).listed (place, size) (in_filter_map (exit_by s (cost_of s rules)) rules rule (place, size) i exit) in
          let least = (costs n l.x l.is_def).listed_within key rule (contains_in rules rule i, own) keys placed (key_there v has) in
          (size, By_rule lists, omega (arith, least, prices))

      unlisted : is_listed rules key ≡ false → IsUnlisted (exits_of s rules).listed place
      unlisted e m inside =
          let x = exit_by_rule s are rules place m inside in
          let own = entry_at s.book x.key place x.is_place in
          let here : slice_get s.book.entries place ≡ Some own.entry = subst (λ (p : ℕ). slice_get s.book.entries p ≡ Some own.entry) (same_Some own.place place (sym own.is_place ∙ x.is_place)) own.at in
          let same : own.entry ≡ h.entry = same_Some own.entry h.entry (sym here ∙ entry_is) in
          let key_is : x.key ≡ key = sym own.own ∙ ap (λ (y : DictEntry). y.key) same ∙ h.own in
          let listed = is_listed_by rules key x.rule x.is_rule (x.is_key ∙ ap (λ (q : Key). Some q) key_is) in
          let bad : false ≡ true = sym e ∙ listed in
          cc

      by_wildcard : is_listed rules key ≡ false → LedTo place
      by_wildcard e =
          let cost = cost_of s rules in
          let least = (costs n l.x l.is_def).others_within key e keys placed (key_there v has) in
          let other : other_in s h.entry.key ≡ other_in s key = ap (other_in s) h.own in
          let all = all_within f avps long in
          (cost.beside + other_in s h.entry.key, By_wildcard (entry_node s h.entry) (entry_there s are place h.entry entry_is) (unlisted e) refl, let small = l.small in omega (arith, least, prices, other, all, small))

      pub led : LedTo place
      led = by (is_listed rules key) refl
        where
          by : (b : Bool) → is_listed rules key ≡ b → LedTo place
          by true e = by_rule e
          by false e = by_wildcard e

      staged : stage_at graph steps (suc l.number) ≡ Some (stage_by l.step l.level)
      staged =
          ap (λ (o : Option Step). option_and_then (stage_of graph) o) l.at
          ∙ ap (λ (o : Option PlainLevel). option_map (stage_by l.step) o) l.is_level

      own : Leads (nodes_of s) l.level.exits place led.0
      own = subst (λ (x : PlainExits). Leads (nodes_of s) x place led.0) (sym l.exits) led.1

      wild : Bool
      wild = is_by_wildcard own || l.step.wild

      reaches : IsReached graph steps place (suc l.number) (l.step.way + led.0) wild
      unfolding wild
      reaches = record {
        stage = stage_by l.step l.level;
        inner = led.0;
        is_stage = staged;
        leads = own;
        is_total = refl;
        is_wild = refl;
        has_room = let le = led.2 in let within = keys_within in let fits = l.within in omega (arith, le, within, fits);
      }

      -- so the AVP is reached
      pub way_of : HasWay place (l.step.way + led.0)
      way_of = way_to place (suc l.number) (l.step.way + led.0) wild (entry_node s h.entry) (entry_there s are place h.entry entry_is) reaches

    -- and the level in it, if it is a group
    module _ (v : PlainAvp) (has : Contains avps v) (m : ℕ) (next : List PlainAvp) (is_group : group_number s.book (key_of v) ≡ Some m) (spelled : SpellsAll next v.bytes) where
      g : GroupOf s.book (key_of v) m
      g = group_of s.book (key_of v) m is_group

      level_is : level_of graph g.place ≡ Some (record { least = f g.entry.key - shortest_head g.entry.key; exits = exits_of s g.group.rules })
      level_is =
          ap (λ (o : Option PlainNode). option_and_then (λ (node : PlainNode). node.level) o) (entry_there s are g.place g.entry g.at)
          ∙ ap (λ (o : Option PlainDefinition). option_map (λ (x : PlainDefinition). record { least = f g.entry.key - shortest_head g.entry.key; exits = exits_of s x.rules }) o) g.is_group

      inside : (most : ℕ) → length v.bytes ≤ most → IsLevelOf s.book s.sends g.group.rules most next
      inside most fits =
          let (k, found) = sent_inside s.book s.sends v g.group l.inner.sent.0 g.knows (in_all (IsSentWithin s.book s.sends l.inner.sent.0) v avps l.inner.sent.1 (in_contains avps v has)) in
          let (avps', spelled', stand, all) = found in
          let one : avps' ≡ next = one_list avps' next v.bytes spelled' spelled in
          record {
            bytes = v.bytes;
            are_bytes = data_bytes avps l.inner.bytes v l.inner.spelled l.inner.are_bytes (in_contains avps v has);
            spelled = spelled;
            has_room = fits;
            stand = subst (λ (vs : List PlainAvp). StandAsSent s.sends g.group.rules (map key_of vs)) one stand;
            sent = (k, subst (λ (vs : List PlainAvp). AllByRecursion (IsSentWithin s.book s.sends k) vs) one all);
          }

      pub level_inside : AtLevel m next
      level_inside =
          let total_is = led v has g.place g.is_place in
          let le = total_is.2 in
          let w = way_of v has g.place g.is_place in
          let st = step_at g.place (record { least = f g.entry.key - shortest_head g.entry.key; exits = exits_of s g.group.rules }) (l.step.way + total_is.0) level_is w in
          let short = st.short in
          let own : f g.entry.key ≡ f (key_of v) = ap f g.own in
          let head : shortest_head g.entry.key ≡ shortest_head (key_of v) = ap shortest_head g.own in
          let fits = l.within in
          let beside = beside_within f avps v long (in_contains avps v has) in
          let content = data_within v in
          let sum = keeps s.book s.sends rules room avps l.inner in
          let every = long v (in_contains avps v has) in
          let more = total_has f keys (key_of v) (in_contains keys (key_of v) (key_there v has)) in
          let small = l.small in
          let within : st.step.way ≤ too_long = omega (arith, short, le, keys_within, fits) in
          let room_in : length v.bytes ≤ too_long - st.step.way = omega (arith, short, le, own, head, fits, beside, content, sum, keys_within, every, more) in
          let taken = keeps s.book s.sends g.group.rules (length v.bytes) next (inside (length v.bytes) (omega arith)) in
          let less : sum_by padded_length next < too_long = omega (arith, taken, beside, content, every, more, small) in
          record {
            number = st.number;
            step = st.step;
            x = g.group;
            level = record { least = f g.entry.key - shortest_head g.entry.key; exits = exits_of s g.group.rules };
            at = st.at;
            is_def = g.is_def;
            is_place = subst (IsPlaceOf m) (sym st.is_place) (inl g.number);
            is_level = ap (level_of graph) st.is_place ∙ level_is;
            exits = refl;
            within = within;
            inner = inside (too_long - st.step.way) room_in;
            small = less;
          }

  -- each level below one that is reached is reached
  pub each_below : (depth n : ℕ) (level : List PlainAvp) (m : ℕ) (inner : List PlainAvp) → IsBelow s.book depth n level m inner → AtLevel n level → AtLevel m inner
  each_below zero n level m inner (number, avps) l = subst (λ (k : ℕ). AtLevel k inner) number (subst (AtLevel n) avps l)
  each_below (suc depth) n level m inner (v, group, next, has, is_group, spelled, below) l = each_below depth group next m inner below (level_inside n level l v has group next is_group spelled)

  -- ---- the level of a message

  pub top_level : (i : ℕ) (command : PlainDefinition) (avps : List PlainAvp) → slice_get s.book.commands i ≡ Some command → (body : List ℕ) → length body < too_long → AreBytes body
      → SpellsAll avps body
      → StandAsSent s.sends command.rules (map key_of avps) → AreSentAvps s.book s.sends avps → AtLevel (length (groups s.book) + i) avps
  top_level i command avps at body small bytes spelled stand sent =
      let n = length (groups s.book) + i in
      let place = length s.book.entries + i in
      let def : slice_get (definitions s.book) n ≡ Some command = into_right (groups s.book) s.book.commands i command at in
      let base = (cost_of s command.rules).base in
      let lists : Contains (start_of s).listed (place, base + 1) = listed def in
      let reaches : IsReached graph steps place 0 (base + 1) false = record {
        stage = record { way = 0; wild = false; exits = start_of s };
        inner = base + 1;
        is_stage = refl;
        leads = By_rule lists;
        is_total = omega arith;
        is_wild = refl;
        has_room = let low = base_within in omega (arith, low, small);
      } in
      let node = command_there s are i command at in
      let w = way_to place 0 (base + 1) false (command_node s command) node reaches in
      let level_is : level_of graph place ≡ Some (record { least = base; exits = exits_of s command.rules }) =
      ap (λ (o : Option PlainNode). option_and_then (λ (x : PlainNode). x.level) o) node in
      let st = step_at place (record { least = base; exits = exits_of s command.rules }) (base + 1) level_is w in
      let short = st.short in
      record {
        number = st.number;
        step = st.step;
        x = command;
        level = record { least = base; exits = exits_of s command.rules };
        at = st.at;
        is_def = def;
        is_place = inr (i, slice_get_within s.book.commands i command at, refl, st.is_place);
        is_level = ap (level_of graph) st.is_place ∙ level_is;
        exits = refl;
        within = omega (arith, short);
        inner = own (too_long - st.step.way) (omega (arith, short, small));
        small = let taken = keeps s.book s.sends command.rules (length body) avps (own (length body) (omega arith)) in omega (arith, taken, small);
      }
    where
      own : (room : ℕ) → length body ≤ room → IsLevelOf s.book s.sends command.rules room avps
      own room fits = record { bytes = body; are_bytes = bytes; spelled = spelled; has_room = fits; stand = stand; sent = sent }

      base_within : (cost_of s command.rules).base ≤ length body
      base_within =
          let has : Contains (definitions s.book) command = contains_in (definitions s.book) command (in_at (definitions s.book) (length (groups s.book) + i) command (into_right (groups s.book) s.book.commands i command at)) in
          let least = least_within f (other_in s) s.others command.rules (cost_of s command.rules).base (definition_rules s.book command is has) refl
          (filler_least s.book s.lengths is command has s.sends s.others are.exact are.are_others) (map key_of avps) (stand_placed s.sends command.rules (map key_of avps) stand) in
          let price = stand_price s.book s.sends s.lengths command.rules (map key_of avps) are.not_filled stand in
          let all = all_within f avps (λ v i. no_shorter s.book s.sends f are.floors v (data_bytes avps body v spelled bytes i) (sent.0, in_all (IsSentWithin s.book s.sends sent.0) v avps sent.1 i)) in
          let sum = keeps s.book s.sends command.rules (length body) avps (own (length body) (omega arith)) in
          omega (arith, least, price, all, sum)

      listed : slice_get (definitions s.book) (length (groups s.book) + i) ≡ Some command → Contains (start_of s).listed (length s.book.entries + i, (cost_of s command.rules).base + 1)
      listed def =
          let rules_are : rules_in s.book (length (groups s.book) + i) ≡ command.rules = ap (λ (o : Option PlainDefinition). option_map_or (λ (y : PlainDefinition). y.rules) o []) def in
          let part : start_part s i ≡ (length s.book.entries + i, (cost_of s command.rules).base + 1) ∷ [] =
          ap (λ (rs : List DRule). (length s.book.entries + i, (cost_of s rs).base + 1) ∷ []) rules_are in
          in_gathered (start_part s) (length s.book.commands) i (length s.book.entries + i, (cost_of s command.rules).base + 1) (slice_get_within s.book.commands i command at)
          (subst (λ (xs : List (ℕ × ℕ)). Contains xs (length s.book.entries + i, (cost_of s command.rules).base + 1)) (sym part) (0, omega arith, refl))
