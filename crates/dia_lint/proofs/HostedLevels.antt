-- Each step of a walk is to levels of messages: each level that can be sent, and that the step's way leaves room for, is that of a
-- message that is sent.
use Rattle.std.proofs.Common.{◌≡◌, ℕ, zero, suc, ◌+◌, ◌-◌, ◌<◌, ◌≤◌, Bool, true, false, List, [], length, map, Option, Some, None, refl, sym, ap, subst, ◌∙◌, arith, inl, inr}
use Rattle.std.specs.Prelude.{◌⊎◌, Contains, slice_get, option_and_then}
use Rattle.std.specs.List.{AllByRecursion}
use Rattle.std.specs.Option.{option_map, option_map_or}
use Rattle.std.proofs.lemmas.Option.{none-some, same_Some, slice_get_within}
use Rattle.dia_wire.specs.declared.Key.{Key}
use Rattle.dia_wire.specs.Wire.{PlainAvp, key_of, SpellsAll}
use Rattle.dia_book.specs.declared.DRule.{DRule}
use Rattle.dia_book.specs.Dictionary.{Dictionary, DictEntry, PlainDefinition, IsDictionary, definitions, entry_of, group_place, groups, lists_key}
use Rattle.dia_book.proofs.Members.{into_right}
use Rattle.dia_valid.specs.Rules.{rules_in}
use Rattle.dia_valid.specs.Valid.{is_listed, known}
use Rattle.dia_valid.proofs.GroupNumbers.{group_there, number_of}
use Rattle.dia_valid.proofs.Members.{IsIn, any_in, contains_in, in_all, in_at, in_contains, in_filter_map, there_is}
use Rattle.dia_valid.proofs.RulesOfKeys.{key_of_test}
use Rattle.dia_breaking_levels.specs.LevelTests.{too_long}
use Rattle.dia_breaking_sites.specs.Sent.{IsSent, StandAsSent}
use Rattle.dia_breaking_sites.specs.Sites.{IsLevelOf}
use Rattle.dia_breaking_shortest.specs.Floors.{shortest_head}
use Rattle.dia_breaking_shortest.proofs.FloorsOfAvps.{spelled_length}
use Rattle.dia_breaking_shortest.proofs.FloorsOfLengths.{entry_at}
use Rattle.dia_breaking_ways.specs.Walks.{Graph, IsUnlisted, IsWalk, Leads, By_rule, By_wildcard, PlainExits, PlainLevel, PlainNode, Stage, level_of, stage_at, stage_by, stage_of}
use Rattle.dia_breaking_ways.specs.declared.graph.Reach.{Reach}
use Rattle.dia_breaking_ways.specs.declared.graph.Step.{Step}
use Rattle.dia_lint.specs.Exact.{AreNumbered}
use Rattle.dia_lint.specs.Held.{HasLevel, IsBelow, group_number}
use Rattle.dia_lint.specs.Ways.{Side, AreOfSide, cost_of, entry_node, exit_by, exits_of, graph_in, listed_in, nodes_of, other_in, start_of, start_part, with_listed}
use Rattle.dia_lint.proofs.ChosenLevels.{IsMadeWith, listed_chosen, other_chosen}
use Rattle.dia_lint.proofs.HeldLevels.{IsPlaceOf}
use Rattle.dia_lint.proofs.Headers.{some_header}
use Rattle.dia_lint.proofs.MadeAvps.{IsMade, group_of_level, made, made_with}
use Rattle.dia_lint.proofs.MadeLevels.{padded_head}
use Rattle.dia_lint.proofs.Messages.{aligned, sent_message}
use Rattle.dia_lint.proofs.Reported.{gathered_in, own_place}
use Rattle.dia_lint.proofs.SentLevels.{data_within, total_has}
use Rattle.dia_lint.proofs.WayGraphs.{EntryAt, CommandAt, command_there, entry_there, exit_by_rule, group_level_of, node_at, one_contained}

-- ---- levels below levels

-- a level in an AVP of one that is below
one_below : (d : Dictionary) (depth n : ℕ) (level : List PlainAvp) (m : ℕ) (inner : List PlainAvp) (v : PlainAvp) (group : ℕ) (next : List PlainAvp) → IsBelow d depth n level m inner → Contains inner v
    → group_number d (key_of v) ≡ Some group → SpellsAll next v.bytes → IsBelow d (suc depth) n level group next
one_below d zero n level m inner v group next (number, same) has is spelled =
    (v, group, next, subst (λ (avps : List PlainAvp). Contains avps v) (sym same) has, is, spelled, (refl, refl))
one_below d (suc depth) n level m inner v group next (w, g, avps, there, number, spells, below) has is spelled =
    (w, g, avps, there, number, spells, one_below d depth g avps m inner v group next below has is spelled)

-- ---- levels of a side

module _ (s : Side) where
  -- a message that is sent has the level
  abbrev pub IsSentLevelOf : ℕ → List PlainAvp → Type 0
  IsSentLevelOf n avps = (bytes : List ℕ) × (c : ℕ) × (sent : IsSent s.book s.sends bytes c) × HasLevel s.book c sent.avps n avps

  -- each level of the rules that such a way leaves room for is in a message
  abbrev pub Hosts : ℕ → List DRule → ℕ → Type 0
  Hosts n rules way = (avps : List PlainAvp) → IsLevelOf s.book s.sends rules (too_long - way) avps → IsSentLevelOf n avps

  -- in a message so many bytes are around levels of the definition, which lead there
  pub record IsInside (n way : ℕ) (exits : PlainExits) : Type 0 where
    pub def : PlainDefinition
    pub is_def : slice_get (definitions s.book) n ≡ Some def
    pub is_exits : exits ≡ exits_of s def.rules
    pub some : 0 < way
    pub hosts : Hosts n def.rules way

  -- a level with an AVP of the place, made of AVPs that take n bytes together
  pub record IsMadeAt (rules : List DRule) (place n : ℕ) : Type 0 where
    pub key : Key
    pub is_place : entry_of s.book key ≡ Some place
    pub made : IsMadeWith s rules key n

  -- some message has a level with an AVP of the key
  pub record IsMadeIn (n : ℕ) (key : Key) : Type 0 where
    pub avps : List PlainAvp
    pub sent : IsSentLevelOf n avps
    pub has : Contains (map key_of avps) key

  -- where levels have room for such a level
  pub made_in : (n way : ℕ) (rules : List DRule) (key : Key) (size : ℕ) → Hosts n rules way → IsMadeWith s rules key size → way + size ≤ too_long → IsMadeIn n key
  made_in n way rules key size hosts (keys, stand, all, has, sum) fits =
      let b = made s.book s.sends (listed_in s) keys all in
      let length_is = b.size in
      let level : IsLevelOf s.book s.sends rules (too_long - way) b.avps = record {
        bytes = b.bytes;
        are_bytes = b.are;
        spelled = b.spelled;
        has_room = omega (arith, length_is, sum, fits);
        stand = subst (StandAsSent s.sends rules) (sym b.keys_are) stand;
        sent = (b.depth, b.fit);
      } in
      record { avps = b.avps; sent = hosts b.avps level; has = subst (λ (ks : List Key). Contains ks key) (sym b.keys_are) has }

-- ---- groups

module _ (s : Side) (is : IsDictionary s.book) (are : AreOfSide s) where
  -- levels of a group in its AVPs
  module _ (n way : ℕ) (rules : List DRule) (size : ℕ) (hosts : Hosts s n rules way) (fits : way + size ≤ too_long) (some : 0 < way) (place : ℕ) (entry : DictEntry) (at : slice_get s.book.entries place ≡ Some entry)
      (group : PlainDefinition) (is_group : entry.group ≡ Some group) where
    own : entry_of s.book entry.key ≡ Some place
    own = own_place s.book place entry is at

    is_known : known s.book entry.key ≡ Some entry
    is_known = ap (λ (o : Option ℕ). option_and_then (λ (i : ℕ). slice_get s.book.entries i) o) own ∙ at

    number_is : group_number s.book entry.key ≡ Some (number_of s.book place)
    number_is = ap (λ (o : Option ℕ). option_and_then (group_place s.book) o) own ∙ (group_there s.book place entry group at is_group).0

    -- an AVP of the key is no shorter than its head
    head_within : (keys : List Key) → AllByRecursion (λ k. IsMade s.book s.sends k (listed_in s k)) keys → IsIn entry.key keys → shortest_head entry.key ≤ listed_in s entry.key
    head_within keys all i =
        let (v, bytes, is_key, sent, spelled, bytes_are, length_is) = in_all (λ (k : Key). IsMade s.book s.sends k (listed_in s k)) entry.key keys all i in
        let more = data_within v in
        let head = ap shortest_head is_key in
        let whole = spelled_length v bytes spelled in
        omega (arith, more, head, whole, length_is)

    inside : IsMadeWith s rules entry.key size → (avps : List PlainAvp) → IsLevelOf s.book s.sends group.rules (too_long - (way + size - (listed_in s entry.key - shortest_head entry.key))) avps
        → IsSentLevelOf s (number_of s.book place) avps
    inside (keys, stand, all, has, sum) avps l =
        let i = in_contains keys entry.key has in
        let low = head_within keys all i in
        let most = total_has (listed_in s) keys entry.key i in
        let room = l.has_room in
        let aligns = aligned avps l.bytes l.spelled in
        let head = padded_head entry.key in
        let g = group_of_level s.book s.sends entry.key entry group avps l.bytes l.sent.0 (are.spelled place entry at) is_known is_group l.spelled l.are_bytes l.stand l.sent.1
        (omega (arith, low, most, room, sum, fits, some)) in
        let own_key = g.own in
        let w = made_with s.book s.sends (listed_in s) g.v g.bytes g.depth g.fit g.spelled g.are keys all (subst (λ (k : Key). IsIn k keys) (sym own_key) i) in
        let length_is = w.made.size in
        let n_is = w.n_is in
        let g_size = g.size in
        let cost : listed_in s (key_of g.v) ≡ listed_in s entry.key = ap (listed_in s) own_key in
        let outer : IsLevelOf s.book s.sends rules (too_long - way) w.made.avps = record {
          bytes = w.made.bytes;
          are_bytes = w.made.are;
          spelled = w.made.spelled;
          has_room = omega (arith, length_is, n_is, g_size, cost, low, most, room, sum, fits, aligns, head);
          stand = subst (StandAsSent s.sends rules) (sym w.made.keys_are) stand;
          sent = (w.made.depth, w.made.fit);
        } in
        let (bytes, c, sent, (depth, below)) = hosts w.made.avps outer in
        let number = ap (group_number s.book) own_key ∙ number_is in
        (bytes, c, sent, (suc depth, one_below s.book depth c sent.avps n w.made.avps g.v (number_of s.book place) avps below (contains_in w.made.avps g.v w.has) number g.inner))

-- ---- where levels lead

module _ (s : Side) (is : IsDictionary s.book) (are : AreOfSide s) (steps : List Step) (reached : List (Option Reach)) (walk : IsWalk (graph_in s) steps reached) (numbered : AreNumbered s.book) where
  abbrev graph : Graph
  graph = graph_in s

  -- ---- the AVPs of levels

  in_definitions : (n : ℕ) (def : PlainDefinition) → slice_get (definitions s.book) n ≡ Some def → Contains (definitions s.book) def
  in_definitions n def at = contains_in (definitions s.book) def (in_at (definitions s.book) n def at)

  -- a key that no rule lists, where no rule leads to its place
  unlisted_key : (rules : List DRule) (key : Key) (place : ℕ) → entry_of s.book key ≡ Some place → IsUnlisted (exits_of s rules).listed place → is_listed rules key ≡ false
  unlisted_key rules key place at unlisted = by (is_listed rules key) refl
    where
      by : (b : Bool) → is_listed rules key ≡ b → b ≡ false
      by false e = refl
      by true e =
          let (rule, i, test) = any_in (lists_key key) rules e in
          let own : rule.key ≡ Some key = key_of_test key rule.key test in
          let size = with_listed (cost_of s rules) rule (listed_in s key) in
          let exit : exit_by s (cost_of s rules) rule ≡ Some (place, size) =
          ap (λ (o : Option Key). option_and_then (λ (q : Key). option_map {U = ℕ × ℕ} (λ (m : ℕ). (m, with_listed (cost_of s rules) rule (listed_in s q))) (entry_of s.book q)) o) own
          ∙ ap (λ (o : Option ℕ). option_map {U = ℕ × ℕ} (λ (m : ℕ). (m, with_listed (cost_of s rules) rule (listed_in s key))) o) at in
          absurd (unlisted size (contains_in (exits_of s rules).listed (place, size) (in_filter_map (exit_by s (cost_of s rules)) rules rule (place, size) i exit)))

  made_at : (n : ℕ) (def : PlainDefinition) (place size : ℕ) → slice_get (definitions s.book) n ≡ Some def → Leads (nodes_of s) (exits_of s def.rules) place size → size < too_long → IsMadeAt s def.rules place size
  made_at n def place size at (By_rule lists) short =
      let x = exit_by_rule s are def.rules place size lists in
      let length_is = x.is_length in
      record {
        key = x.key;
        is_place = x.is_place;
        made = subst (IsMadeWith s def.rules x.key) length_is
            (listed_chosen s is are def (in_definitions n def at) x.rule (contains_in def.rules x.rule x.is_rule) x.key x.is_key (omega (arith, length_is, short)));
      }
  made_at n def place size at (By_wildcard node is_node unlisted is_length) short = by (node_at s are place node is_node)
    where
      by : EntryAt s are place node ⊎ CommandAt s are place node → IsMadeAt s def.rules place size
      by (inl x) =
          let key = x.entry.key in
          let own = own_place s.book place x.entry is x.at in
          let other : other_in s key ≡ node.other = ap (λ (y : PlainNode). y.other) x.is in
          let sum : (cost_of s def.rules).beside + other_in s key ≡ size = omega (arith, other, is_length) in
          record {
            key = key;
            is_place = own;
            made = subst (IsMadeWith s def.rules key) sum
                (other_chosen s is are def (in_definitions n def at) key (unlisted_key def.rules key place own unlisted) (are.spelled place x.entry x.at) (omega (arith, sum, short)));
          }
      by (inr x) = absurd (let other : too_long + 1 ≡ node.other = ap (λ (y : PlainNode). y.other) x.is in omega (arith, other, is_length, short))

  -- ---- commands

  -- the start leads to commands
  pub record IsStart (place size : ℕ) : Type 0 where
    pub index : ℕ
    pub command : PlainDefinition
    pub at : slice_get s.book.commands index ≡ Some command
    pub is_place : place ≡ length s.book.entries + index
    pub is_size : size ≡ (cost_of s command.rules).base + 1

  start_at : (place size : ℕ) → Leads (nodes_of s) (start_of s) place size → size ≤ too_long → IsStart place size
  start_at place size (By_rule lists) fits =
      let (i, lt, part) = gathered_in (start_part s) (length s.book.commands) (place, size) lists in
      let one : (length s.book.entries + i, (cost_of s (rules_in s.book (length (groups s.book) + i))).base + 1) ≡ (place, size) = one_contained _ (place, size) part in
      let (command, at) = there_is s.book.commands i lt in
      let rules : rules_in s.book (length (groups s.book) + i) ≡ command.rules =
      ap (λ (o : Option PlainDefinition). option_map_or (λ (y : PlainDefinition). y.rules) o []) (into_right (groups s.book) s.book.commands i command at) in
      record {
        index = i;
        command = command;
        at = at;
        is_place = sym (ap (λ (p : ℕ × ℕ). p.0) one);
        is_size = sym (ap (λ (p : ℕ × ℕ). p.1) one) ∙ ap (λ (rs : List DRule). (cost_of s rs).base + 1) rules;
      }
  start_at place size (By_wildcard node is_node unlisted is_length) fits = absurd (omega (arith, is_length, fits))

  command_hosts : (i : ℕ) (command : PlainDefinition) → slice_get s.book.commands i ≡ Some command → Hosts s (length (groups s.book) + i) command.rules 1
  command_hosts i command at avps l =
      let n = length (groups s.book) + i in
      let def = into_right (groups s.book) s.book.commands i command at in
      let (h, of) = some_header s.book is i command at (numbered i command at) in
      let room = l.has_room in
      let (bytes, sent, same) = sent_message s.book n command def s.sends h of avps l.bytes l.spelled (omega (arith, room)) l.are_bytes l.stand l.sent in
      (bytes, n, sent, (0, (refl, same)))

  -- ---- steps

  -- the step is to levels of this definition
  pub record OfStep (step : Step) : Type 0 where
    pub n : ℕ
    pub is_place : IsPlaceOf s is are steps reached walk n step.place
    pub level : PlainLevel
    pub is_level : level_of graph step.place ≡ Some level
    pub inside : IsInside s n step.way level.exits

  -- a level of messages: the choice of a command, or one of a definition
  abbrev pub AtStage : Stage → Type 0
  AtStage stage = (stage ≡ record { way = 0; wild = false; exits = start_of s }) ⊎ ((n : ℕ) × IsInside s n stage.way stage.exits)

  -- the steps before a number
  abbrev AreBefore : ℕ → Type 0
  AreBefore i = (j : ℕ) (t : Step) → j < i → slice_get steps j ≡ Some t → OfStep t

  stage_before : (i number : ℕ) (stage : Stage) → stage_at graph steps number ≡ Some stage → number ≤ i → AreBefore i → AtStage stage
  stage_before i zero stage at le before = inl (sym (same_Some (record { way = 0; wild = false; exits = start_of s }) stage at))
  stage_before i (suc j) stage at le before = by (slice_get steps j) refl at
    where
      of : (t : Step) → OfStep t → stage_of graph t ≡ Some stage → AtStage stage
      of t o own =
          let there : stage_of graph t ≡ Some (stage_by t o.level) = ap (option_map (stage_by t)) o.is_level in
          let same : stage_by t o.level ≡ stage = same_Some (stage_by t o.level) stage (sym there ∙ own) in
          inr (o.n, subst (λ (x : Stage). IsInside s o.n x.way x.exits) same o.inside)

      by : (o : Option Step) → slice_get steps j ≡ o → option_and_then (stage_of graph) o ≡ Some stage → AtStage stage
      by None is_step e = absurd (none-some stage e)
      by (Some t) is_step e = of t (before j t (omega (arith, le)) is_step) e

  -- the step by a way through a level of messages
  pub record IsLed (place : ℕ) (level : PlainLevel) (way : ℕ) : Type 0 where
    pub n : ℕ
    pub is_place : IsPlaceOf s is are steps reached walk n place
    pub inside : IsInside s n way level.exits

  start_led : (place size : ℕ) (level : PlainLevel) → level_of graph place ≡ Some level → IsStart place size → IsLed place level (size - level.least)
  start_led place size level is_level x =
      let n = length (groups s.book) + x.index in
      let own : PlainLevel = record { least = (cost_of s x.command.rules).base; exits = exits_of s x.command.rules } in
      let node : level_of graph (length s.book.entries + x.index) ≡ Some own =
      ap (λ (o : Option PlainNode). option_and_then (λ (y : PlainNode). y.level) o) (command_there s are x.index x.command x.at) in
      let same : own ≡ level = same_Some own level (sym node ∙ ap (level_of graph) (sym x.is_place) ∙ is_level) in
      let least : (cost_of s x.command.rules).base ≡ level.least = ap (λ (l : PlainLevel). l.least) same in
      let size_is = x.is_size in
      let way : 1 ≡ size - level.least = omega (arith, least, size_is) in
      record {
        n = n;
        is_place = inr (x.index, slice_get_within s.book.commands x.index x.command x.at, refl, x.is_place);
        inside = record {
          def = x.command;
          is_def = into_right (groups s.book) s.book.commands x.index x.command x.at;
          is_exits = sym (ap (λ (l : PlainLevel). l.exits) same);
          some = omega (arith, way);
          hosts = subst (Hosts s n x.command.rules) way (command_hosts x.index x.command x.at);
        };
      }

  inside_led : (n way : ℕ) (def : PlainDefinition) (place size : ℕ) (level : PlainLevel) → Hosts s n def.rules way → 0 < way → way + size ≤ too_long → level_of graph place ≡ Some level → IsMadeAt s def.rules place size
      → IsLed place level (way + size - level.least)
  inside_led n way def place size level hosts some fits is_level m =
      let h = entry_at s.book m.key place m.is_place in
      let at : slice_get s.book.entries place ≡ Some h.entry = subst (λ (p : ℕ). slice_get s.book.entries p ≡ Some h.entry) (same_Some h.place place (sym h.is_place ∙ m.is_place)) h.at in
      let node : level_of graph place ≡ (entry_node s h.entry).level = ap (λ (o : Option PlainNode). option_and_then (λ (y : PlainNode). y.level) o) (entry_there s are place h.entry at) in
      let (group, is_group, same) = group_level_of s are h.entry level (sym node ∙ is_level) in
      let least : listed_in s h.entry.key - shortest_head h.entry.key ≡ level.least = ap (λ (l : PlainLevel). l.least) same in
      let there = group_there s.book place h.entry group at is_group in
      let made : IsMadeWith s def.rules h.entry.key size = subst (λ (k : Key). IsMadeWith s def.rules k size) (sym h.own) m.made in
      let inner = inside s is are n way def.rules size hosts fits some place h.entry at group is_group made in
      let most : level.least ≤ size = within made least in
      record {
        n = number_of s.book place;
        is_place = inl there.0;
        inside = record {
          def = group;
          is_def = there.1;
          is_exits = sym (ap (λ (l : PlainLevel). l.exits) same);
          some = omega (arith, some, most);
          hosts = subst (λ (w : ℕ). Hosts s (number_of s.book place) group.rules (way + size - w)) least inner;
        };
      }
    where
      within : {key : Key} → IsMadeWith s def.rules key size → listed_in s key - shortest_head key ≡ level.least → level.least ≤ size
      within {key} (keys, stand, all, has, sum) least = let most = total_has (listed_in s) keys key (in_contains keys key has) in omega (arith, most, sum, least)

  led : (stage : Stage) (place size : ℕ) (level : PlainLevel) → AtStage stage → Leads (nodes_of s) stage.exits place size → stage.way + size ≤ too_long → level_of graph place ≡ Some level
      → IsLed place level (stage.way + size - level.least)
  led stage place size level (inl start) leads fits is_level =
      let none : stage.way ≡ 0 = ap (λ (x : Stage). x.way) start in
      let leads_there = subst (λ (x : Stage). Leads (nodes_of s) x.exits place size) start leads in
      let way : size - level.least ≡ stage.way + size - level.least = omega (arith, none) in
      subst (IsLed place level) way (start_led place size level is_level (start_at place size leads_there (omega (arith, fits))))
  led stage place size level (inr (n, x)) leads fits is_level =
      let some = x.some in
      let leads_there = subst (λ (exits : PlainExits). Leads (nodes_of s) exits place size) x.is_exits leads in
      inside_led n stage.way x.def place size level x.hosts some fits is_level (made_at n x.def place size x.is_def leads_there (omega (arith, some, fits)))

  one_step : (i : ℕ) (step : Step) → slice_get steps i ≡ Some step → AreBefore i → OfStep step
  one_step i step at before =
      let own = walk.to_reached i step at in
      let r = (walk.shortest step.place (Some own.reach) own.is_reach).0 in
      let outer : step.outer ≡ own.reach.level = ap (λ (t : Step). t.outer) own.is_step in
      let first = walk.outer_first i step at in
      let stage = stage_before i own.reach.level r.stage r.is_stage (omega (arith, outer, first)) before in
      let total_is = r.is_total in
      let room = r.has_room in
      let found = led r.stage step.place r.inner own.level stage r.leads (omega (arith, total_is, room)) own.is_level in
      let way : step.way ≡ own.reach.length - own.level.least = ap (λ (t : Step). t.way) own.is_step in
      let way_is : r.stage.way + r.inner - own.level.least ≡ step.way = omega (arith, way, total_is) in
      record {
        n = found.n;
        is_place = found.is_place;
        level = own.level;
        is_level = own.is_level;
        inside = subst (λ (w : ℕ). IsInside s found.n w own.level.exits) way_is found.inside;
      }

  steps_below : (n i : ℕ) (step : Step) → i < n → slice_get steps i ≡ Some step → OfStep step
  steps_below zero i step lt at = absurd (omega (arith, lt))
  steps_below (suc n) i step lt at = one_step i step at (λ j t less there. steps_below n j t (omega (arith, lt, less)) there)

  pub of_step : (i : ℕ) (step : Step) → slice_get steps i ≡ Some step → OfStep step
  of_step i step at = steps_below (suc i) i step (omega arith) at

  -- ---- AVPs

  -- an entry that is reached: some message has an AVP of it, which a message has room for
  pub record IsHosted (place : ℕ) : Type 0 where
    pub n : ℕ
    pub key : Key
    pub is_place : entry_of s.book key ≡ Some place
    pub level : IsMadeIn s n key
    pub short : listed_in s key < too_long

  pub reached_entry : (place : ℕ) (reach : Reach) → place < length s.book.entries → slice_get reached place ≡ Some (Some reach) → IsHosted place
  reached_entry place reach within at =
      let r = (walk.shortest place (Some reach) at).0 in
      let total_is = r.is_total in
      let room = r.has_room in
      by r.stage r.inner (stage_before reach.level reach.level r.stage r.is_stage (omega arith) (λ j t lt there. of_step j t there)) r.leads (omega (arith, total_is, room))
    where
      short : (key : Key) (rules : List DRule) (size : ℕ) → IsMadeWith s rules key size → size < too_long → listed_in s key < too_long
      short key rules size (keys, stand, all, has, sum) less = let most = total_has (listed_in s) keys key (in_contains keys key has) in omega (arith, most, sum, less)

      by : (stage : Stage) (size : ℕ) → AtStage stage → Leads (nodes_of s) stage.exits place size → stage.way + size ≤ too_long → IsHosted place
      by stage size (inl start) leads fits =
          let x = start_at place size (subst (λ (y : Stage). Leads (nodes_of s) y.exits place size) start leads) (omega (arith, fits)) in
          absurd (let place_is = x.is_place in omega (arith, place_is, within))
      by stage size (inr (n, x)) leads fits =
          let some = x.some in
          let m = made_at n x.def place size x.is_def (subst (λ (exits : PlainExits). Leads (nodes_of s) exits place size) x.is_exits leads) (omega (arith, some, fits)) in
          record {
            n = n;
            key = m.key;
            is_place = m.is_place;
            level = made_in s n stage.way x.def.rules m.key size x.hosts m.made fits;
            short = short m.key x.def.rules size m.made (omega (arith, some, fits));
          }
