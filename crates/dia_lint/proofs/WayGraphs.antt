-- What is at the places of the graph of messages' levels, and that each level is shorter than a level with its AVP.
use Rattle.std.proofs.Common.{◌≡◌, ℕ, zero, suc, ◌+◌, ◌-◌, ◌*◌, ◌<◌, ◌≤◌, Bool, true, false, List, [], ◌∷◌, length, map, Option, Some, None, refl, sym, ap, subst, ◌∙◌, arith, inl, inr}
use Rattle.std.specs.Prelude.{◌⊎◌, nat_eq, nat_le, nat_lt, ◌||◌, if◌then◌else◌, fold, option_and_then, slice_get, Contains}
use Rattle.std.specs.Option.{option_eq, option_map, option_map_or}
use Rattle.std.proofs.lemmas.Bool.{ltb-true}
use Rattle.std.proofs.lemmas.List.{length-map}
use Rattle.std.proofs.lemmas.Option.{none-some, same_Some, slice_get_within}
use Rattle.std.proofs.Math.Nat.{mul-le-mul_right}
use Rattle.dia_wire.specs.declared.Key.{Key}
use Rattle.dia_book.specs.declared.DRule.{DRule}
use Rattle.dia_book.specs.Dictionary.{Dictionary, DictEntry, PlainDefinition, entry_of, groups}
use Rattle.dia_book.proofs.Members.{at_Contains, at_append, at_filter_map, at_map, into_left, into_map, into_right}
use Rattle.dia_terms.specs.declared.Sends.{Sends}
use Rattle.dia_terms.specs.declared.Sends.TheVariants.{Any, Known, Filled, Listed}
use Rattle.dia_valid.specs.Rules.{rules_in}
use Rattle.dia_valid.proofs.Members.{IsIn, in_at}
use Rattle.dia_breaking_levels.specs.LevelTests.{too_long, capped, many, base_length, least_filler}
use Rattle.dia_breaking_shortest.specs.Exact.{AreExact}
use Rattle.dia_breaking_shortest.specs.Floors.{shortest_head}
use Rattle.dia_breaking_shortest.specs.Lengths.{length_of}
use Rattle.dia_breaking_shortest.proofs.FloorsOfLengths.{entry_at}
use Rattle.dia_breaking_shortest.proofs.LeafLengths.{head_long}
use Rattle.dia_breaking_ways.specs.Walks.{AreLevelsShorter, HasExits, Leads, By_rule, By_wildcard, PlainExits, PlainLevel, PlainNode, level_of}
use Rattle.dia_lint.specs.declared.levels.LevelCost.{LevelCost}
use Rattle.dia_lint.specs.Costs.{other_length}
use Rattle.dia_lint.specs.Ways.{Side, AreOfSide, command_node, cost_of, entry_node, exit_by, exits_of, graph_in, listed_in, nodes_of, other_in, start_of, start_part, with_listed}
use Rattle.dia_lint.proofs.Fillers.{length_within}
use Rattle.dia_lint.proofs.Reported.{gathered_in}
use Rattle.dia_lint.proofs.WayCosts.{base_most}

-- ---- lengths

-- through a wildcard an AVP takes no less
pub other_more : (d : Dictionary) (sends : Sends) (lengths : List ℕ) (key : Key) → AreExact d sends lengths → length_of d sends lengths key ≤ other_length d sends lengths key
other_more d Any lengths key exact = omega arith
other_more d Known lengths key exact = omega arith
other_more d Filled lengths key exact = (length_within d Filled lengths exact key).1
other_more d Listed lengths key exact = (length_within d Listed lengths exact key).1

-- ---- a least level with an AVP

module _ (f : Key → ℕ) (filler : ℕ) where
  -- what the rule's AVPs take in a least level
  abbrev part : DRule → ℕ
  part rule = many rule.min (option_map_or f rule.key filler)

  abbrev step : ℕ → DRule → ℕ
  step sum rule = capped (sum + part rule)

  fold_up : (rules : List DRule) (sum : ℕ) → sum ≤ too_long → sum ≤ fold step sum rules
  fold_up [] sum le = omega arith
  fold_up (r ∷ rules) sum le = let ih = fold_up rules (step sum r) (omega arith) in omega (arith, ih, le)

  fold_part : (rules : List DRule) (sum : ℕ) (rule : DRule) → IsIn rule rules → part rule ≤ fold step sum rules
  fold_part [] sum rule i = absurd i
  fold_part (r ∷ rules) sum rule (inl same) =
      let up = fold_up rules (step sum r) (omega arith) in
      let e = ap part same in
      omega (arith, up, e)
  fold_part (r ∷ rules) sum rule (inr i) = fold_part rules (step sum r) rule i

  base_part : (rules : List DRule) (rule : DRule) → IsIn rule rules → part rule ≤ base_length f filler rules
  base_part rules rule i = fold_part rules 0 rule i

one_of_many : (n length : ℕ) → 0 < n → length ≤ too_long → length ≤ many n length
one_of_many n length some le =
    let more : 1 * length ≤ n * length = mul-le-mul_right {m = 1} {n = n} length (omega (arith, some)) in
    let one : 1 * length ≡ length = omega arith in
    omega (arith, more, one, le)

-- it is no shorter than the AVP
with_more : (c : LevelCost) (rule : DRule) (length : ℕ) → length ≤ too_long → (0 < rule.min → length ≤ c.base) → length ≤ with_listed c rule length
with_more c rule length le base = by (option_eq nat_eq rule.max (Some 0) || nat_le too_long length) (nat_lt 0 rule.min) refl
  where
    by : (b e : Bool) → nat_lt 0 rule.min ≡ e → length ≤ (if b then too_long else if e then c.base else capped (c.base + length))
    by true e is = le
    by false true is = base (ltb-true 0 rule.min is)
    by false false is = omega (arith, le)

-- one member
pub one_contained : {X : Type 0} (x y : X) → Contains (x ∷ []) y → x ≡ y
one_contained x y h = let r = at_Contains (x ∷ []) y h in by r.place r.at
  where
    by : (i : ℕ) → slice_get (x ∷ []) i ≡ Some y → x ≡ y
    by zero at = same_Some x y at
    by (suc i) at = absurd (none-some y at)

module _ (s : Side) (are : AreOfSide s) where
  pub bounds : (key : Key) → (8 ≤ listed_in s key) × (listed_in s key ≤ too_long)
  bounds key = length_within s.book s.sends s.lengths are.exact key

  -- a level with the rule's AVP is no shorter than it
  with_own : (rules : List DRule) (rule : DRule) (key : Key) → IsIn rule rules → rule.key ≡ Some key → listed_in s key ≤ with_listed (cost_of s rules) rule (listed_in s key)
  with_own rules rule key i is =
      let most = (bounds key).1 in
      let filler = least_filler (other_in s) s.others rules in
      with_more (cost_of s rules) rule (listed_in s key) most (λ some.
      let here = base_part (listed_in s) filler rules rule i in
      let own : many rule.min (option_map_or (listed_in s) rule.key filler) ≡ many rule.min (listed_in s key) = ap (λ (o : Option Key). many rule.min (option_map_or (listed_in s) o filler)) is in
      let one = one_of_many rule.min (listed_in s key) some most in
      omega (arith, here, own, one))

  -- ---- nodes

  pub entry_there : (e : ℕ) (entry : DictEntry) → slice_get s.book.entries e ≡ Some entry → slice_get (nodes_of s) e ≡ Some (entry_node s entry)
  entry_there e entry at =
      into_left (map (entry_node s) s.book.entries) (map (command_node s) s.book.commands) e (entry_node s entry) (into_map (entry_node s) s.book.entries e entry at)

  pub command_there : (i : ℕ) (command : PlainDefinition) → slice_get s.book.commands i ≡ Some command → slice_get (nodes_of s) (length s.book.entries + i) ≡ Some (command_node s command)
  command_there i command at =
      subst (λ (n : ℕ). slice_get (nodes_of s) (n + i) ≡ Some (command_node s command)) (length-map s.book.entries (entry_node s))
      (into_right (map (entry_node s) s.book.entries) (map (command_node s) s.book.commands) i (command_node s command) (into_map (command_node s) s.book.commands i command at))

  -- the node of an entry, or that of a command
  pub record EntryAt (place : ℕ) (node : PlainNode) : Type 0 where
    pub entry : DictEntry
    pub at : slice_get s.book.entries place ≡ Some entry
    pub is : entry_node s entry ≡ node

  pub record CommandAt (place : ℕ) (node : PlainNode) : Type 0 where
    pub index : ℕ
    pub command : PlainDefinition
    pub is_place : place ≡ length s.book.entries + index
    pub at : slice_get s.book.commands index ≡ Some command
    pub is : command_node s command ≡ node

  pub node_at : (place : ℕ) (node : PlainNode) → slice_get (nodes_of s) place ≡ Some node → EntryAt place node ⊎ CommandAt place node
  node_at place node at = by (at_append (map (entry_node s) s.book.entries) (map (command_node s) s.book.commands) place node at)
    where
      by : (slice_get (map (entry_node s) s.book.entries) place ≡ Some node)
          ⊎ ((j : ℕ) × (place ≡ length (map (entry_node s) s.book.entries) + j) × (slice_get (map (command_node s) s.book.commands) j ≡ Some node)) → EntryAt place node ⊎ CommandAt place node
      by (inl here) = let (entry, own, same) = at_map (entry_node s) s.book.entries place node here in inl (record { entry = entry; at = own; is = same })
      by (inr (j, is, here)) =
          let (command, own, same) = at_map (command_node s) s.book.commands j node here in
          let size = length-map s.book.entries (entry_node s) in
          inr (record { index = j; command = command; is_place = omega (arith, is, size); at = own; is = same })

  -- a level is that of a node
  pub level_node : (place : ℕ) (level : PlainLevel) → level_of (graph_in s) place ≡ Some level → (node : PlainNode) × (slice_get (nodes_of s) place ≡ Some node) × (node.level ≡ Some level)
  level_node place level is = by (slice_get (nodes_of s) place) refl is
    where
      by : (o : Option PlainNode) → slice_get (nodes_of s) place ≡ o → option_and_then (λ (node : PlainNode). node.level) o ≡ Some level
          → (node : PlainNode) × (slice_get (nodes_of s) place ≡ Some node) × (node.level ≡ Some level)
      by None at e = absurd (none-some level e)
      by (Some node) at e = (node, at, e)

  abbrev group_level : DictEntry → PlainDefinition → PlainLevel
  group_level entry group = record { least = listed_in s entry.key - shortest_head entry.key; exits = exits_of s group.rules }

  abbrev command_level : PlainDefinition → PlainLevel
  command_level command = record { least = (cost_of s command.rules).base; exits = exits_of s command.rules }

  -- the level of a group
  pub group_level_of : (entry : DictEntry) (level : PlainLevel) → (entry_node s entry).level ≡ Some level → (group : PlainDefinition) × (entry.group ≡ Some group) × (group_level entry group ≡ level)
  group_level_of entry level is = by entry.group refl is
    where
      by : (o : Option PlainDefinition) → entry.group ≡ o → option_map (group_level entry) o ≡ Some level → (group : PlainDefinition) × (entry.group ≡ Some group) × (group_level entry group ≡ level)
      by None e h = absurd (none-some level h)
      by (Some group) e h = (group, e, same_Some (group_level entry group) level h)

  -- where it leads
  pub exits_of_level : (place : ℕ) (level : PlainLevel) → level_of (graph_in s) place ≡ Some level → (rules : List DRule) × (level.exits ≡ exits_of s rules)
  exits_of_level place level is = let (node, at, own) = level_node place level is in by node own (node_at place node at)
    where
      by : (node : PlainNode) → node.level ≡ Some level → EntryAt place node ⊎ CommandAt place node → (rules : List DRule) × (level.exits ≡ exits_of s rules)
      by node own (inl x) =
          let (group, e, same) = group_level_of x.entry level (ap (λ (n : PlainNode). n.level) x.is ∙ own) in
          (group.rules, sym (ap (λ (l : PlainLevel). l.exits) same))
      by node own (inr x) =
          let same = same_Some (command_level x.command) level (ap (λ (n : PlainNode). n.level) x.is ∙ own) in
          (x.command.rules, sym (ap (λ (l : PlainLevel). l.exits) same))

  -- a group's level is shorter than its AVP
  group_less : (entry : DictEntry) (level : PlainLevel) → (entry_node s entry).level ≡ Some level → level.least < listed_in s entry.key
  group_less entry level is =
      let (group, e, same) = group_level_of entry level is in
      let own : listed_in s entry.key - shortest_head entry.key ≡ level.least = ap (λ (l : PlainLevel). l.least) same in
      let some = (bounds entry.key).0 in
      let head = head_long entry.key in
      omega (arith, own, some, head)

  -- ---- where rules lead

  pub record ExitOf (rules : List DRule) (place n : ℕ) : Type 0 where
    pub rule : DRule
    pub key : Key
    pub is_rule : IsIn rule rules
    pub is_key : rule.key ≡ Some key
    pub is_place : entry_of s.book key ≡ Some place
    pub is_length : with_listed (cost_of s rules) rule (listed_in s key) ≡ n

  exit_at : (rules : List DRule) (place n : ℕ) (rule : DRule) → IsIn rule rules → (q : Key) → rule.key ≡ Some q → (o : Option ℕ) → entry_of s.book q ≡ o
      → option_map {U = ℕ × ℕ} (λ (m : ℕ). (m, with_listed (cost_of s rules) rule (listed_in s q))) o ≡ Some (place, n) → ExitOf rules place n
  exit_at rules place n rule i q is None at e = absurd (none-some (place, n) e)
  exit_at rules place n rule i q is (Some m) at e =
      let same = same_Some (m, with_listed (cost_of s rules) rule (listed_in s q)) (place, n) e in
      record { rule = rule; key = q; is_rule = i; is_key = is; is_place = at ∙ ap (λ (p : ℕ × ℕ). Some p.0) same; is_length = ap (λ (p : ℕ × ℕ). p.1) same }

  exit_of : (rules : List DRule) (place n : ℕ) (rule : DRule) → IsIn rule rules → (o : Option Key) → rule.key ≡ o
      → option_and_then (λ (q : Key). option_map {U = ℕ × ℕ} (λ (m : ℕ). (m, with_listed (cost_of s rules) rule (listed_in s q))) (entry_of s.book q)) o ≡ Some (place, n) → ExitOf rules place n
  exit_of rules place n rule i None is e = absurd (none-some (place, n) e)
  exit_of rules place n rule i (Some q) is e = exit_at rules place n rule i q is (entry_of s.book q) refl e

  pub exit_by_rule : (rules : List DRule) (place n : ℕ) → Contains (exits_of s rules).listed (place, n) → ExitOf rules place n
  exit_by_rule rules place n inside =
      let a = at_Contains (exits_of s rules).listed (place, n) inside in
      let (j, rule, at, is) = at_filter_map (exit_by s (cost_of s rules)) rules a.place (place, n) a.at in
      exit_of rules place n rule (in_at rules j rule at) rule.key refl is

  -- ---- levels are shorter

  -- the level of a place is shorter than an AVP there that a wildcard lets in
  wild_less : (place : ℕ) (level : PlainLevel) (node : PlainNode) → slice_get (nodes_of s) place ≡ Some node → node.level ≡ Some level → level.least < node.other
  wild_less place level node at own = by (node_at place node at)
    where
      by : EntryAt place node ⊎ CommandAt place node → level.least < node.other
      by (inl x) =
          let less = group_less x.entry level (ap (λ (n : PlainNode). n.level) x.is ∙ own) in
          let more = other_more s.book s.sends s.lengths x.entry.key are.exact in
          let same : other_in s x.entry.key ≡ node.other = ap (λ (n : PlainNode). n.other) x.is in
          omega (arith, less, more, same)
      by (inr x) =
          let level_is : (cost_of s x.command.rules).base ≡ level.least =
          ap (λ (l : PlainLevel). l.least) (same_Some (command_level x.command) level (ap (λ (n : PlainNode). n.level) x.is ∙ own)) in
          let same : too_long + 1 ≡ node.other = ap (λ (n : PlainNode). n.other) x.is in
          let most = base_most (listed_in s) (least_filler (other_in s) s.others x.command.rules) x.command.rules in
          omega (arith, level_is, same, most)

  rule_less : (rules : List DRule) (place n : ℕ) (level : PlainLevel) → level_of (graph_in s) place ≡ Some level → Contains (exits_of s rules).listed (place, n) → level.least < n
  rule_less rules place n level is inside =
      let x = exit_by_rule rules place n inside in
      let h = entry_at s.book x.key place x.is_place in
      let (node, at, own) = level_node place level is in
      let same : entry_node s h.entry ≡ node = same_Some (entry_node s h.entry) node (sym (entry_there place h.entry h.at) ∙ at) in
      let less = group_less h.entry level (ap (λ (m : PlainNode). m.level) same ∙ own) in
      let key : listed_in s h.entry.key ≡ listed_in s x.key = ap (listed_in s) h.own in
      let more = with_own rules x.rule x.key x.is_rule x.is_key in
      let size = x.is_length in
      omega (arith, less, key, more, size)

  start_less : (place n : ℕ) (level : PlainLevel) → level_of (graph_in s) place ≡ Some level → Contains (start_of s).listed (place, n) → level.least < n
  start_less place n level is inside =
      let (i, lt, part) = gathered_in (start_part s) (length s.book.commands) (place, n) inside in
      let one : (length s.book.entries + i, (cost_of s (rules_in s.book (length (groups s.book) + i))).base + 1) ≡ (place, n) = one_contained _ (place, n) part in
      let (node, at, own) = level_node place level is in
      by i (ap (λ (p : ℕ × ℕ). p.0) one) (ap (λ (p : ℕ × ℕ). p.1) one) node own (node_at place node at)
    where
      by : (i : ℕ) → length s.book.entries + i ≡ place → (cost_of s (rules_in s.book (length (groups s.book) + i))).base + 1 ≡ n → (node : PlainNode) → node.level ≡ Some level
          → EntryAt place node ⊎ CommandAt place node → level.least < n
      by i is_place is_n node own (inl x) = absurd (let within = slice_get_within s.book.entries place x.entry x.at in omega (arith, within, is_place))
      by i is_place is_n node own (inr x) =
          let index : x.index ≡ i = let e = x.is_place in omega (arith, e, is_place) in
          let rules : rules_in s.book (length (groups s.book) + x.index) ≡ x.command.rules =
          ap (λ (o : Option PlainDefinition). option_map_or (λ (y : PlainDefinition). y.rules) o []) (into_right (groups s.book) s.book.commands x.index x.command x.at) in
          let base : (cost_of s (rules_in s.book (length (groups s.book) + i))).base ≡ (cost_of s x.command.rules).base =
          ap (λ (k : ℕ). (cost_of s (rules_in s.book (length (groups s.book) + k))).base) (sym index) ∙ ap (λ (rs : List DRule). (cost_of s rs).base) rules in
          let level_is : (cost_of s x.command.rules).base ≡ level.least =
          ap (λ (l : PlainLevel). l.least) (same_Some (command_level x.command) level (ap (λ (m : PlainNode). m.level) x.is ∙ own)) in
          omega (arith, base, level_is, is_n)

  pub levels_shorter : AreLevelsShorter (graph_in s)
  levels_shorter exits place n level has leads is = by leads
    where
      listed : HasExits (graph_in s) exits → Contains exits.listed (place, n) → level.least < n
      listed (inl e) inside = start_less place n level is (subst (λ (x : PlainExits). Contains x.listed (place, n)) e inside)
      listed (inr (p, outer, at_p, e)) inside =
          let (rules, leads_to) = exits_of_level p outer at_p in
          rule_less rules place n level is (subst (λ (x : PlainExits). Contains x.listed (place, n)) (e ∙ leads_to) inside)

      by : Leads (nodes_of s) exits place n → level.least < n
      by (By_rule lists) = listed has lists
      by (By_wildcard node is_node unlisted is_length) =
          let (other, at, own) = level_node place level is in
          let same : other ≡ node = same_Some other node (sym at ∙ is_node) in
          let less = wild_less place level node is_node (ap (λ (m : PlainNode). m.level) (sym same) ∙ own) in
          omega (arith, less, is_length)
