-- Graphs and what walks find in them, as they are made.
use Rattle.std.proofs.Common.{◌≡◌, ◌≢◌, ℕ, zero, suc, ◌+◌, ◌-◌, ◌<◌, ◌≤◌, Bool, List, [], ◌∷◌, ◌++◌, length, map, take, Option, Some, None, refl, sym, ap, subst, ◌∙◌, arith, inl, inr, append_assoc}
use Rattle.std.specs.Prelude.{◌⊎◌, IfSome, is_some, option_and_then, option_to_list, slice_get, slice_set, Contains}
use Rattle.std.specs.List.{filter_map}
use Rattle.std.specs.Option.{option_map, option_map_or}
use Rattle.std.proofs.lemmas.Bool.{cases_eq, cases_lt}
use Rattle.std.proofs.Math.ListN.{set}
use Rattle.std.proofs.lemmas.List.{length-append, length-set, map-append}
use Rattle.std.proofs.lemmas.List.Elements.{Contains-append_cases, filter_map-append}
use Rattle.std.proofs.lemmas.Option.{none-some, same_Some}
use Rattle.dia_wire.specs.declared.Key.{Key}
use Rattle.dia_book.specs.declared.DRule.{DRule}
use Rattle.dia_book.specs.Dictionary.{Dictionary, DictEntry, PlainDefinition, definitions, group_place, groups}
use Rattle.dia_book.proofs.Members.{at_append, into_left, into_right}
use Rattle.dia_valid.specs.Rules.{rules_in, wildcard_of}
use Rattle.dia_valid.proofs.GroupNumbers.{group_number, group_there, number_of}
use Rattle.dia_valid.proofs.Members.{at_some, contains_in, in_at, taken, there_is, when_some}
use Rattle.dia_breaking_levels.specs.LevelTests.{too_long, least_filler, least_length}
use Rattle.dia_breaking_shortest.specs.Floors.{shortest_head}
use Rattle.dia_breaking_ways.specs.Walks.{Graph, PlainExits, PlainNode, graph_of, plain_exits, plain_node}
use Rattle.dia_breaking_ways.specs.declared.graph.Exits.{Exits}
use Rattle.dia_breaking_ways.specs.declared.graph.Node.{Node}
use Rattle.dia_breaking_ways.specs.declared.graph.Reach.{Reach}
use Rattle.dia_breaking_ways.specs.declared.graph.Step.{Step}
use Rattle.dia_breaking_ways.proofs.BestWays.{get_set_other, get_set_same}
use Rattle.dia_lint.specs.declared.levels.LevelCost.{LevelCost}
use Rattle.dia_terms.specs.declared.Sends.{Sends}
use Rattle.dia_lint.specs.Costs.{AreLengths}
use Rattle.dia_lint.specs.Gathered.{gathered}
use Rattle.dia_lint.specs.Ways.{Side, AreAvpsReached, AreNoWays, AreOfSide, AreWays, HaveWays, beside_of, command_node, cost_from, cost_of, entry_node, exits_of, graph_in, listed_in, nodes_of, other_in, start_of, start_part}
use Rattle.dia_lint.proofs.Added.{one_part_more}
use Rattle.dia_lint.proofs.WayGraphs.{one_contained}

-- ---- costs

pub cost_found : (s : Side) (rules : List DRule) (base filler beside : ℕ) (o : Option DRule) → base ≡ least_length (listed_in s) (other_in s) s.others rules
    → filler ≡ least_filler (other_in s) s.others rules → o ≡ wildcard_of rules → beside ≡ option_map_or (beside_of base filler) o too_long
    → record { base = base; filler = filler; beside = beside } ≡ cost_of s rules
cost_found s rules base filler beside o is_base is_filler is_wild is_beside =
    let first : LevelCost → LevelCost = λ c. c in
    ap (λ (n : ℕ). first (record { base = base; filler = filler; beside = n })) (is_beside ∙ ap (λ (w : Option DRule). option_map_or (beside_of base filler) w too_long) is_wild)
    ∙ ap (λ (n : ℕ). cost_from base n rules) is_filler ∙ ap (λ (n : ℕ). cost_from n (least_filler (other_in s) s.others rules) rules) is_base

-- ---- one more

one_option : {X Y : Type 0} (f : X → Option Y) (x : X) (o : Option Y) → f x ≡ o → option_to_list o ≡ filter_map f (x ∷ [])
one_option f x None is = sym (ap (λ (o : Option _). filter_map (λ _. o) (x ∷ [])) is)
one_option f x (Some y) is = sym (ap (λ (o : Option _). filter_map (λ _. o) (x ∷ [])) is)

-- one rule more
pub one_exit_more : {X Y : Type 0} (f : X → Option Y) (xs : List X) (i : ℕ) (x : X) (exit : Option Y) (old new : List Y) → new ≡ old ++ option_to_list exit → exit ≡ f x
    → old ≡ filter_map f (take i xs) → slice_get xs i ≡ Some x → new ≡ filter_map f (take (i + 1) xs)
one_exit_more {X} {Y} f xs i x exit old new is from before at =
    is ∙ ap (λ (ys : List Y). old ++ ys) (one_option f x exit (sym from)) ∙ ap (λ (ys : List Y). ys ++ filter_map f (x ∷ [])) before
    ∙ sym (ap (filter_map f) (taken xs i x at) ∙ filter_map-append f (take i xs) (x ∷ []))

-- one node more
pub one_node_more : {X Y N : Type 0} (f : N → Y) (g : X → Y) (xs : List X) (i : ℕ) (n : N) (start : List Y) (old new : List N) → i < length xs → new ≡ old ++ n ∷ []
    → IfSome (slice_get xs i) (λ x. f n ≡ g x)
    → map f old ≡ start ++ map g (take i xs) → map f new ≡ start ++ map g (take (i + 1) xs)
one_node_more {X} {Y} {N} f g xs i n start old new within is own before =
    let (x, at) = there_is xs i within in
    let same = at_some (λ (y : X). f n ≡ g y) (slice_get xs i) x own at in
    ap (map f) is ∙ map-append f old (n ∷ []) ∙ ap (λ (ys : List Y). ys ++ f n ∷ []) before ∙ ap (λ (y : Y). (start ++ map g (take i xs)) ++ y ∷ []) same
    ∙ append_assoc start (map g (take i xs)) (g x ∷ [])
    ∙ ap (λ (ys : List Y). start ++ ys) (sym (ap (map g) (taken xs i x at) ∙ map-append g (take i xs) (x ∷ [])))

-- ---- nodes

pub rules_at : (d : Dictionary) (n : ℕ) (x : PlainDefinition) → slice_get (definitions d) n ≡ Some x → rules_in d n ≡ x.rules
rules_at d n x at = ap (λ (o : Option PlainDefinition). option_map_or (λ (y : PlainDefinition). y.rules) o []) at

module _ (s : Side) where
  abbrev leaf_node : ℕ → PlainNode
  leaf_node other = record { other = other; level = None }

  abbrev level_node : ℕ → ℕ → PlainExits → PlainNode
  level_node other least exits = record { other = other; level = Some (record { least = least; exits = exits }) }

  pub leaf_found : (e : ℕ) (key : Key) (other : ℕ) (o : Option ℕ) → e < length s.book.entries → IfSome (slice_get s.book.entries e) (λ x. key ≡ x.key) → other ≡ other_in s key
      → o ≡ group_place s.book e
      → o ≡ None → IfSome (slice_get s.book.entries e) (λ x. leaf_node other ≡ entry_node s x)
  leaf_found e key other o within own is_other number none = when_some _ (slice_get s.book.entries e) (λ x at. by x at x.group refl)
    where
      by : (x : DictEntry) → slice_get s.book.entries e ≡ Some x → (g : Option PlainDefinition) → x.group ≡ g → leaf_node other ≡ entry_node s x
      by x at None is =
          let key_is = at_some (λ (y : DictEntry). key ≡ y.key) (slice_get s.book.entries e) x own at in
          let Of : Option PlainDefinition → PlainNode =
          λ g. record { other = other_in s x.key; level = option_map (λ (group : PlainDefinition). record { least = listed_in s x.key - shortest_head x.key; exits = exits_of s group.rules }) g } in
          ap leaf_node (is_other ∙ ap (other_in s) key_is) ∙ sym (ap Of is)
      by x at (Some g) is =
          let there = group_there s.book e x g at is in
          absurd (none-some (number_of s.book e) (sym none ∙ number ∙ there.0))

  pub level_found : (e def : ℕ) (key : Key) (other least head : ℕ) (o : Option ℕ) (exits : PlainExits) → IfSome (slice_get s.book.entries e) (λ x. key ≡ x.key) → other ≡ other_in s key
      → o ≡ group_place s.book e → o ≡ Some def → least ≡ listed_in s key - head → head ≡ shortest_head key → exits ≡ exits_of s (rules_in s.book def)
      → IfSome (slice_get s.book.entries e) (λ x. level_node other least exits ≡ entry_node s x)
  level_found e def key other least head o exits own is_other number some is_least is_head is_exits = when_some _ (slice_get s.book.entries e) (λ x at. by x at)
    where
      by : (x : DictEntry) → slice_get s.book.entries e ≡ Some x → level_node other least exits ≡ entry_node s x
      by x at =
          let (g, is_group, is_def) = group_number s.book e def x at (sym number ∙ some) in
          let key_is = at_some (λ (y : DictEntry). key ≡ y.key) (slice_get s.book.entries e) x own at in
          let Of : Option PlainDefinition → PlainNode =
          λ h. record { other = other_in s x.key; level = option_map (λ (group : PlainDefinition). record { least = listed_in s x.key - shortest_head x.key; exits = exits_of s group.rules }) h } in
          ap (λ (n : ℕ). level_node n least exits) (is_other ∙ ap (other_in s) key_is)
          ∙ ap (λ (n : ℕ). level_node (other_in s x.key) n exits) (is_least ∙ ap (λ (n : ℕ). listed_in s key - n) is_head ∙ ap (λ (k : Key). listed_in s k - shortest_head k) key_is)
          ∙ ap (λ (out : PlainExits). level_node (other_in s x.key) (listed_in s x.key - shortest_head x.key) out) (is_exits ∙ ap (exits_of s) (rules_at s.book def g is_def))
          ∙ sym (ap Of is_group)

  pub command_found : (def : ℕ) (least : ℕ) (exits : PlainExits) → least ≡ (cost_of s (rules_in s.book def)).base → exits ≡ exits_of s (rules_in s.book def)
      → IfSome (slice_get (definitions s.book) def) (λ x. level_node (too_long + 1) least exits ≡ command_node s x)
  command_found def least exits is_least is_exits = when_some _ (slice_get (definitions s.book) def) (λ x at.
      ap (λ (n : ℕ). level_node (too_long + 1) n exits) (is_least ∙ ap (λ (rs : List DRule). (cost_of s rs).base) (rules_at s.book def x at))
      ∙ ap (λ (out : PlainExits). level_node (too_long + 1) (cost_of s x.rules).base out) (is_exits ∙ ap (exits_of s) (rules_at s.book def x at)))

  -- the node of a command by its place among the commands
  pub command_at_place : (i def : ℕ) (node : PlainNode) → def ≡ length (groups s.book) + i → i < length s.book.commands → IfSome (slice_get (definitions s.book) def) (λ x. node ≡ command_node s x)
      → IfSome (slice_get s.book.commands i) (λ x. node ≡ command_node s x)
  command_at_place i def node number within own = when_some _ (slice_get s.book.commands i) (λ x at.
      at_some (λ (y : PlainDefinition). node ≡ command_node s y) (slice_get (definitions s.book) def) x own
      (ap (slice_get (definitions s.book)) number ∙ into_right (groups s.book) s.book.commands i x at))

-- the choice of one command more
pub one_start_more : (s : Side) (i entries base def : ℕ) (old new : List (ℕ × ℕ)) → old ≡ gathered (start_part s) i → new ≡ old ++ (entries + i, base + 1) ∷ []
    → entries ≡ length s.book.entries → base ≡ (cost_of s (rules_in s.book def)).base → def ≡ length (groups s.book) + i → new ≡ gathered (start_part s) (i + 1)
one_start_more s i entries base def old new before is is_entries is_base number =
    let At : ℕ → ℕ → List (ℕ × ℕ) = λ a b. (a + i, b + 1) ∷ [] in
    is ∙ ap (λ (xs : List (ℕ × ℕ)). xs ++ At entries base) before ∙ ap (λ (n : ℕ). gathered (start_part s) i ++ At n base) is_entries
    ∙ ap (λ (n : ℕ). gathered (start_part s) i ++ At (length s.book.entries) n) (is_base ∙ ap (λ (n : ℕ). (cost_of s (rules_in s.book n)).base) number)
    ∙ one_part_more (start_part s) i

-- ---- what is reached

abbrev is_reached : List (Option Reach) → ℕ → Bool
is_reached reached e = is_some (option_and_then (λ (way : Option Reach). way) (slice_get reached e))

pub none_reached_yet : (reached : List (Option Reach)) (avps : List Bool) → avps ≡ [] → AreAvpsReached reached 0 avps
none_reached_yet reached avps is = record { size = ap length is; each = λ e lt. absurd (omega (arith, lt)) }

pub one_reached_more : (reached : List (Option Reach)) (n : ℕ) (b : Bool) (old new : List Bool) → AreAvpsReached reached n old → new ≡ old ++ b ∷ [] → b ≡ is_reached reached n
    → AreAvpsReached reached (n + 1) new
one_reached_more reached n b old new are is own = subst (AreAvpsReached reached (n + 1)) (sym is) (record {
  size = let size = are.size in omega (arith, length-append old (b ∷ []), size);
  each = λ e lt. by e lt (cases_lt e n);
})
  where
    by : (e : ℕ) → e < n + 1 → (e < n) ⊎ (n ≤ e) → slice_get (old ++ b ∷ []) e ≡ Some (is_reached reached e)
    by e lt (inl less) = into_left old (b ∷ []) e (is_reached reached e) (are.each e less)
    by e lt (inr le) =
        let same : length old + 0 ≡ e = let size = are.size in omega (arith, size, le, lt) in
        let at : n ≡ e = omega (arith, le, lt) in
        subst (λ (k : ℕ). slice_get (old ++ b ∷ []) k ≡ Some (is_reached reached e)) same
        (subst (λ (c : Bool). slice_get (old ++ b ∷ []) (length old + 0) ≡ Some c) (own ∙ ap (is_reached reached) at) (into_right old (b ∷ []) 0 b refl))

-- no way yet
pub none_yet : (ways : List (Option ℕ)) → ways ≡ [] → AreNoWays 0 ways
none_yet ways is = (ap length is, λ place way at. none-some (Some way) (sym (ap (λ (xs : List (Option ℕ)). slice_get xs place) is) ∙ at))

pub no_way_more : (n : ℕ) (old new : List (Option ℕ)) → AreNoWays n old → new ≡ old ++ None ∷ [] → AreNoWays (n + 1) new
no_way_more n old new (size, none) is = (ap length is ∙ omega (arith, length-append old (None ∷ []), size), λ place way at. by place way (at_append old (None ∷ []) place (Some way) (ap (λ (xs : List (Option ℕ)). slice_get xs place) (sym is) ∙ at)))
  where
    last : (way j : ℕ) → slice_get (None ∷ []) j ≡ Some (Some way) → ⊥
    last way zero e = none-some way (same_Some None (Some way) e)
    last way (suc j) e = none-some (Some way) e

    by : (place way : ℕ) → (slice_get old place ≡ Some (Some way)) ⊎ ((j : ℕ) × (place ≡ length old + j) × (slice_get (None ∷ []) j ≡ Some (Some way))) → ⊥
    by place way (inl here) = none place way here
    by place way (inr (j, e, here)) = last way j here

-- the way of one step more
pub one_way_more : (steps : List Step) (step : Step) (old new : List (Option ℕ)) (place : ℕ) → AreWays steps old → Contains steps step → place ≡ step.place → place < length old
    → new ≡ slice_set old place (Some step.way)
    → AreWays steps new
one_way_more steps step old new place are has is_place within is = λ p way at. by p way (ap (λ (xs : List (Option ℕ)). slice_get xs p) (sym is) ∙ at) (cases_eq p place)
  where
    by : (p way : ℕ) → slice_get (set old place (Some step.way)) p ≡ Some (Some way) → (p ≡ place) ⊎ (p ≢ place) → (st : Step) × Contains steps st × (st.place ≡ p) × (st.way ≡ way)
    by p way at (inl same) =
        let here : slice_get (set old place (Some step.way)) p ≡ Some (Some step.way) =
        ap (slice_get (set old place (Some step.way))) same ∙ get_set_same old place (Some step.way) within in
        (step, has, sym is_place ∙ sym same, same_Some step.way way (same_Some (Some step.way) (Some way) (sym here ∙ at)))
    by p way at (inr other) = are p way (sym (get_set_other old place p (Some step.way) other) ∙ at)

-- of so many places, the steps that were gone through have theirs
pub record AreWaysOf (nodes : ℕ) (steps : List Step) (i : ℕ) (ways : List (Option ℕ)) : Type 0 where
  pub size : length ways ≡ nodes
  pub from : AreWays steps ways
  pub each : HaveWays nodes (take i steps) ways

-- one step more
with_step : (nodes : ℕ) (steps : List Step) (i : ℕ) (step : Step) (old new : List (Option ℕ)) → AreWaysOf nodes steps i old → slice_get steps i ≡ Some step → length new ≡ nodes → AreWays steps new
    → ((s : Step) (way : ℕ) → slice_get old s.place ≡ Some (Some way) → (w : ℕ) × (slice_get new s.place ≡ Some (Some w)))
    → (step.place < nodes → (w : ℕ) × (slice_get new step.place ≡ Some (Some w))) → AreWaysOf nodes steps (i + 1) new
with_step nodes steps i step old new are at size from keeps takes = record {
  size = size;
  from = from;
  each = λ s has within. by s within (Contains-append_cases (take i steps) (step ∷ []) s (subst (λ (xs : List Step). Contains xs s) (taken steps i step at) has));
}
  where
    by : (s : Step) → s.place < nodes → Contains (take i steps) s ⊎ Contains (step ∷ []) s → (w : ℕ) × (slice_get new s.place ≡ Some (Some w))
    by s within (inl before) = let own = are.each s before within in keeps s own.0 own.1
    by s within (inr here) =
        let same : step ≡ s = one_contained step s here in
        subst (λ (t : Step). t.place < nodes → (w : ℕ) × (slice_get new t.place ≡ Some (Some w))) same takes within

pub one_step_more : (nodes : ℕ) (steps : List Step) (i : ℕ) (step : Step) (old new : List (Option ℕ)) (place : ℕ) → AreWaysOf nodes steps i old → slice_get steps i ≡ Some step → place ≡ step.place
    → place < length old → new ≡ slice_set old place (Some step.way) → AreWaysOf nodes steps (i + 1) new
one_step_more nodes steps i step old new place are at is_place within is =
    let size = are.size in
    with_step nodes steps i step old new are at (ap length is ∙ length-set old place (Some step.way) ∙ size)
    (one_way_more steps step old new place are.from (contains_in steps step (in_at steps i step at)) is_place within is)
    (λ s way there. by s way there (cases_eq s.place place)) (λ less. (step.way, here step.place is_place))
  where
    here : (p : ℕ) → place ≡ p → slice_get new p ≡ Some (Some step.way)
    here p same = ap (λ (xs : List (Option ℕ)). slice_get xs p) is ∙ ap (slice_get (set old place (Some step.way))) (sym same) ∙ get_set_same old place (Some step.way) within

    by : (s : Step) (way : ℕ) → slice_get old s.place ≡ Some (Some way) → (s.place ≡ place) ⊎ (s.place ≢ place) → (w : ℕ) × (slice_get new s.place ≡ Some (Some w))
    by s way there (inl same) = (step.way, here s.place (sym same))
    by s way there (inr other) = (way, ap (λ (xs : List (Option ℕ)). slice_get xs s.place) is ∙ get_set_other old place s.place (Some step.way) other ∙ there)

-- a step to another place
pub no_step_more : (nodes : ℕ) (steps : List Step) (i : ℕ) (step : Step) (ways : List (Option ℕ)) → AreWaysOf nodes steps i ways → slice_get steps i ≡ Some step → length ways ≤ step.place
    → AreWaysOf nodes steps (i + 1) ways
no_step_more nodes steps i step ways are at beyond =
    with_step nodes steps i step ways ways are at are.size are.from (λ s way there. (way, there)) (λ less. absurd (let size = are.size in omega (arith, less, size, beyond)))

-- ---- the graph

pub graph_is : (s : Side) (nodes : List Node) (start : Exits) → map plain_node nodes ≡ nodes_of s → plain_exits start ≡ start_of s → graph_of nodes start too_long ≡ graph_in s
graph_is s nodes start are is =
    let Of : List PlainNode → PlainExits → Graph = λ ns out. record { nodes = ns; start = out; room = too_long } in
    ap (λ (ns : List PlainNode). Of ns (plain_exits start)) are ∙ ap (λ (out : PlainExits). Of (nodes_of s) out) is

-- what a side's lengths are, whatever they were found by
pub of_side : (s : Side) (d : Dictionary) (sends : Sends) → AreLengths d sends s.lengths s.others → s.book ≡ d → s.sends ≡ sends → AreOfSide s
of_side s d sends are book is =
    subst (λ (b : Dictionary). AreLengths b s.sends s.lengths s.others) (sym book) (subst (λ (w : Sends). AreLengths d w s.lengths s.others) (sym is) are)
