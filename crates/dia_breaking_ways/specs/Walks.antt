-- The shortest ways to the levels of messages, and to the AVPs in them.
use Rattle.std.specs.Prelude.{◌⊎◌, ◌≡◌, ℕ, zero, suc, ◌+◌, ◌-◌, ◌<◌, ◌≤◌, Bool, true, false, ◌||◌, List, length, map, Option, Some, None, option_map, option_and_then, slice_get, Contains}
use Rattle.dia_breaking_ways.specs.declared.graph.Exits.{Exits}
use Rattle.dia_breaking_ways.specs.declared.graph.Level.{Level}
use Rattle.dia_breaking_ways.specs.declared.graph.Node.{Node}
use Rattle.dia_breaking_ways.specs.declared.graph.Step.{Step}
use Rattle.dia_breaking_ways.specs.declared.graph.Reach.{Reach}

-- ---- graphs

-- where a level leads: the places that a rule lists, each with the length of a least level that has one, and what a least level
-- takes besides an AVP through the wildcard
pub record PlainExits : Type 0 where
  pub listed : List (ℕ × ℕ)
  pub beside : ℕ

-- a level of a group
pub record PlainLevel : Type 0 where
  pub least : ℕ
  pub exits : PlainExits

-- an AVP: its length by a wildcard, and its level
pub record PlainNode : Type 0 where
  pub other : ℕ
  pub level : Option PlainLevel

-- the AVPs, where the command's level leads, and how long messages may be
pub record Graph : Type 0 where
  pub nodes : List PlainNode
  pub start : PlainExits
  pub room : ℕ

abbrev pub plain_exits : Exits → PlainExits
plain_exits exits = record { listed = exits.listed.items; beside = exits.beside }

abbrev pub plain_level : Level → PlainLevel
plain_level level = record { least = level.least; exits = plain_exits level.exits }

abbrev pub plain_node : Node → PlainNode
plain_node node = record { other = node.other; level = option_map plain_level node.level }

abbrev pub graph_of : List Node → Exits → ℕ → Graph
graph_of nodes start room = record { nodes = map plain_node nodes; start = plain_exits start; room = room }

-- the level of the AVP at a place
abbrev pub level_of : Graph → ℕ → Option PlainLevel
level_of graph place = option_and_then (λ (node : PlainNode). node.level) (slice_get graph.nodes place)

-- ---- levels in messages

-- a level in a message: what the message takes at least around it, whether an AVP around it comes through a wildcard, and where it
-- leads
pub record Stage : Type 0 where
  pub way : ℕ
  pub wild : Bool
  pub exits : PlainExits

-- the level of a step's AVP
abbrev pub stage_by : Step → PlainLevel → Stage
stage_by step level = record { way = step.way; wild = step.wild; exits = level.exits }

abbrev pub stage_of : Graph → Step → Option Stage
stage_of graph step = option_map (stage_by step) (level_of graph step.place)

-- the level with a number: the start, or that of a step
abbrev pub stage_at : Graph → List Step → ℕ → Option Stage
stage_at graph steps zero = Some (record { way = 0; wild = false; exits = graph.start })
stage_at graph steps (suc i) = option_and_then (stage_of graph) (slice_get steps i)

-- ---- ways to AVPs

-- no rule lists the place
abbrev pub IsUnlisted : List (ℕ × ℕ) → ℕ → Type 0
IsUnlisted listed place = (length : ℕ) → ¬ Contains listed (place, length)

-- a least level with one AVP of the place has a length: a rule lists it, or the wildcard lets it in
pub data Leads (nodes : List PlainNode) (exits : PlainExits) (place : ℕ) (length : ℕ) : Type 0 where
  By_rule : (lists : Contains exits.listed (place, length)) → Leads nodes exits place length
  By_wildcard : (node : PlainNode) (is_node : slice_get nodes place ≡ Some node) (unlisted : IsUnlisted exits.listed place) (is_length : length ≡ exits.beside + node.other)
      → Leads nodes exits place length

abbrev pub is_by_wildcard : {nodes : List PlainNode} {exits : PlainExits} {place length : ℕ} → Leads nodes exits place length → Bool
is_by_wildcard (By_rule lists) = false
is_by_wildcard (By_wildcard node is_node unlisted is_length) = true

-- where the start leads, or a level of the graph
abbrev pub HasExits : Graph → PlainExits → Type 0
HasExits graph exits = (exits ≡ graph.start) ⊎ ((place : ℕ) × (level : PlainLevel) × (level_of graph place ≡ Some level) × (exits ≡ level.exits))

-- a level with an AVP is longer than the level in the AVP
abbrev pub AreLevelsShorter : Graph → Type 0
AreLevelsShorter graph = (exits : PlainExits) (place length : ℕ) (level : PlainLevel) → HasExits graph exits → Leads graph.nodes exits place length → level_of graph place ≡ Some level
    → level.least < length

-- the level with a number holds an AVP of the place, in a message of a length; it, or an AVP around it, comes through a wildcard or not
pub record IsReached (graph : Graph) (steps : List Step) (place number total : ℕ) (wild : Bool) : Type 0 where
  pub stage : Stage
  pub inner : ℕ
  pub is_stage : stage_at graph steps number ≡ Some stage
  pub leads : Leads graph.nodes stage.exits place inner
  pub is_total : total ≡ stage.way + inner
  pub is_wild : wild ≡ (is_by_wildcard leads || stage.wild)
  pub has_room : total ≤ graph.room

-- the one way is by rules alone, the other goes through a wildcard
abbrev pub IsPlainer : Bool → Bool → Type 0
IsPlainer wild other = (wild ≡ false) × (other ≡ true)

-- shorter; of one length by rules alone, where the other goes through a wildcard; or else in no later level
abbrev pub IsNoLater : Reach → ℕ → ℕ → Bool → Type 0
IsNoLater reach number total wild = (reach.length < total) ⊎ ((reach.length ≡ total) × (IsPlainer reach.wild wild ⊎ ((reach.wild ≡ wild) × (reach.level ≤ number))))

-- nothing reaches the place, or this is the shortest way to it: of these one by rules alone, if there is one, and then the one in
-- the first level
abbrev pub IsShortest : Graph → List Step → ℕ → Option Reach → Type 0
IsShortest graph steps place None = (number total : ℕ) (wild : Bool) → ¬ IsReached graph steps place number total wild
IsShortest graph steps place (Some reach) =
    IsReached graph steps place reach.level reach.length reach.wild × ((number total : ℕ) (wild : Bool) → IsReached graph steps place number total wild → IsNoLater reach number total wild)

-- ---- steps

-- a step to the level of the AVP at a place, by the shortest way to it
abbrev pub step_to : ℕ → PlainLevel → Reach → Step
step_to place level reach = record { place = place; way = reach.length - level.least; wild = reach.wild; outer = reach.level }

-- a step is the one to its AVP's level
pub record IsStep (graph : Graph) (reached : List (Option Reach)) (step : Step) : Type 0 where
  pub level : PlainLevel
  pub reach : Reach
  pub is_level : level_of graph step.place ≡ Some level
  pub is_reach : slice_get reached step.place ≡ Some (Some reach)
  pub is_step : step ≡ step_to step.place level reach

-- the shorter way first, and of one length the lesser place
abbrev pub IsBefore : Step → Step → Type 0
IsBefore s t = (s.way < t.way) ⊎ ((s.way ≡ t.way) × (s.place < t.place))

-- the steps to all levels that are reached, in order, and the shortest way to each AVP
pub record IsWalk (graph : Graph) (steps : List Step) (reached : List (Option Reach)) : Type 0 where
  pub each : length reached ≡ length graph.nodes
  pub shortest : (place : ℕ) (way : Option Reach) → slice_get reached place ≡ Some way → IsShortest graph steps place way
  pub to_reached : (i : ℕ) (step : Step) → slice_get steps i ≡ Some step → IsStep graph reached step
  pub to_all : (place : ℕ) (level : PlainLevel) (reach : Reach) → level_of graph place ≡ Some level → slice_get reached place ≡ Some (Some reach) → Contains steps (step_to place level reach)
  pub ordered : (i j : ℕ) (s t : Step) → i < j → slice_get steps i ≡ Some s → slice_get steps j ≡ Some t → IsBefore s t
  pub outer_first : (i : ℕ) (step : Step) → slice_get steps i ≡ Some step → step.outer ≤ i
