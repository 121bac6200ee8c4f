-- The levels of messages as a graph: what levels take with one more AVP, and where they lead (RFC 6733 sections 3.2, 4.1 and 4.4).
use Rattle.std.specs.Prelude.{◌≡◌, ℕ, ◌+◌, ◌-◌, ◌<◌, nat_eq, nat_le, nat_lt, ◌||◌, Bool, false, if◌then◌else◌, List, [], ◌∷◌, ◌++◌, length, map, Option, Some, option_and_then, is_some, slice_get, unwrap_or, Contains}
use Rattle.std.specs.List.{filter_map}
use Rattle.std.specs.Option.{option_eq, option_map, option_map_or}
use Rattle.dia_wire.specs.declared.Key.{Key}
use Rattle.dia_book.specs.declared.DRule.{DRule}
use Rattle.dia_book.specs.Dictionary.{Dictionary, DictEntry, PlainDefinition, entry_of, groups}
use Rattle.dia_terms.specs.declared.Sends.{Sends}
use Rattle.dia_valid.specs.Rules.{rules_in, wildcard_of}
use Rattle.dia_breaking_levels.specs.LevelTests.{too_long, capped, least_filler, least_length}
use Rattle.dia_breaking_shortest.specs.Floors.{shortest_head}
use Rattle.dia_breaking_shortest.specs.Lengths.{length_of}
use Rattle.dia_breaking_ways.specs.Walks.{Graph, IsWalk, PlainExits, PlainNode}
use Rattle.dia_breaking_ways.specs.declared.graph.Reach.{Reach}
use Rattle.dia_breaking_ways.specs.declared.graph.Step.{Step}
use Rattle.dia_lint.specs.declared.costs.Lengths.{Lengths}
use Rattle.dia_lint.specs.declared.levels.LevelCost.{LevelCost}
use Rattle.dia_lint.specs.declared.reached.Reached.{Reached}
use Rattle.dia_lint.specs.Costs.{AreLengths, other_length}
use Rattle.dia_lint.specs.Gathered.{gathered}

-- ---- what a side sends

-- by a dictionary: the lengths of its shortest AVPs, by their entries, and the keys that a wildcard lets in
pub record Side : Type 0 where
  pub book : Dictionary
  pub sends : Sends
  pub lengths : List ℕ
  pub others : List Key

abbrev pub side : Dictionary → Sends → List ℕ → List Key → Side
side d sends lengths others = record { book = d; sends = sends; lengths = lengths; others = others }

abbrev pub AreOfSide : Side → Type 0
AreOfSide s = AreLengths s.book s.sends s.lengths s.others

abbrev pub listed_in : Side → Key → ℕ
listed_in s = length_of s.book s.sends s.lengths

abbrev pub other_in : Side → Key → ℕ
other_in s = other_length s.book s.sends s.lengths

abbrev pub side_of : {B : Type 0} → (B → Dictionary) → Lengths B → Side
side_of meaning lengths = side (meaning lengths.book.now) lengths.least.sends lengths.least.lengths.items lengths.others.items

-- ---- what levels take

-- with an AVP of the rule's key, which is this long
abbrev pub with_listed : LevelCost → DRule → ℕ → ℕ
with_listed cost rule length = if option_eq nat_eq rule.max (Some 0) || nat_le too_long length then too_long else if nat_lt 0 rule.min then cost.base else capped (cost.base + length)

-- with an AVP that comes through the wildcard, and is this long
abbrev pub with_other : LevelCost → ℕ → ℕ
with_other cost length = capped (cost.beside + length)

-- with an AVP of the rule
abbrev pub with_rule : LevelCost → DRule → ℕ → ℕ
with_rule cost rule length = option_map_or (λ key. with_listed cost rule length) rule.key (with_other cost cost.filler)

-- what a least level takes besides an AVP by this wildcard, where the least by it has the length `filler`
abbrev pub beside_of : ℕ → ℕ → DRule → ℕ
beside_of base filler wild = if option_eq nat_eq wild.max (Some 0) || nat_le too_long base then too_long else if nat_lt 0 wild.min then base - filler else base

abbrev pub cost_from : ℕ → ℕ → List DRule → LevelCost
cost_from base filler rules = record { base = base; filler = filler; beside = option_map_or (beside_of base filler) (wildcard_of rules) too_long }

abbrev pub cost_of : Side → List DRule → LevelCost
cost_of s rules = cost_from (least_length (listed_in s) (other_in s) s.others rules) (least_filler (other_in s) s.others rules) rules

-- ---- where levels lead

-- the place of the rule's AVP, and the length of a least level that has one
abbrev pub exit_by : Side → LevelCost → DRule → Option (ℕ × ℕ)
exit_by s cost rule = option_and_then (λ key. option_map (λ e. (e, with_listed cost rule (listed_in s key))) (entry_of s.book key)) rule.key

abbrev pub exits_of : Side → List DRule → PlainExits
exits_of s rules = record { listed = filter_map (exit_by s (cost_of s rules)) rules; beside = (cost_of s rules).beside }

abbrev pub entry_node : Side → DictEntry → PlainNode
entry_node s entry = record {
  other = other_in s entry.key;
  level = option_map (λ (group : PlainDefinition). record { least = listed_in s entry.key - shortest_head entry.key; exits = exits_of s group.rules }) entry.group;
}

-- a command as an AVP that only the start lists. Its level is that of the messages
abbrev pub command_node : Side → PlainDefinition → PlainNode
command_node s command = record { other = too_long + 1; level = Some (record { least = (cost_of s command.rules).base; exits = exits_of s command.rules }) }

-- the entries, and then the commands
abbrev pub nodes_of : Side → List PlainNode
nodes_of s = map (entry_node s) s.book.entries ++ map (command_node s) s.book.commands

-- the choice of a command: one byte around the message
abbrev pub start_part : Side → ℕ → List (ℕ × ℕ)
start_part s i = (length s.book.entries + i, (cost_of s (rules_in s.book (length (groups s.book) + i))).base + 1) ∷ []

abbrev pub start_of : Side → PlainExits
start_of s = record { listed = gathered (start_part s) (length s.book.commands); beside = too_long + 1 }

abbrev pub graph_in : Side → Graph
graph_in s = record { nodes = nodes_of s; start = start_of s; room = too_long }

-- ---- what messages have, by a walk

abbrev pub has_in : Reached → ℕ → Bool
has_in r e = unwrap_or (slice_get r.avps.items e) false

abbrev pub way_in : Reached → ℕ → Option ℕ
way_in r place = option_and_then (λ way. way) (slice_get r.ways.items place)

-- what is reached of the first AVPs
pub record AreAvpsReached (reached : List (Option Reach)) (n : ℕ) (avps : List Bool) : Type 0 where
  pub size : length avps ≡ n
  pub each : (e : ℕ) → e < n → slice_get avps e ≡ Some (is_some (option_and_then (λ way. way) (slice_get reached e)))

-- the ways of levels are those of steps
abbrev pub AreWays : List Step → List (Option ℕ) → Type 0
AreWays steps ways = (place way : ℕ) → slice_get ways place ≡ Some (Some way) → (step : Step) × Contains steps step × (step.place ≡ place) × (step.way ≡ way)

-- and each step to one of the first places has one
abbrev pub HaveWays : ℕ → List Step → List (Option ℕ) → Type 0
HaveWays nodes steps ways = (step : Step) → Contains steps step → step.place < nodes → (way : ℕ) × (slice_get ways step.place ≡ Some (Some way))

-- no place of so many has one
abbrev pub AreNoWays : ℕ → List (Option ℕ) → Type 0
AreNoWays nodes ways = (length ways ≡ nodes) × ((place way : ℕ) → ¬ (slice_get ways place ≡ Some (Some way)))

-- a walk reaches these AVPs, and its steps have these ways
pub record AreReachedBy (entries : ℕ) (steps : List Step) (reached : List (Option Reach)) (r : Reached) : Type 0 where
  pub avps : AreAvpsReached reached entries r.avps.items
  pub ways : AreWays steps r.ways.items
  pub each : HaveWays (length reached) steps r.ways.items

pub record IsReached (s : Side) (r : Reached) : Type 0 where
  pub steps : List Step
  pub reached : List (Option Reach)
  pub walk : IsWalk (graph_in s) steps reached
  pub by_walk : AreReachedBy (length s.book.entries) steps reached r
