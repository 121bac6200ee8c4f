-- The definitions of a dictionary as the nodes of a walk.
use Rattle.std.specs.Prelude.{ℕ, zero, suc, ◌+◌, List, [], ◌∷◌, ◌++◌, length, map, Some, filter_map, option_map}
use Rattle.dia_book.specs.declared.definition.DRule.{DRule}
use Rattle.dia_book.specs.Limits.{max_parts}
use Rattle.dia_book.specs.Dictionary.{Dictionary, PlainDefinition, definitions, groups}
use Rattle.dia_breaking_ways.specs.Walks.{Graph, PlainExits, PlainLevel, PlainNode}
use Rattle.dia_places.specs.Paths.{group_by}

-- a step of one definition
abbrev pub one_step : ℕ → ℕ × ℕ
one_step n = (n, 1)

-- the groups that rules allow
abbrev pub listed_by : Dictionary → List DRule → List (ℕ × ℕ)
listed_by d rules = filter_map (λ (rule : DRule). option_map one_step (group_by d rule)) rules

-- no wildcard leads anywhere
abbrev pub exits_to : List (ℕ × ℕ) → PlainExits
exits_to listed = record { listed = listed; beside = max_parts + 1 }

abbrev pub level_by : Dictionary → List DRule → PlainLevel
level_by d rules = record { least = 0; exits = exits_to (listed_by d rules) }

abbrev pub node_with : Dictionary → List DRule → PlainNode
node_with d rules = record { other = 1; level = Some (level_by d rules) }

abbrev pub node_by : Dictionary → PlainDefinition → PlainNode
node_by d def = node_with d def.rules

-- the first n commands, after the groups
abbrev pub commands_from : ℕ → ℕ → List (ℕ × ℕ)
commands_from first zero = []
commands_from first (suc n) = commands_from first n ++ one_step (first + n) ∷ []

abbrev pub graph_in : Dictionary → Graph
graph_in d = record { nodes = map (node_by d) (definitions d); start = exits_to (commands_from (length (groups d)) (length d.commands)); room = max_parts }
