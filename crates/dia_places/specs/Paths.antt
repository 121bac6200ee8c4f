-- The definitions that the commands of a dictionary reach, with the shortest paths to them.
use Rattle.std.specs.Prelude.{◌⊎◌, ◌≡◌, ℕ, ◌+◌, ◌<◌, ◌≤◌, nat_eq, Bool, not, if◌then◌else◌, List, [], ◌∷◌, length, Option, Some, None, option_and_then, slice_get, Contains}
use Rattle.std.specs.Option.{option_eq, option_map_or}
use Rattle.dia_book.specs.declared.definition.DRule.{DRule}
use Rattle.dia_book.specs.Dictionary.{Dictionary, PlainDefinition, definitions, entry_of, group_place, groups}

-- ---- where rules lead

-- AVPs may occur by a rule: its greatest count isn't 0
abbrev pub allows : DRule → Bool
allows rule = not (option_eq nat_eq rule.max (Some 0))

-- the number of the definition of the group that a rule allows
abbrev pub group_by : Dictionary → DRule → Option ℕ
group_by d rule = if allows rule then option_and_then (λ key. option_and_then (group_place d) (entry_of d key)) rule.key else None

-- the rules of the definition with a number
abbrev pub rules_at : Dictionary → ℕ → List DRule
rules_at d n = option_map_or (λ (def : PlainDefinition). def.rules) (slice_get (definitions d) n) []

-- a rule of the definition m allows the group of the definition n
abbrev pub LeadsTo : Dictionary → ℕ → ℕ → Type 0
LeadsTo d m n = (rule : DRule) × Contains (rules_at d m) rule × (group_by d rule ≡ Some n)

-- the number is that of a command's definition
abbrev pub IsCommand : Dictionary → ℕ → Type 0
IsCommand d n = (i : ℕ) × (i < length d.commands) × (n ≡ length (groups d) + i)

-- ---- paths

-- a definition, and those around it: the group that holds its group first, and the command last
pub record Path : Type 0 where
  pub def : ℕ
  pub around : List ℕ

-- each definition has a rule for the group inside it, and the last one is a command's
abbrev pub LeadInto : Dictionary → ℕ → List ℕ → Type 0
LeadInto d n [] = IsCommand d n
LeadInto d n (m ∷ around) = LeadsTo d m n × LeadInto d m around

abbrev pub IsPath : Dictionary → Path → Type 0
IsPath d path = LeadInto d path.def path.around

-- no path to its definition is shorter
abbrev pub IsShortest : Dictionary → Path → Type 0
IsShortest d path = (other : Path) → IsPath d other → other.def ≡ path.def → length path.around ≤ length other.around

-- the shorter path first, and of one length the one to the first definition: groups in the order of their AVPs, and then commands
abbrev pub IsBefore : Path → Path → Type 0
IsBefore p q = (length p.around < length q.around) ⊎ ((length p.around ≡ length q.around) × (p.def < q.def))

-- a shortest path to each definition that a command reaches, in order. Of several it is the one whose last group is the first in this order
pub record ArePaths (d : Dictionary) (paths : List Path) : Type 0 where
  pub each : (i : ℕ) (path : Path) → slice_get paths i ≡ Some path → IsPath d path × IsShortest d path
  pub all : (path : Path) → IsPath d path → (i : ℕ) × (found : Path) × (slice_get paths i ≡ Some found) × (found.def ≡ path.def)
  pub ordered : (i j : ℕ) (p q : Path) → i < j → slice_get paths i ≡ Some p → slice_get paths j ≡ Some q → IsBefore p q
  pub first : (i m : ℕ) (path : Path) (around : List ℕ) → slice_get paths i ≡ Some path → path.around ≡ m ∷ around
      → (j : ℕ) × (slice_get paths j ≡ Some (record { def = m; around = around })) × ((k : ℕ) (other : Path) → slice_get paths k ≡ Some other → LeadsTo d other.def path.def → j ≤ k)
