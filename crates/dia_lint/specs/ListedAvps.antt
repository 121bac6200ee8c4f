-- The AVPs that some rule lists (RFC 6733 section 3.2).
use Rattle.std.specs.Prelude.{◌≡◌, ℕ, ◌+◌, ◌<◌, nat_eq, Bool, if◌then◌else◌, List, [], ◌++◌, length, Option, Some, None, option_and_then, slice_get}
use Rattle.std.specs.List.{filter_map, list_any}
use Rattle.std.specs.Option.{option_map_or}
use Rattle.dia_book.specs.declared.DRule.{DRule}
use Rattle.dia_book.specs.Dictionary.{Dictionary, entry_of, group_place, groups}
use Rattle.dia_valid.specs.Rules.{rules_in}
use Rattle.dia_lint.specs.Gathered.{gathered}
use Rattle.dia_lint.specs.Guidelines.{lets_in}

-- the place of the AVP that a rule lists
abbrev pub listed_by : Dictionary → DRule → Option ℕ
listed_by d rule = if lets_in rule then option_and_then (entry_of d) rule.key else None

abbrev pub listed_in_definition : Dictionary → ℕ → List ℕ
listed_in_definition d n = filter_map (listed_by d) (rules_in d n)

-- by the group of an entry, and by the command at a place
abbrev pub listed_in_group : Dictionary → ℕ → List ℕ
listed_in_group d e = option_map_or (listed_in_definition d) (group_place d e) []

abbrev pub listed_in_command : Dictionary → ℕ → List ℕ
listed_in_command d i = listed_in_definition d (length (groups d) + i)

-- by all rules: of the groups, and of the commands
abbrev pub listed_places : Dictionary → List ℕ
listed_places d = gathered (listed_in_group d) (length d.entries) ++ gathered (listed_in_command d) (length d.commands)

-- some rule lists the AVP at this place
abbrev pub is_listed_avp : Dictionary → ℕ → Bool
is_listed_avp d e = list_any (nat_eq e) (listed_places d)

-- of each of so many places whether it is among these
pub record AreMarked (places : List ℕ) (count : ℕ) (marks : List Bool) : Type 0 where
  pub size : length marks ≡ count
  pub each : (e : ℕ) → e < count → slice_get marks e ≡ Some (list_any (nat_eq e) places)
