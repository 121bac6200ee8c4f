-- The definitions of a dictionary, by what they are of.
use Rattle.std.specs.Prelude.{ℕ, ◌+◌, nat_lt, if◌then◌else◌, length, List, [], Option, Some, None, option_and_then, slice_get}
use Rattle.std.specs.Option.{option_map_or}
use Rattle.dia_book.specs.declared.definition.DRule.{DRule}
use Rattle.dia_book.specs.Dictionary.{Dictionary, PlainDefinition, group_place, groups}
use Rattle.dia_differences.specs.declared.owner.Owner.{Owner}
use Rattle.dia_differences.specs.declared.owner.Owner.TheVariants.{Avp, Command}

-- the number of the definition of the command at a place
abbrev pub command_place : Dictionary → ℕ → Option ℕ
command_place d i = if nat_lt i (length d.commands) then Some (length (groups d) + i) else None

-- the number of the definition of an AVP or a command
abbrev pub definition_of : Dictionary → Owner → Option ℕ
definition_of d (Avp i) = group_place d i
definition_of d (Command i) = command_place d i

-- the definition of an AVP or a command
abbrev pub owned : Dictionary → Owner → Option PlainDefinition
owned d (Avp i) = option_and_then (λ e. e.group) (slice_get d.entries i)
owned d (Command i) = slice_get d.commands i

-- its rules: none where there is no definition
abbrev pub rules_of : Dictionary → Owner → List DRule
rules_of d of = option_map_or (λ def. def.rules) (owned d of) []

-- the name of an AVP or a command, empty where the dictionary doesn't have it
abbrev pub name_of : Dictionary → Owner → List ℕ
name_of d (Avp i) = option_map_or (λ e. e.name) (slice_get d.entries i) []
name_of d (Command i) = option_map_or (λ c. c.name) (slice_get d.commands i) []
