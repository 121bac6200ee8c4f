-- What a yes of `compare` says: what is valid under the first dictionary is valid under the second.
use Rattle.std.specs.Prelude.{◌≡◌, ℕ, List, Some, Contains, slice_get, ⊤}
use Rattle.dia_dict.specs.Dictionary.{Dictionary, PlainDefinition, definitions}
use Rattle.dia_check.specs.declared.Unknown.{Unknown}
use Rattle.dia_check.specs.declared.Levels.{Levels}
use Rattle.dia_valid.specs.Valid.{IsValidOf}
use Rattle.dia_compat.specs.TableText.{PlainTable}
use Rattle.dia_io.specs.declared.Command.{Command}
use Rattle.dia_io.specs.declared.Command.TheVariants.{Compare}
use Rattle.dia_io.specs.declared.Inputs.{Inputs}
use Rattle.dia_io.specs.declared.Exit.{Exit}
use Rattle.dia_io.specs.declared.Exit.TheVariants.{Yes}
use Rattle.dia_run.specs.Texts.{IsDictionaryText}
use Rattle.dia_run.specs.Pairs.{IsTableText}

-- the bytes are a valid message of this command
abbrev pub IsMessageOf : Dictionary → Unknown → Levels → PlainDefinition → List ℕ → Type 0
IsMessageOf d u most command bytes = (c : ℕ) × (slice_get (definitions d) c ≡ Some command) × IsValidOf d u most bytes c

-- the table lists the command, with this name beside it
abbrev pub Lists : PlainTable → PlainDefinition → List ℕ → Type 0
Lists table command name = Contains table.commands (command.name, name)

-- the texts name two dictionaries and a table, and each byte string that is valid under the first dictionary as a message of a
-- command that the table lists is valid under the second as a message of a command beside it, with any limit on levels
pub record TextsInclude (u : Unknown) (inputs : Inputs) : Type 0 where
  pub a : Dictionary
  pub b : Dictionary
  pub table : PlainTable
  pub is_first : IsDictionaryText inputs.first a
  pub is_second : IsDictionaryText inputs.second b
  pub is_table : IsTableText inputs.table table
  pub inclusion : (most : Levels) (bytes : List ℕ) (command : PlainDefinition) (name : List ℕ) → Lists table command name
      → IsMessageOf a u most command bytes
      → (other : PlainDefinition) × Lists table command other.name × IsMessageOf b u most other bytes

-- a yes of `compare` shows it
abbrev pub ShowsInclusion : Command → Inputs → Exit → Type 0
ShowsInclusion (Compare u) inputs exit = exit ≡ Yes → TextsInclude u inputs
ShowsInclusion command inputs exit = ⊤
