-- The commands that `breaking` is asked for.
use Rattle.std.specs.Prelude.{◌≡◌, ℕ, ◌⊎◌, List, [], map, string_bytes, All, Contains}
use Rattle.dia_book.specs.Dictionary.{Dictionary, PlainDefinition}
use Rattle.dia_compat.specs.Closed.{NamesCommand}
use Rattle.dia_upgrades.specs.declared.asked.Asked.{Asked}

-- the names of commands that are given
abbrev pub names_of : Asked → List (List ℕ)
names_of asked = map (λ name. string_bytes name) asked.names.now

-- a command of the dictionary that is asked for: one whose name is given, or any where no name is
abbrev pub IsAskedFor : Dictionary → List (List ℕ) → PlainDefinition → Type 0
IsAskedFor d names command = Contains d.commands command × ((names ≡ []) ⊎ Contains names command.name)

-- each name is that of a command
abbrev pub AreCommands : Dictionary → List (List ℕ) → Type 0
AreCommands d names = All (λ name. (command : PlainDefinition) × NamesCommand d name command) names
