-- The commands of a dictionary, found by their codes.
use Rattle.std.specs.Prelude.{ℕ, ◌==◌, Bool, false, List, [], map, filter, Option, Some, None, slice_get, option_and_then}
use Rattle.std.specs.Borrow.{Bor}
use Rattle.std.specs.Option.{option_map_or}
use Rattle.dia_book.specs.declared.Class.TheVariants as classes
use Rattle.dia_book.specs.declared.Definition.{Definition}
use Rattle.dia_book.specs.declared.DefHead.{DefHead}
use Rattle.dia_book.specs.declared.DefHead.TheVariants.{Group, Command, Error}
use Rattle.dia_book.specs.Dictionary.{Dictionary, PlainDefinition, definitions, selected, plain_definition}

-- a command of this code
abbrev pub has_code : ℕ → DefHead → Bool
has_code code (Group key) = false
has_code code (Command own class app p) = code == own
has_code code (Error p) = false

abbrev pub commands_of : Dictionary → ℕ → List PlainDefinition
commands_of d code = filter (λ c. has_code code c.head) d.commands

-- the definitions of a list, and none where there is no list
abbrev pub listed : Option (List (Bor Definition)) → List PlainDefinition
listed list = option_map_or (map (λ d. plain_definition d.now)) list []

-- the number of the one definition of B that may be selected for a command of A that is for one application or for errors
abbrev pub only_number : Dictionary → DefHead → Option ℕ
only_number db (Group key) = None
only_number db (Command code class None p) = None
only_number db (Command code class (Some app) p) = selected db code class app
only_number db (Error p) = selected db 0 classes.Error 0

abbrev pub only_for : Dictionary → DefHead → Option PlainDefinition
only_for db head = option_and_then (slice_get (definitions db)) (only_number db head)

-- the code of a command for all applications that no other command names
abbrev pub open_code : DefHead → Option ℕ
open_code (Group key) = None
open_code (Command code class None p) = Some code
open_code (Command code class (Some app) p) = None
open_code (Error p) = None
