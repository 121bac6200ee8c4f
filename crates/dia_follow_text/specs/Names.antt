-- Names of ends and of commands.
use Rattle.std.specs.Prelude.{ℕ, Bool, true, false, List, Option, Some, None, codes, option_and_then, slice_get}
use Rattle.std.specs.Fmt.{decimal}
use Rattle.dia_book.specs.declared.Class.{Class}
use Rattle.dia_book.specs.declared.Class.TheVariants.{Request, Answer}
use Rattle.dia_dict.specs.Dictionary.{Dictionary, PlainDefinition, definitions, selected}
use Rattle.dia_follow.specs.declared.End.{End}
use Rattle.dia_follow.specs.declared.End.TheVariants.{Initiator, Responder}

abbrev pub mark : End → List ℕ
mark Initiator = codes ">"
mark Responder = codes "<"

abbrev pub class_of : Bool → Class
class_of true = Request
class_of false = Answer

abbrev pub name_or_code : Option PlainDefinition → ℕ → List ℕ
name_or_code None code = decimal code
name_or_code (Some definition) code = definition.name

-- a command's name by its code, R and the application, or its code. E doesn't count
abbrev pub name_of : Dictionary → ℕ → Bool → ℕ → List ℕ
name_of d code request app = name_or_code (option_and_then (slice_get (definitions d)) (selected d code (class_of request) app)) code
