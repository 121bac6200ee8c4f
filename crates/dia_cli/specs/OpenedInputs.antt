-- The inputs that are read from where they come from.
use Rattle.std.specs.Prelude.{◌≡◌, ℕ, ◌≤◌, List, [], length, Option, Some, IfSome, Result, Ok, Err, ⊤, ◌⊎◌, codes}
use Rattle.std.specs.Borrow.{Bor}
use Rattle.std.specs.Global.{Vec}
use Rattle.std.specs.declared.io.Error.{Error}
use Rattle.dia_ccf.specs.CanonicalText.{canonical}
use Rattle.dia_dict.specs.Base.{base_source}
use Rattle.dia_io.specs.Inputs.{IsWhole}
use Rattle.dia_io.specs.declared.Input.{Input}
use Rattle.dia_io.specs.declared.Input.TheVariants.{Bytes, TooLong}
use Rattle.dia_io.specs.declared.Inputs.{Inputs}
use Rattle.dia_cli.specs.declared.ending.Ending.{Ending}
use Rattle.dia_cli.specs.declared.ending.Ending.TheVariants as ending
use Rattle.dia_cli.specs.declared.origin.Origin.{Origin}
use Rattle.dia_cli.specs.declared.origin.Origin.TheVariants.{Nowhere, Base, Empty, StandardInput, File}
use Rattle.dia_cli.specs.declared.origin.Origins.{Origins}
use Rattle.dia_io.specs.declared.InputFault.{InputFault}
use Rattle.dia_io.specs.declared.InputFault.TheVariants as fault

-- of what was read: all bytes, too many, or how the program ends
abbrev pub input_of : Result (Vec ℕ) InputFault → Bor (List ℕ) → Option Error → Result Input Ending
input_of (Ok bytes) name error = Ok (Bytes bytes)
input_of (Err fault.TooLong) name error = Ok TooLong
input_of (Err fault.Device) name error = Err (ending.Device name error)
input_of (Err fault.NoMemory) name error = Err ending.NoMemory

-- no more than the limit is handed on
abbrev pub IsWithin : Input → ℕ → Type 0
IsWithin (Bytes v) limit = length v.items ≤ limit
IsWithin TooLong limit = ⊤

abbrev pub IsExactly : List ℕ → Input → Type 0
IsExactly bytes (Bytes v) = v.items ≡ bytes
IsExactly bytes TooLong = ⊥

-- a reader gives all of these bytes, where they are known
abbrev pub Gives : Option (List ℕ) → Option (List ℕ) → Type 0
Gives known remaining = IfSome known (λ all. remaining ≡ Some all)

-- no more than the limit is handed on; and where the bytes are known, the input is all of them, or they are more than the limit
abbrev pub IsReadFrom : Option (List ℕ) → ℕ → Input → Type 0
IsReadFrom known limit input = IsWithin input limit × IfSome known (IsWhole input limit)

-- where files by their names and standard input hold these bytes
abbrev pub IsInputOf : (List ℕ → Option (List ℕ)) → Option (List ℕ) → Origin → Input → Type 0
IsInputOf content standard Nowhere input = IsExactly [] input
IsInputOf content standard Base input = IsExactly (canonical base_source) input
IsInputOf content standard Empty input = IsExactly [] input
IsInputOf content standard (StandardInput limit) input = IsReadFrom standard limit input
IsInputOf content standard (File path limit) input = IsReadFrom (content path.now) limit input

pub record IsReadOf (content : List ℕ → Option (List ℕ)) (standard : Option (List ℕ)) (origins : Origins) (inputs : Inputs) : Type 0 where
  pub first : IsInputOf content standard origins.first inputs.first
  pub second : IsInputOf content standard origins.second inputs.second
  pub table : IsInputOf content standard origins.table inputs.table
  pub message : IsInputOf content standard origins.message inputs.message

-- memory was refused, or the device of the input with this word failed
abbrev pub IsFaultOf : List ℕ → Ending → Type 0
IsFaultOf word (ending.Device name error) = name.now ≡ word
IsFaultOf word ending.NoMemory = ⊤
IsFaultOf word made = ⊥

-- why an input wasn't read
abbrev pub IsUnread : Origin → Ending → Type 0
IsUnread (StandardInput limit) made = IsFaultOf (codes "-") made
IsUnread (File path limit) made = IsFaultOf path.now made
IsUnread origin made = made ≡ ending.NoMemory

abbrev pub IsAnyUnread : Origins → Ending → Type 0
IsAnyUnread origins made = IsUnread origins.first made ⊎ IsUnread origins.second made ⊎ IsUnread origins.table made
    ⊎ IsUnread origins.message made
