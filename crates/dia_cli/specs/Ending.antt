-- How the program ends where there is nothing to run, or a run didn't end.
use Rattle.std.specs.Prelude.{◌≡◌, ◌≢◌, ◌⊎◌, ℕ, Bool, true, false, List, [], ◌∷◌, ◌++◌, Option, None, Some, ⊤, codes}
use Rattle.std.specs.Io.KnownBytes.{Appends}
use Rattle.std.specs.Borrow.{Bor}
use Rattle.std.specs.declared.io.Error.{Error}
use Rattle.std.specs.declared.io.ErrorKind.TheVariants.{OutOfMemory, InvalidData}
use Rattle.std.specs.IoError.{error_kind}
use Rattle.clap.specs.declared.error.Error.{Error as WordsError}
use Rattle.clap.specs.declared.error.kind.ErrorKind.TheVariants.{DisplayHelp, DisplayVersion}
use Rattle.clap.specs.Words.{kind_of}
use Rattle.dia_io.specs.declared.RunFault.{RunFault}
use Rattle.dia_io.specs.declared.RunFault.TheVariants as fault
use Rattle.dia_cli.specs.Apart.{first_option, second_option}
use Rattle.dia_cli.specs.declared.ending.Ending.{Ending}
use Rattle.dia_cli.specs.declared.ending.Ending.TheVariants as ending

-- a device failed, and the system said why
abbrev pub IsDevice : List ℕ → Error → Ending → Type 0
IsDevice word error (ending.Device name why) = (name.now ≡ word) × (why ≡ Some error)
IsDevice word error made = ⊥

-- of the words of the process: out of memory, a word that is no text, and else a device
pub record IsEndingOfIo (error : Error) (made : Ending) : Type 0 where
  pub memory : error_kind error ≡ OutOfMemory → made ≡ ending.NoMemory
  pub text : error_kind error ≡ InvalidData → made ≡ ending.NotText
  pub device : error_kind error ≢ OutOfMemory → error_kind error ≢ InvalidData → IsDevice (codes "command line") error made

-- of a run that didn't end
abbrev pub ending_of_run : RunFault → Bor (List ℕ) → Option Error → Ending
ending_of_run fault.Device name error = ending.Device name error
ending_of_run fault.NoMemory name error = ending.NoMemory

-- the words ask for help, or for the version
abbrev pub IsHelp : WordsError → Type 0
IsHelp error = (kind_of error ≡ DisplayHelp) ⊎ (kind_of error ≡ DisplayVersion)

abbrev pub ShowsHelp : Ending → Type 0
ShowsHelp (ending.Recorded error) = IsHelp error
ShowsHelp made = ⊥

-- 0 for help, 2 for a command-line fault, 3 for a device and out of memory
abbrev pub EndsWith : Ending → ℕ → Type 0
EndsWith (ending.Recorded error) status = (IsHelp error → status ≡ 0) × (¬ IsHelp error → status ≡ 2)
EndsWith ending.NotText status = status ≡ 2
EndsWith ending.ReadTwice status = status ≡ 2
EndsWith (ending.Apart apart) status = status ≡ 2
EndsWith (ending.Device name error) status = status ≡ 3
EndsWith ending.NoMemory status = status ≡ 3

-- a refusal may be written in better words, of the same kind and so with the same status; other endings stay
abbrev pub IsAdvised : Ending → Ending → Type 0
IsAdvised (ending.Recorded fault) recorded = (better : WordsError) × (recorded ≡ ending.Recorded better) × (kind_of better ≡ kind_of fault)
IsAdvised made recorded = recorded ≡ made

-- line feeds
abbrev pub try_help : List ℕ
try_help = 10 ∷ 10 ∷ codes "For more information, try '--help'." ++ 10 ∷ []

abbrev pub device_failed : List ℕ
device_failed = codes "device failed" ++ 10 ∷ []

abbrev pub no_memory_text : List ℕ
no_memory_text = codes "no memory" ++ 10 ∷ []

-- a device failed, and the system said why
abbrev pub IsDeviceText : List ℕ → List ℕ → Type 0
IsDeviceText name text = (said : List ℕ) × (text ≡ device_failed ++ name ++ codes ": " ++ said ++ 10 ∷ [])

-- two options don't go together
abbrev pub apart_text : List ℕ → List ℕ → List ℕ
apart_text first second = codes "error: the argument '--" ++ first ++ codes "' cannot be used with '--" ++ second ++ (codes "'" ++ try_help)

-- the text of an ending. The words of clap and of the system are any
abbrev pub IsTextOf : Ending → List ℕ → Type 0
IsTextOf (ending.Recorded error) text = ⊤
IsTextOf ending.NotText text = text ≡ codes "error: a word of the command line isn't UTF-8" ++ try_help
IsTextOf ending.ReadTwice text =
    text ≡ codes "error: '-' is given twice, and standard input can be read once: name a file for one of the two" ++ try_help
IsTextOf (ending.Apart apart) text = text ≡ apart_text (first_option apart) (second_option apart)
IsTextOf (ending.Device name (Some error)) text = IsDeviceText name.now text
IsTextOf (ending.Device name None) text = text ≡ device_failed
IsTextOf ending.NoMemory text = text ≡ no_memory_text

-- words of clap or of the system, which are put together first
abbrev pub HasForeignText : Ending → Type 0
HasForeignText (ending.Recorded error) = ⊤
HasForeignText (ending.Device name (Some error)) = ⊤
HasForeignText made = ⊥

-- the text of the ending was written
abbrev pub AppendsTextOf : Ending → Option (List ℕ) → Option (List ℕ) → Type 0
AppendsTextOf made old new = (text : List ℕ) × IsTextOf made text × Appends old new text

-- a stream that was written to: its bytes before and after, where it shows them, and whether it has failed
pub record Stream : Type 0 where
  pub old : Option (List ℕ)
  pub new : Option (List ℕ)
  pub failed : Bool

abbrev pub stream : Option (List ℕ) → Option (List ℕ) → Bool → Stream
stream old new failed = record { old = old; new = new; failed = failed }

-- the ending is written to a stream, with this status: the ending's own, or 3 where the stream failed, or where memory was
-- refused and that was written
pub data IsRecorded (made : Ending) (s : Stream) (status : ℕ) : Type 0 where
  recorded : s.failed ≡ false → EndsWith made status → AppendsTextOf made s.old s.new → IsRecorded made s status
  no_memory : s.failed ≡ false → HasForeignText made → status ≡ 3 → Appends s.old s.new no_memory_text → IsRecorded made s status
  device : s.failed ≡ true → status ≡ 3 → IsRecorded made s status

-- help is shown on standard output, and standard error stays as it was; or standard error says why not
pub data IsShown (out err : Stream) (is_quiet : Type 0) (status : ℕ) : Type 0 where
  shown : out.failed ≡ false → is_quiet → status ≡ 0 → IsShown out err is_quiet status
  no_memory : out.failed ≡ false → out.new ≡ out.old → IsRecorded ending.NoMemory err status → IsShown out err is_quiet status
  device : (name : Bor (List ℕ)) (why : Option Error) → out.failed ≡ true → name.now ≡ codes "standard output"
      → IsRecorded (ending.Device name why) err status → IsShown out err is_quiet status
