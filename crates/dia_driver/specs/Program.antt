-- What a program writes for its words and inputs, and with which status it ends: a program that answers each task so.
use Rattle.std.specs.Prelude.{IsTrue, ◌≡◌, ℕ, Bool, false, List, Some, Result, Ok, Err, ⊤, codes}
use Rattle.std.specs.IoError.{error_kind}
use Rattle.std.specs.declared.io.ErrorKind.TheVariants.{BrokenPipe}
use Rattle.dia_io.specs.Exit.{status_of}
use Rattle.dia_io.specs.declared.Exit.{Exit}
use Rattle.dia_io.specs.declared.Inputs.{Inputs}
use Rattle.dia_report.specs.declared.reporting.Reported.{Reported}
use Rattle.dia_cli.specs.Asking.{IsAskedBy, IsRefused}
use Rattle.dia_cli.specs.Ending.{Stream, IsAdvised, IsShown, IsRecorded, ShowsHelp}
use Rattle.dia_cli.specs.OpenedInputs.{IsAnyUnread, IsReadOf}
use Rattle.dia_cli.specs.Origins.{reads_twice}
use Rattle.dia_cli.specs.declared.ending.Ending.{Ending}
use Rattle.dia_cli.specs.declared.ending.Ending.TheVariants as ending
use Rattle.dia_cli.specs.declared.origin.Origins.{Origins}
use Rattle.dia_cli.specs.declared.request.Request.{Request}
use Rattle.dia_cli.specs.declared.task.Task.{Task}
use Rattle.dia_driver.specs.Tasks.{TaskEnds, World}

abbrev pub IsUntouched : Stream → Type 0
IsUntouched s = (¬ IsTrue s.failed) × (s.new ≡ s.old)

-- a request: its inputs are read, and its task is done for them; or an input can't be read, and nothing is written
pub data RequestEnds (answers : Task → Bool → World → Origins → Inputs → Stream → Result Reported Ending → Type 0)
    (request : Request) (w : World) (out : Stream) (ended : Result Exit Ending) : Type 0 where
  done : (inputs : Inputs) → IsReadOf w.content w.standard request.origins inputs
      → TaskEnds answers request.task request.json w request.origins inputs out ended → RequestEnds answers request w out ended
  unread : (made : Ending) → IsAnyUnread request.origins made → IsUntouched out → ended ≡ Err made → RequestEnds answers request w out ended

-- standard output, and the stream for endings
pub record Streams : Type 0 where
  pub out : Stream
  pub err : Stream

abbrev pub streams : Stream → Stream → Streams
streams out err = record { out = out; err = err }

-- a device failed, or memory was refused
abbrev pub IsFailed : Ending → Type 0
IsFailed (ending.Device name error) = ⊤
IsFailed ending.NoMemory = ⊤
IsFailed made = ⊥

-- standard output is a pipe that nobody reads any more
abbrev pub IsUnread : Ending → Type 0
IsUnread (ending.Device name (Some error)) = (name.now ≡ codes "standard output") × (error_kind error ≡ BrokenPipe)
IsUnread made = ⊥

-- a request failed: status 3, and the reason on standard error, but silently where standard output is a pipe that nobody reads
pub record Fails (made : Ending) (err : Stream) (status : ℕ) : Type 0 where
  pub is_3 : status ≡ 3
  pub quiet : IsUnread made → IsUntouched err
  pub recorded : ¬ IsUnread made → IsRecorded made err status

-- there is no request: the words ask for help or the version, which is shown, or they are refused, and standard error says why
pub record Refuses (made : Ending) (s : Streams) (status : ℕ) : Type 0 where
  pub help : ShowsHelp made → IsShown s.out s.err (IsUntouched s.err) status
  pub refusal : ¬ ShowsHelp made → IsUntouched s.out × IsRecorded made s.err status

-- the words: what they ask for was answered, with the status of its exit, or failed; or they ask for nothing
pub data IsProgramOutcome (answers : Task → Bool → World → Origins → Inputs → Stream → Result Reported Ending → Type 0)
    (words : List (List ℕ)) (w : World) (s : Streams) (status : ℕ) : Type 0 where
  answered : (request : Request) (exit : Exit) → IsAskedBy words request → reads_twice request.origins ≡ false → RequestEnds answers request w s.out (Ok exit)
      → IsUntouched s.err → status ≡ status_of exit → IsProgramOutcome answers words w s status
  failed : (request : Request) (made : Ending) → IsAskedBy words request → reads_twice request.origins ≡ false → RequestEnds answers request w s.out (Err made)
      → Fails made s.err status → IsProgramOutcome answers words w s status
  refused : (fault made : Ending) → IsRefused words fault → IsAdvised fault made → Refuses made s status
      → IsProgramOutcome answers words w s status

-- of the process: some words, or they can't be read
pub data IsProcessOutcome (answers : Task → Bool → World → Origins → Inputs → Stream → Result Reported Ending → Type 0)
    (w : World) (s : Streams) (status : ℕ) : Type 0 where
  run : (words : List (List ℕ)) → IsProgramOutcome answers words w s status → IsProcessOutcome answers w s status
  unread : (made : Ending) → ¬ ShowsHelp made → IsUntouched s.out → IsRecorded made s.err status → IsProcessOutcome answers w s status
