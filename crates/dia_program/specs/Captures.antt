-- What is written for messages that are read a piece at a time, and how it ends.
use Rattle.std.specs.Prelude.{IsTrue, ◌≡◌, ◌≢◌, ◌⊎◌, ℕ, Bool, true, false, List, Option, Result, Ok, Err, codes}
use Rattle.std.specs.Io.KnownBytes.{IsAtEnd}
use Rattle.dia_io.specs.declared.Exit.{Exit}
use Rattle.dia_io.specs.declared.Exit.TheVariants.{Bad}
use Rattle.dia_io.specs.declared.Inputs.{Inputs}
use Rattle.dia_terms.specs.declared.Unknown.{Unknown}
use Rattle.dia_terms.specs.declared.Levels.{Levels}
use Rattle.dia_streams.specs.declared.fault.LinesFault.{LinesFault}
use Rattle.dia_streams.specs.declared.fault.LinesFault.TheVariants as fault
use Rattle.dia_captures.specs.declared.summaries.Lines.{Lines}
use Rattle.dia_captures.specs.declared.summaries.Lines.TheVariants.{Checked, Refuted, Placed}
use Rattle.dia_captures.specs.Lines.{AreLinesAnswered, IsFrontPut, checks, refutations}
use Rattle.dia_captures.specs.Streams.{IsStreamAnswered, IsStreamFrontPut}
use Rattle.dia_json.specs.Runs.{ChecksLines, ChecksFront, RefutesLines, RefutesFront, ChecksStream, StreamFront}
use Rattle.dia_json.specs.ShownLines.{ShowsFront, ShowsLines}
use Rattle.dia_show.specs.Lines.{AreLinesShown, IsFrontShown}
use Rattle.dia_report.specs.declared.reporting.Reported.{Reported}
use Rattle.dia_cli.specs.Ending.{Stream}
use Rattle.dia_cli.specs.OpenedInputs.{Gives}
use Rattle.dia_cli.specs.declared.ending.Ending.{Ending}
use Rattle.dia_cli.specs.declared.ending.Ending.TheVariants as ending
use Rattle.dia_cli.specs.declared.origin.Origin.{Origin}
use Rattle.dia_cli.specs.declared.origin.Origin.TheVariants.{File}

-- what a feed still gave before, and what it gives now
pub record Fed : Type 0 where
  pub old : Option (List ℕ)
  pub new : Option (List ℕ)

abbrev pub fed : Option (List ℕ) → Option (List ℕ) → Fed
fed old new = record { old = old; new = new }

-- lines were read to the end, unless an input is refused
abbrev pub IsReadOut : Fed → Exit → Type 0
IsReadOut feed exit = exit ≢ Bad → IsAtEnd feed.new

-- the text for the messages that a feed gives was put: as JSON, if that is asked for
abbrev pub ArePut : Lines → Bool → Unknown → Levels → Inputs → Fed → Stream → Exit → Type 0
ArePut Checked false u most inputs feed out exit =
    AreLinesAnswered (checks u most) inputs feed.old feed.new out.old out.new exit × IsReadOut feed exit
ArePut Checked true u most inputs feed out exit =
    ChecksLines u most inputs feed.old feed.new out.old out.new exit × IsReadOut feed exit
ArePut Refuted false u most inputs feed out exit =
    AreLinesAnswered (refutations u most) inputs feed.old feed.new out.old out.new exit × IsReadOut feed exit
ArePut Refuted true u most inputs feed out exit =
    RefutesLines u most inputs feed.old feed.new out.old out.new exit × IsReadOut feed exit
ArePut Placed false u most inputs feed out exit = IsStreamAnswered u most inputs feed.old feed.new out.old out.new exit
ArePut Placed true u most inputs feed out exit = ChecksStream u most inputs feed.old feed.new out.old out.new exit

-- a prefix of it was put
abbrev pub IsBegun : Lines → Bool → Unknown → Levels → Inputs → Fed → Stream → Type 0
IsBegun Checked false u most inputs feed out = IsFrontPut (checks u most) inputs feed.old feed.new out.old out.new
IsBegun Checked true u most inputs feed out = ChecksFront u most inputs feed.old feed.new out.old out.new
IsBegun Refuted false u most inputs feed out = IsFrontPut (refutations u most) inputs feed.old feed.new out.old out.new
IsBegun Refuted true u most inputs feed out = RefutesFront u most inputs feed.old feed.new out.old out.new
IsBegun Placed false u most inputs feed out = IsStreamFrontPut u most inputs feed.old feed.new out.old out.new
IsBegun Placed true u most inputs feed out = StreamFront u most inputs feed.old feed.new out.old out.new

-- the same of `show --lines`: as JSON, if that is asked for
abbrev pub AreShown : Bool → Bool → Inputs → Fed → Stream → Exit → Type 0
AreShown false names inputs feed out exit = AreLinesShown names inputs feed.old feed.new out.old out.new exit × IsReadOut feed exit
AreShown true names inputs feed out exit = ShowsLines names inputs feed.old feed.new out.old out.new exit × IsReadOut feed exit

abbrev pub IsShownBegun : Bool → Bool → Inputs → Fed → Stream → Type 0
IsShownBegun false names inputs feed out = IsFrontShown names inputs feed.old feed.new out.old out.new
IsShownBegun true names inputs feed out = ShowsFront names inputs feed.old feed.new out.old out.new

-- the word of the device that failed: standard output, or else the messages
abbrev pub IsFailing : List ℕ → Bool → List ℕ → Type 0
IsFailing word true name = name ≡ codes "standard output"
IsFailing word false name = name ≡ word

-- how the program ends where messages weren't answered to their end
abbrev pub IsEndingOf : LinesFault → List ℕ → Bool → Ending → Type 0
IsEndingOf fault.NoMemory word failed made = made ≡ ending.NoMemory
IsEndingOf fault word failed (ending.Device name error) = IsFailing word failed name.now
IsEndingOf fault word failed made = ⊥

-- a device failed, or memory was refused
abbrev pub IsFailure : List ℕ → Bool → Ending → Type 0
IsFailure word failed (ending.Device name error) = IsFailing word failed name.now
IsFailure word failed ending.NoMemory = ¬ IsTrue failed
IsFailure word failed made = ⊥

-- what is known of an input that is read a piece at a time
abbrev pub known_of : (List ℕ → Option (List ℕ)) → Option (List ℕ) → Origin → Option (List ℕ)
known_of content standard (File path limit) = content path.now
known_of content standard origin = standard

abbrev pub messages_word : Origin → List ℕ
messages_word (File path limit) = path.now
messages_word origin = codes "-"

-- over a feed that gives what is known: P, or where a device failed or memory was refused nothing, or Q
abbrev pub Ends : (Fed → Stream → Exit → Type 0) → (Fed → Stream → Type 0) → Option (List ℕ) → List ℕ → Stream → Result Reported Ending → Type 0
Ends P Q known word out (Ok reported) = (¬ IsTrue out.failed) × ((feed : Fed) × Gives known feed.old × P feed out reported.exit)
Ends P Q known word out (Err made) =
    IsFailure word out.failed made × ((out.new ≡ out.old) ⊎ ((feed : Fed) × Gives known feed.old × Q feed out))

-- `check --lines`, `refute --lines` and `check --stream`
abbrev pub Captures : Lines → Unknown → Levels → Bool → Inputs → Option (List ℕ) → List ℕ → Stream → Result Reported Ending → Type 0
Captures lines u most json inputs known word out ended =
    Ends (ArePut lines json u most inputs) (IsBegun lines json u most inputs) known word out ended

-- `show --lines`
abbrev pub Lists : Bool → Bool → Inputs → Option (List ℕ) → List ℕ → Stream → Result Reported Ending → Type 0
Lists json names inputs known word out ended = Ends (AreShown json names inputs) (IsShownBegun json names inputs) known word out ended
