-- What is written of a captured connection, and how it ends.
use Rattle.std.specs.Prelude.{◌≢◌, ℕ, if◌then◌else◌, Bool, List, Option, None, Some, Result}
use Rattle.std.specs.Io.KnownBytes.{IsAtEnd}
use Rattle.dia_io.specs.declared.Exit.{Exit}
use Rattle.dia_io.specs.declared.Exit.TheVariants.{Bad}
use Rattle.dia_io.specs.declared.Inputs.{Inputs}
use Rattle.dia_report.specs.declared.reporting.Reported.{Reported}
use Rattle.dia_cli.specs.Ending.{Stream}
use Rattle.dia_cli.specs.declared.ending.Ending.{Ending}
use Rattle.dia_cli.specs.declared.task.Following.{Following}
use Rattle.dia_follow_text.specs.declared.options.Check.{Check}
use Rattle.dia_follow_text.specs.declared.options.Options.{Options}
use Rattle.dia_follow_text.specs.Runs.{AreFollowed, IsAnswerPut, IsFollowBegun}
use Rattle.dia_program.specs.Captures.{Ends, Fed}

-- how each message is checked, with `--check`
abbrev pub check_of : Following → Option Check
check_of asked = if asked.check then Some (record { unknown = asked.unknown; levels = asked.levels }) else None

abbrev pub options_of : Following → Bool → Options
options_of asked json = record { middle = asked.middle; check = check_of asked; json = json }

-- the answer to the lines that a feed gives was put, and they were read to the end unless an input or a line is refused
pub record IsConnectionPut (asked : Following) (json : Bool) (inputs : Inputs) (feed : Fed) (out : Stream) (exit : Exit) : Type 0 where
  pub followed : AreFollowed (options_of asked json) inputs.first feed.old feed.new out.old out.new exit
  pub whole : IsAnswerPut (options_of asked json) inputs.first feed.old out.old out.new exit
  pub to_the_end : exit ≢ Bad → IsAtEnd feed.new

-- a prefix of it was put
abbrev pub IsConnectionBegun : Following → Bool → Inputs → Fed → Stream → Type 0
IsConnectionBegun asked json inputs feed out = IsFollowBegun (options_of asked json) inputs.first feed.old feed.new out.old out.new

-- `follow`
abbrev pub Follows : Following → Bool → Inputs → Option (List ℕ) → List ℕ → Stream → Result Reported Ending → Type 0
Follows asked json inputs known word out ended =
    Ends (IsConnectionPut asked json inputs) (IsConnectionBegun asked json inputs) known word out ended
