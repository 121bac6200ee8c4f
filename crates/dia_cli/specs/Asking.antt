-- What the words of the command line ask for, and which are accepted, by what clap says of a command line of this shape.
use Rattle.std.specs.Prelude.{◌≡◌, ◌⊎◌, ◌&&◌, ⊤, Bool, true, false, List, [], ◌∷◌, Option, Some, codes, IsSomeAnd}
use Rattle.std.specs.Borrow.{Bor}
use Rattle.std.specs.Option.{option_map_or}
use Rattle.clap.specs.Walk.{Row, Text, first_of, texts}
use Rattle.clap.specs.Words.{App, IsAmong, Kinds, fault_of, kind_of, subcommand_of}
use Rattle.dia_terms.specs.declared.Sends.TheVariants as sent
use Rattle.dia_terms.specs.declared.Unknown.TheVariants.{Kept, Refused}
use Rattle.dia_cli.specs.FoundTasks.{IsTaskOf, arguments_of, has_arguments}
use Rattle.dia_cli.specs.InputWords.{AreFound}
use Rattle.dia_cli.specs.Lines.{program_app}
use Rattle.dia_cli.specs.Origins.{reads_twice}
use Rattle.dia_cli.specs.Rows.{command_rows, with_commands}
use Rattle.dia_cli.specs.Words.{IsFlag, apart_in, flag_word, is_flag, is_given, masked_apart_in, policy_word, sends_word}
use Rattle.dia_cli.specs.declared.task.Task.{Task}
use Rattle.dia_cli.specs.declared.ending.Ending.{Ending}
use Rattle.dia_cli.specs.declared.ending.Ending.TheVariants as ending
use Rattle.dia_cli.specs.declared.origin.Origins.{Origins}
use Rattle.dia_cli.specs.declared.request.Request.{Request}
use Rattle.dia_cli.specs.declared.arguments.Unasked.{Unasked}
use Rattle.dia_cli.specs.declared.arguments.Unasked.TheVariants as unasked
use Rattle.dia_cli.specs.declared.apart.Apart.{Apart}
use Rattle.dia_cli.specs.declared.apart.Apart.TheVariants.{LinesAndStream, AllAndLines, AllAndStream, AllAndJson, OnlyAndKeep, OnlyAndMask, TextAndJson}

abbrev pub line_shape : Bor (List (Bor Text)) → Bor (List (Bor Text)) → App
line_shape policies senders = with_commands policies senders program_app command_rows

-- the task was found, and its inputs come from where the words of its arguments say
abbrev pub IsAsked : Task → Origins → Text × List Row → Type 0
IsAsked task origins found = IsTaskOf task found × AreFound (arguments_of task) origins found.1

-- the request that was found
abbrev pub IsRequestOf : Request → Text × List Row → Type 0
IsRequestOf request found =
    IsAsked request.task request.origins found × IsFlag (codes "quiet") request.quiet found.1
    × (request.json ≡ is_given (first_of (codes "json") found.1))

-- the program's line, where `--unknown` is one of the two policies and `--sends` one of the four senders
pub record IsProgram (line : App) : Type 0 where
  pub policies : Bor (List (Bor Text))
  pub senders : Bor (List (Bor Text))
  pub two : texts policies.now ≡ policy_word Kept ∷ policy_word Refused ∷ []
  pub four : texts senders.now ≡ sends_word sent.Any ∷ sends_word sent.Known ∷ sends_word sent.Filled ∷ sends_word sent.Listed ∷ []
  pub shape : line ≡ line_shape policies senders

-- the request that clap's specification gives for words without a fault
abbrev pub IsAskedBy : List Text → Request → Type 0
IsAskedBy words request =
    (line : App) × IsProgram line × (fault_of line words ≡ []) × IsSomeAnd (subcommand_of line words) (IsRequestOf request)

-- what was found is a subcommand with its arguments
abbrev pub is_asked : Option (Text × List Row) → Bool
is_asked = λ found. option_map_or (λ f. is_flag (first_of (codes "quiet") f.1) && has_arguments f.0 f.1) found false

-- a command with both of these options
abbrev pub IsWithBoth : (command first second : Text) → Text × List Row → Type 0
IsWithBoth command first second found =
    (found.0 ≡ command) × (first_of first found.1 ≡ Some (flag_word true)) × (first_of second found.1 ≡ Some (flag_word true))

abbrev pub IsCheckWithBoth : Text → Text → Text × List Row → Type 0
IsCheckWithBoth = IsWithBoth (codes "check")

-- two options are given that don't go together
abbrev pub IsApart : Apart → Text × List Row → Type 0
IsApart LinesAndStream found = IsCheckWithBoth (codes "lines") (codes "stream") found
IsApart AllAndLines found = IsCheckWithBoth (codes "all") (codes "lines") found
IsApart AllAndStream found = IsCheckWithBoth (codes "all") (codes "stream") found
IsApart AllAndJson found = IsCheckWithBoth (codes "all") (codes "json") found
IsApart OnlyAndKeep found = (found.0 ≡ codes "mask") × (masked_apart_in found.1 ≡ Some OnlyAndKeep)
IsApart OnlyAndMask found = (found.0 ≡ codes "mask") × (masked_apart_in found.1 ≡ Some OnlyAndMask)
IsApart TextAndJson found = IsWithBoth (codes "examples") (codes "text") (codes "json") found
IsApart apart found = (found.0 ≡ codes "show") × (apart_in found.1 ≡ Some apart)

-- why what was found for a subcommand is none that the program runs
abbrev pub IsWanting : Text → List Row → Unasked → Type 0
IsWanting name rows unasked.Nothing = has_arguments name rows ≡ false
IsWanting name rows (unasked.Apart apart) = IsApart apart (name, rows)
IsWanting name rows unasked.NoMemory = ⊤

-- why what was found is no request
abbrev pub IsUnasked : Option (Text × List Row) → Unasked → Type 0
IsUnasked found unasked.Nothing = is_asked found ≡ false
IsUnasked found (unasked.Apart apart) = IsSomeAnd found (IsApart apart)
IsUnasked found unasked.NoMemory = ⊤

-- why what was found isn't run
abbrev pub IsUnrun : Option (Text × List Row) → Ending → Type 0
IsUnrun found (ending.Recorded error) = is_asked found ≡ false
IsUnrun found ending.ReadTwice =
    (request : Request) × IsSomeAnd found (IsRequestOf request) × (reads_twice request.origins ≡ true)
IsUnrun found (ending.Apart apart) = IsSomeAnd found (IsApart apart)
IsUnrun found ending.NoMemory = ⊤
IsUnrun found made = ⊥

-- clap reports a fault of these kinds, of which help and the version are two
abbrev pub IsAtFault : Kinds → Ending → Type 0
IsAtFault kinds (ending.Recorded error) = IsAmong (kind_of error) kinds
IsAtFault kinds made = ⊥

-- why words are refused. Where clap finds no fault in them, and they are a subcommand with its arguments, nothing is reported of
-- them: they are run, unless they name standard input twice, have two options that don't go together, or memory is refused
abbrev pub IsRefused : List Text → Ending → Type 0
IsRefused words made =
    (line : App) × IsProgram line × (IsAtFault (fault_of line words) made ⊎ IsUnrun (subcommand_of line words) made)
