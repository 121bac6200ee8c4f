-- What the first program answers: commands as text.
use Rattle.std.specs.Prelude.{◌≡◌, ℕ, Bool, false, List, [], Option, Some, None, Result}
use Rattle.dia_io.specs.declared.Command.{Command}
use Rattle.dia_io.specs.declared.Command.TheVariants.{Show}
use Rattle.dia_io.specs.declared.Exit.{Exit}
use Rattle.dia_io.specs.declared.Exit.TheVariants.{Bad}
use Rattle.dia_io.specs.declared.Inputs.{Inputs}
use Rattle.dia_run.specs.Outcome.{IsOutcome}
use Rattle.dia_report.specs.declared.reporting.Reported.{Reported}
use Rattle.dia_cli.specs.Ending.{Stream}
use Rattle.dia_cli.specs.declared.ending.Ending.{Ending}
use Rattle.dia_cli.specs.declared.origin.Origin.{Origin}
use Rattle.dia_cli.specs.declared.origin.Origin.TheVariants.{Nowhere}
use Rattle.dia_cli.specs.declared.origin.Origins.{Origins}
use Rattle.dia_cli.specs.declared.task.Task.{Task}
use Rattle.dia_cli.specs.declared.task.Task.TheVariants as task
use Rattle.dia_driver.specs.Endings.{Runs}
use Rattle.dia_driver.specs.Tasks.{World}

-- `show` without a table of words
abbrev pub show_without : Origin → Option Command
show_without Nowhere = Some Show
show_without table = None

-- the command that a task asks for as text
abbrev pub text_command : Command → Origin → Option Command
text_command Show table = show_without table
text_command command table = Some command

abbrev pub first_command : Task → Bool → Origin → Option Command
first_command (task.Whole command) false table = text_command command table
first_command t json table = None

-- another program has the task: nothing is written, and the status is 2
abbrev pub IsElsewhere : List ℕ → Exit → Type 0
IsElsewhere text exit = (text ≡ []) × (exit ≡ Bad)

abbrev pub IsFirst : Option Command → Inputs → List ℕ → Exit → Type 0
IsFirst (Some command) inputs text exit = IsOutcome command inputs text exit
IsFirst None inputs text exit = IsElsewhere text exit

abbrev pub FirstRuns : Task → Bool → World → Origins → Inputs → Stream → Result Reported Ending → Type 0
FirstRuns t json w origins inputs out ended = Runs (IsFirst (first_command t json origins.table) inputs) out ended
