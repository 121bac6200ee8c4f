-- Why a task fails.
use Rattle.std.proofs.Common.{ℕ, Bool, List}
use Rattle.std.specs.Prelude.{Result, Ok, Err, IfErr}
use Rattle.dia_io.specs.declared.Inputs.{Inputs}
use Rattle.dia_upgrades.specs.declared.asked.Asked.{Asked}
use Rattle.dia_report.specs.declared.reporting.Reported.{Reported}
use Rattle.dia_cli.specs.Ending.{Stream}
use Rattle.dia_cli.specs.declared.ending.Ending.{Ending}
use Rattle.dia_cli.specs.declared.ending.Ending.TheVariants as ending
use Rattle.dia_cli.specs.declared.origin.Origins.{Origins}
use Rattle.dia_cli.specs.declared.task.Task.{Task}
use Rattle.dia_cli.specs.declared.task.Task.TheVariants as task
use Rattle.dia_driver.specs.Program.{IsFailed}
use Rattle.dia_driver.specs.Tasks.{World}
use Rattle.dia_driver.proofs.Failures.{whole_failed}
use Rattle.dia_program.specs.Breaking.{IsPut}
use Rattle.dia_program.specs.Captures.{IsFailure}
use Rattle.dia_program.specs.Replies.{named, unnamed}
use Rattle.dia_program.specs.Tasks.{TaskRuns}

pieces_failed : (word : List ℕ) (failed : Bool) (made : Ending) → IsFailure word failed made → IsFailed made
pieces_failed word failed (ending.Device name error) b = tt
pieces_failed word failed ending.NoMemory b = tt
pieces_failed word failed made b = absurd b

list_failed : (json : Bool) (asked : Asked) (inputs : Inputs) (out : Stream) (made : Ending) → IsPut json asked inputs out (Err made) → IsFailed made
list_failed json asked inputs out (ending.Device name error) b = tt
list_failed json asked inputs out ending.NoMemory b = tt
list_failed json asked inputs out made b = absurd b

task_failed : (t : Task) (json : Bool) (w : World) (origins : Origins) (inputs : Inputs) (out : Stream) (made : Ending)
    → TaskRuns t json w origins inputs out (Err made) → IsFailed made
task_failed (task.Breaking asked) json w origins inputs out made b = list_failed json b.0 inputs out made b.2
task_failed (task.Whole command) json w origins inputs out made b = whole_failed _ out made b
task_failed task.Make json w origins inputs out made b = whole_failed _ out made b
task_failed task.ShowText json w origins inputs out made b = whole_failed _ out made b
task_failed task.ShowNamed json w origins inputs out made b = whole_failed _ out made b
task_failed (task.ShowLines names) json w origins inputs out made b = pieces_failed _ _ made b.0
task_failed (task.CheckLines u most) json w origins inputs out made b = pieces_failed _ _ made b.0
task_failed (task.RefuteLines u most) json w origins inputs out made b = pieces_failed _ _ made b.0
task_failed (task.CheckStream u most) json w origins inputs out made b = pieces_failed _ _ made b.0
task_failed (task.CheckAll u most) json w origins inputs out made b = whole_failed _ out made b
task_failed (task.Answer asked) json w origins inputs out made b = whole_failed _ out made b
task_failed (task.AnswerLines asked) json w origins inputs out made (named names b) = pieces_failed _ _ made b.0
task_failed (task.AnswerLines asked) json w origins inputs out made (unnamed b) = whole_failed _ out made b
task_failed (task.Follow asked) json w origins inputs out made b = pieces_failed _ _ made b.0
task_failed (task.Mask asked) json w origins inputs out made b = pieces_failed _ _ made b.0
task_failed (task.Uses avps) json w origins inputs out made b = whole_failed _ out made b
task_failed (task.Diff sends unknown) json w origins inputs out made b = whole_failed _ out made b
task_failed (task.Lint asked) json w origins inputs out made b = whole_failed _ out made b
task_failed (task.Examples asked) json w origins inputs out made b = pieces_failed _ _ made b.0

-- each task fails where a device does, or where memory is refused
pub task_fails : (t : Task) (json : Bool) (w : World) (origins : Origins) (inputs : Inputs) (out : Stream) (ended : Result Reported Ending)
    → TaskRuns t json w origins inputs out ended → IfErr ended IsFailed
task_fails t json w origins inputs out (Ok reported) runs = tt
task_fails t json w origins inputs out (Err made) runs = task_failed t json w origins inputs out made runs
