-- What a task writes on standard output, and how it ends.
use Rattle.std.specs.Prelude.{◌≡◌, ℕ, Bool, true, List, Option, Result, map, string_bytes}
use Rattle.dia_io.specs.declared.Inputs.{Inputs}
use Rattle.dia_captures.specs.declared.summaries.Lines.TheVariants.{Checked, Refuted, Placed}
use Rattle.dia_make.specs.Shown.{IsShowTextOutcome}
use Rattle.dia_report.specs.declared.reporting.Reported.{Reported}
use Rattle.dia_cli.specs.Ending.{Stream}
use Rattle.dia_cli.specs.declared.ending.Ending.{Ending}
use Rattle.dia_cli.specs.declared.origin.Origins.{Origins}
use Rattle.dia_cli.specs.declared.task.Task.{Task}
use Rattle.dia_cli.specs.declared.task.Task.TheVariants as task
use Rattle.dia_program.specs.Answers.{IsAllFaults, IsAnswer, IsMadeBy, IsNamed, IsReplied}
use Rattle.dia_program.specs.Breaking.{Breaks}
use Rattle.dia_program.specs.Captures.{Captures, Lists, known_of, messages_word}
use Rattle.dia_program.specs.Connections.{Follows}
use Rattle.dia_program.specs.Lints.{question_of}
use Rattle.dia_program.specs.Masked.{Masks}
use Rattle.dia_program.specs.Replies.{Replies}
use Rattle.dia_program.specs.Samples.{Samples, form_of}
use Rattle.dia_diff.specs.Outcome.{IsDiffOutcome}
use Rattle.dia_lint_text.specs.Outcome.{IsLintOutcome}
use Rattle.dia_uses.specs.Outcome.{IsUsesOutcome}
use Rattle.dia_driver.specs.Endings.{Runs}
use Rattle.dia_driver.specs.Tasks.{World}

abbrev pub messages_of : World → Origins → Option (List ℕ)
messages_of w origins = known_of w.content w.standard origins.messages

-- a task with its options
abbrev pub TaskRuns : Task → Bool → World → Origins → Inputs → Stream → Result Reported Ending → Type 0
TaskRuns (task.Whole command) json w origins inputs out ended = Runs (IsAnswer json origins.table command inputs) out ended
TaskRuns task.Make json w origins inputs out ended = Runs (IsMadeBy origins.table inputs) out ended
TaskRuns task.ShowText json w origins inputs out ended = Runs (IsShowTextOutcome inputs) out ended
TaskRuns task.ShowNamed json w origins inputs out ended = Runs (IsNamed json true inputs) out ended
TaskRuns (task.ShowLines names) json w origins inputs out ended =
    Lists json names inputs (messages_of w origins) (messages_word origins.messages) out ended
TaskRuns (task.Breaking asked) json w origins inputs out ended = Breaks json asked inputs out ended
TaskRuns (task.CheckLines u most) json w origins inputs out ended =
    Captures Checked u most json inputs (messages_of w origins) (messages_word origins.messages) out ended
TaskRuns (task.RefuteLines u most) json w origins inputs out ended =
    Captures Refuted u most json inputs (messages_of w origins) (messages_word origins.messages) out ended
TaskRuns (task.CheckStream u most) json w origins inputs out ended =
    Captures Placed u most json inputs (messages_of w origins) (messages_word origins.messages) out ended
TaskRuns (task.CheckAll u most) json w origins inputs out ended = Runs (IsAllFaults u most inputs) out ended
TaskRuns (task.Answer asked) json w origins inputs out ended = Runs (IsReplied asked inputs) out ended
TaskRuns (task.AnswerLines asked) json w origins inputs out ended =
    Replies asked inputs (messages_of w origins) (messages_word origins.messages) out ended
TaskRuns (task.Follow asked) json w origins inputs out ended =
    Follows asked json inputs (messages_of w origins) (messages_word origins.messages) out ended
TaskRuns (task.Mask asked) json w origins inputs out ended =
    Masks asked inputs (messages_of w origins) (messages_word origins.messages) out ended
TaskRuns (task.Uses avps) json w origins inputs out ended = Runs (IsUsesOutcome json (map string_bytes avps.items) inputs) out ended
TaskRuns (task.Diff sends unknown) json w origins inputs out ended = Runs (IsDiffOutcome sends unknown json inputs) out ended
TaskRuns (task.Lint asked) json w origins inputs out ended = Runs (IsLintOutcome (question_of asked json origins.first) inputs) out ended
TaskRuns (task.Examples asked) json w origins inputs out ended = Samples (form_of asked.text json) asked.unknown inputs out ended
