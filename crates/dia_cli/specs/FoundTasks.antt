-- What is found of a task on the command line, and the arguments that a command has.
use Rattle.std.specs.Prelude.{◌≡◌, ◌&&◌, ⊤, Bool, true, false, if◌then◌else◌, List, [], map, Some, None, codes, is_some, string_bytes, unwrap_or}
use Rattle.std.specs.Str.{bytes_eq}
use Rattle.clap.specs.Walk.{Row, Text, all_of, first_of}
use Rattle.dia_io.specs.declared.Command.TheVariants as command
use Rattle.dia_cli.specs.declared.task.Answering.{Answering}
use Rattle.dia_cli.specs.declared.task.Task.{Task}
use Rattle.dia_cli.specs.declared.task.Task.TheVariants.{Whole, Make, ShowText, ShowNamed, ShowLines, Breaking, CheckLines, RefuteLines, CheckStream, CheckAll, Answer, AnswerLines, Follow, Mask, Uses, Diff, Lint, Examples}
use Rattle.dia_terms.specs.declared.Levels.{Levels}
use Rattle.dia_terms.specs.declared.Unknown.{Unknown}
use Rattle.dia_cli.specs.InputWords.{InputTexts, one_text, pair_texts}
use Rattle.dia_cli.specs.Words.{AreJudged, IsFlag, IsPolicy, apart_in, has_pair, has_policy, has_word, is_flag, is_given, is_judged, is_sender, masked_apart_in, sends_word}

-- the name of the command of a task
abbrev pub task_name : Task → Text
task_name (Whole command.Show) = codes "show"
task_name ShowText = codes "show"
task_name ShowNamed = codes "show"
task_name (ShowLines names) = codes "show"
task_name Make = codes "make"
task_name (Whole command.Render) = codes "render"
task_name (Whole (command.Check unknown levels)) = codes "check"
task_name (CheckLines unknown levels) = codes "check"
task_name (CheckStream unknown levels) = codes "check"
task_name (Whole (command.Compare unknown)) = codes "compare"
task_name (Whole (command.Refute unknown levels)) = codes "refute"
task_name (RefuteLines unknown levels) = codes "refute"
task_name (Whole (command.Propose unknown names)) = codes "propose"
task_name (Breaking asked) = codes "breaking"
task_name (CheckAll unknown levels) = codes "check"
task_name (Answer asked) = codes "answer"
task_name (AnswerLines asked) = codes "answer"
task_name (Follow asked) = codes "follow"
task_name (Mask asked) = codes "mask"
task_name (Uses avps) = codes "uses"
task_name (Diff sends unknown) = codes "diff"
task_name (Lint asked) = codes "lint"
task_name (Examples asked) = codes "examples"

-- `check` with `--lines`, `--stream` and `--all`, or without them
abbrev pub IsCheck : (lines stream all : Bool) → Unknown → Levels → List Row → Type 0
IsCheck lines stream all unknown levels rows =
    IsFlag (codes "lines") lines rows × IsFlag (codes "stream") stream rows × AreJudged unknown levels rows × IsFlag (codes "all") all rows

-- `refute` with `--lines`, or without it
abbrev pub IsRefute : Bool → Unknown → Levels → List Row → Type 0
IsRefute lines unknown levels rows = IsFlag (codes "lines") lines rows × AreJudged unknown levels rows

-- `show` with `--as-text`, `--names` and `--lines`, or without them, and with no two options that don't go together
abbrev pub IsShow : Bool → Bool → Bool → List Row → Type 0
IsShow written names lines rows =
    (written ≡ is_given (first_of (codes "as-text") rows)) × (names ≡ is_given (first_of (codes "names") rows))
    × (lines ≡ is_given (first_of (codes "lines") rows)) × (apart_in rows ≡ None)

-- `answer` with `--lines`, or without it
abbrev pub IsAnswering : Bool → Answering → List Row → Type 0
IsAnswering lines asked rows =
    AreJudged asked.unknown asked.levels rows × (first_of (codes "host") rows ≡ Some (string_bytes asked.host))
    × (first_of (codes "realm") rows ≡ Some (string_bytes asked.realm)) × IsFlag (codes "lines") lines rows

-- what was found of a task's options: their first values, and all names of commands
abbrev pub HasOptionsOf : Task → List Row → Type 0
HasOptionsOf (Whole command.Show) rows = IsShow false false false rows
HasOptionsOf ShowText rows = IsShow true false false rows
HasOptionsOf ShowNamed rows = IsShow false true false rows
HasOptionsOf (ShowLines names) rows = IsShow false names true rows
HasOptionsOf Make rows = ⊤
HasOptionsOf (Whole command.Render) rows = ⊤
HasOptionsOf (Whole (command.Check unknown levels)) rows = IsCheck false false false unknown levels rows
HasOptionsOf (CheckLines unknown levels) rows = IsCheck true false false unknown levels rows
HasOptionsOf (CheckStream unknown levels) rows = IsCheck false true false unknown levels rows
HasOptionsOf (CheckAll unknown levels) rows = IsCheck false false true unknown levels rows
HasOptionsOf (Whole (command.Compare unknown)) rows = IsPolicy unknown rows
HasOptionsOf (Whole (command.Refute unknown levels)) rows = IsRefute false unknown levels rows
HasOptionsOf (RefuteLines unknown levels) rows = IsRefute true unknown levels rows
HasOptionsOf (Whole (command.Propose unknown names)) rows =
    IsPolicy unknown rows × (all_of (codes "COMMAND") rows ≡ Some (map string_bytes names.items))
HasOptionsOf (Breaking asked) rows =
    IsPolicy asked.unknown rows × (first_of (codes "sends") rows ≡ Some (sends_word asked.sends)) × IsFlag (codes "messages") asked.messages rows
    × IsFlag (codes "once") asked.once rows × IsFlag (codes "meaning") asked.meaning rows
    × IsFlag (codes "stale-allowed") asked.stale_allowed rows × IsFlag (codes "explain") asked.explain rows
    × (unwrap_or (all_of (codes "COMMAND") rows) [] ≡ map string_bytes asked.names.items)
HasOptionsOf (Answer asked) rows = IsAnswering false asked rows
HasOptionsOf (AnswerLines asked) rows = IsAnswering true asked rows
HasOptionsOf (Follow asked) rows =
    AreJudged asked.unknown asked.levels rows × IsFlag (codes "middle") asked.middle rows × IsFlag (codes "check") asked.check rows
HasOptionsOf (Mask asked) rows =
    (first_of (codes "keep") rows ≡ Some (string_bytes asked.keep)) × (first_of (codes "mask") rows ≡ Some (string_bytes asked.mask))
    × (first_of (codes "only") rows ≡ Some (string_bytes asked.only)) × (masked_apart_in rows ≡ None)
HasOptionsOf (Uses avps) rows = all_of (codes "AVP") rows ≡ Some (map string_bytes avps.items)
HasOptionsOf (Diff sends unknown) rows = IsPolicy unknown rows × (first_of (codes "sends") rows ≡ Some (sends_word sends))
HasOptionsOf (Lint asked) rows =
    IsPolicy asked.unknown rows × (first_of (codes "only") rows ≡ Some (string_bytes asked.only))
    × (first_of (codes "except") rows ≡ Some (string_bytes asked.except))
HasOptionsOf (Examples asked) rows =
    IsPolicy asked.unknown rows × IsFlag (codes "text") asked.text rows
    × (unwrap_or (all_of (codes "COMMAND") rows) [] ≡ map string_bytes asked.names.items)
    × ((asked.text && is_given (first_of (codes "json") rows)) ≡ false)

-- the task that was found: the name of its command, and its options
abbrev pub IsTaskOf : Task → Text × List Row → Type 0
IsTaskOf task found = (found.0 ≡ task_name task) × HasOptionsOf task found.1

-- the arguments that take the words of a task's inputs
abbrev pub arguments_of : Task → InputTexts
arguments_of (Whole command.Show) = record (one_text (codes "dict")) { table = Some (codes "values"); message = Some (codes "MESSAGE") }
arguments_of ShowNamed = record (one_text (codes "dict")) { table = Some (codes "values"); message = Some (codes "MESSAGE") }
arguments_of (ShowLines names) = record (one_text (codes "dict")) { table = Some (codes "values"); messages = Some (codes "MESSAGE") }
arguments_of ShowText = record (one_text (codes "dict")) { message = Some (codes "MESSAGE") }
arguments_of Make = record (one_text (codes "dict")) { table = Some (codes "values"); message = Some (codes "TEXT") }
arguments_of (Whole command.Render) = one_text (codes "D")
arguments_of (Whole (command.Check unknown levels)) = record (one_text (codes "D")) { message = Some (codes "MESSAGE") }
arguments_of (CheckLines unknown levels) = record (one_text (codes "D")) { messages = Some (codes "MESSAGE") }
arguments_of (CheckStream unknown levels) = record (one_text (codes "D")) { messages = Some (codes "MESSAGE") }
arguments_of (CheckAll unknown levels) = record (one_text (codes "D")) { message = Some (codes "MESSAGE") }
arguments_of (Whole (command.Compare unknown)) =
    record (pair_texts (codes "A") (codes "B")) { table = Some (codes "TABLE") }
arguments_of (Whole (command.Refute unknown levels)) =
    record (pair_texts (codes "A") (codes "B")) { message = Some (codes "MESSAGE") }
arguments_of (RefuteLines unknown levels) =
    record (pair_texts (codes "A") (codes "B")) { messages = Some (codes "MESSAGE") }
arguments_of (Whole (command.Propose unknown names)) = pair_texts (codes "A") (codes "B")
arguments_of (Breaking asked) =
    record (pair_texts (codes "A") (codes "B")) { table = Some (codes "accepted") }
arguments_of (Answer asked) = record (one_text (codes "D")) { message = Some (codes "MESSAGE") }
arguments_of (AnswerLines asked) = record (one_text (codes "D")) { messages = Some (codes "MESSAGE") }
arguments_of (Follow asked) = record (one_text (codes "dict")) { messages = Some (codes "CONNECTION") }
arguments_of (Mask asked) = record (one_text (codes "D")) { messages = Some (codes "MESSAGES") }
arguments_of (Uses avps) = one_text (codes "D")
arguments_of (Diff sends unknown) = pair_texts (codes "A") (codes "B")
arguments_of (Lint asked) = record (one_text (codes "D")) { table = Some (codes "accepted") }
arguments_of (Examples asked) = one_text (codes "D")

-- ---- the arguments that a command has

-- the policies of `check`, and its dictionary
abbrev pub has_judged : List Row → Bool
has_judged rows = is_judged rows && has_word (codes "D") rows

abbrev pub has_shown : List Row → Bool
has_shown rows = has_word (codes "dict") rows && (has_word (codes "MESSAGE") rows && has_word (codes "values") rows)

abbrev pub has_made : List Row → Bool
has_made rows = has_word (codes "dict") rows && (has_word (codes "TEXT") rows && has_word (codes "values") rows)

abbrev pub has_checked : List Row → Bool
has_checked rows = is_flag (first_of (codes "lines") rows) && (is_flag (first_of (codes "stream") rows)
    && (is_flag (first_of (codes "all") rows) && (is_flag (first_of (codes "json") rows)
    && (has_judged rows && has_word (codes "MESSAGE") rows))))

abbrev pub has_answered : List Row → Bool
has_answered rows = is_flag (first_of (codes "lines") rows)
    && (has_judged rows && (has_word (codes "MESSAGE") rows && (has_word (codes "host") rows && has_word (codes "realm") rows)))

abbrev pub has_followed : List Row → Bool
has_followed rows = is_judged rows && (is_flag (first_of (codes "middle") rows) && (is_flag (first_of (codes "check") rows)
    && (has_word (codes "dict") rows && has_word (codes "CONNECTION") rows)))

abbrev pub has_compared : List Row → Bool
has_compared rows = has_policy rows && (has_pair rows && has_word (codes "TABLE") rows)

abbrev pub has_refuted : List Row → Bool
has_refuted rows = is_judged rows && (has_pair rows
    && (is_flag (first_of (codes "lines") rows) && has_word (codes "MESSAGE") rows))

abbrev pub has_proposed : List Row → Bool
has_proposed rows = has_policy rows && (has_pair rows && is_some (all_of (codes "COMMAND") rows))

-- `--messages`, `--once`, `--meaning`, `--stale-allowed` and `--explain`, given or not
abbrev pub has_flags : List Row → Bool
has_flags rows = is_flag (first_of (codes "messages") rows)
    && (is_flag (first_of (codes "once") rows) && (is_flag (first_of (codes "meaning") rows) && (is_flag (first_of (codes "stale-allowed") rows)
    && is_flag (first_of (codes "explain") rows))))

abbrev pub has_listed : List Row → Bool
has_listed rows = has_policy rows && (has_pair rows
    && (is_sender (first_of (codes "sends") rows) && (has_flags rows && has_word (codes "accepted") rows)))

abbrev pub has_masked : List Row → Bool
has_masked rows = has_word (codes "D") rows && (has_word (codes "MESSAGES") rows && (has_word (codes "keep") rows
    && (has_word (codes "mask") rows && has_word (codes "only") rows)))

abbrev pub has_used : List Row → Bool
has_used rows = has_word (codes "D") rows && is_some (all_of (codes "AVP") rows)

abbrev pub has_differed : List Row → Bool
has_differed rows = has_policy rows && (has_pair rows && is_sender (first_of (codes "sends") rows))

abbrev pub has_linted : List Row → Bool
has_linted rows = has_policy rows && (has_word (codes "D") rows && (has_word (codes "accepted") rows
    && (has_word (codes "only") rows && has_word (codes "except") rows)))

abbrev pub has_sampled : List Row → Bool
has_sampled rows = has_policy rows && (has_word (codes "D") rows && is_flag (first_of (codes "text") rows))

-- the arguments that the subcommand of this name has
abbrev pub has_arguments : Text → List Row → Bool
has_arguments name rows =
    if bytes_eq name (codes "show") then has_shown rows
    else (if bytes_eq name (codes "make") then has_made rows
    else (if bytes_eq name (codes "check") then has_checked rows
    else (if bytes_eq name (codes "render") then has_word (codes "D") rows
    else (if bytes_eq name (codes "compare") then has_compared rows
    else (if bytes_eq name (codes "refute") then has_refuted rows
    else (if bytes_eq name (codes "propose") then has_proposed rows
    else (if bytes_eq name (codes "breaking") then has_listed rows
    else (if bytes_eq name (codes "answer") then has_answered rows
    else (if bytes_eq name (codes "follow") then has_followed rows
    else (if bytes_eq name (codes "mask") then has_masked rows
    else (if bytes_eq name (codes "uses") then has_used rows
    else (if bytes_eq name (codes "diff") then has_differed rows
    else (if bytes_eq name (codes "lint") then has_linted rows
    else (if bytes_eq name (codes "examples") then has_sampled rows
    else false))))))))))))))
