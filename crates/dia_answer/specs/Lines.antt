-- `answer` of a text that has a request a line: what it writes, how it ends, and its summary.
use Rattle.std.specs.Prelude.{◌≡◌, ℕ, ◌⊎◌, List, ◌++◌, length, map, Option, codes, string_bytes}
use Rattle.std.specs.Fmt.{decimal}
use Rattle.std.specs.List.{count_by, flat_map}
use Rattle.std.specs.Io.KnownBytes.{Appends, Consumes}
use Rattle.dia_io.specs.declared.Exit.{Exit}
use Rattle.dia_io.specs.declared.Input.{Input}
use Rattle.dia_io.specs.declared.Inputs.{Inputs}
use Rattle.dia_dict.specs.Dictionary.{Dictionary}
use Rattle.dia_terms.specs.declared.Unknown.{Unknown}
use Rattle.dia_terms.specs.declared.Levels.{Levels}
use Rattle.dia_streams.specs.Lines.{IsAnswered}
use Rattle.dia_run.specs.declared.commands.Outcome.{Outcome}
use Rattle.dia_run.specs.Outcome.{IsMessageOutcome, Refuses}
use Rattle.dia_run.specs.RefusedDictionaries.{RefusesFirst}
use Rattle.dia_run.specs.Texts.{IsMessageText, IsNoMessageText}
use Rattle.dia_captures.specs.Counts.{counted}
use Rattle.dia_captures.specs.Ending.{ended_of, is_yes}
use Rattle.dia_captures.specs.Lines.{Answer, MessageCommand, OfLine, text_of}
use Rattle.dia_captures.specs.Runs.{each_exit}
use Rattle.dia_answer.specs.declared.lines.Replies.{Replies}
use Rattle.dia_answer.specs.Outcome.{IsAnswerText}

-- the answer to the request that an input spells, or why it is no message
abbrev pub IsLineAnswered : (host realm : List ℕ) → Unknown → Levels → Dictionary → Input → Answer → Type 0
IsLineAnswered host realm u most d message answer = ((bytes : List ℕ) × IsMessageText message bytes × IsAnswerText host realm u most d bytes answer.0 answer.1)
    ⊎ ((recorded : List ℕ) × IsNoMessageText message recorded × Refuses recorded answer.0 answer.1)

-- `answer` by a node with this Origin-Host and Origin-Realm: yes where each line has an answer
abbrev pub replies : (host realm : List ℕ) → Unknown → Levels → MessageCommand
replies host realm u most = record { outcome = IsMessageOutcome (IsAnswerText host realm u most); refuses = RefusesFirst; exit_of = each_exit }

-- ---- the summary

-- how many lines of all have an answer
abbrev pub replies_line : (those all : ℕ) → List ℕ
replies_line those all = decimal those ++ codes " of " ++ decimal all ++ codes " lines have an answer\n"

-- the verdicts on the lines that were read, whose text was put, counted. P says which verdict a line has
pub record AreLinesCounted {V : Type 0} (P : Input → V → Type 0) (recorded : List V → List ℕ) (exit_of : V → Exit)
    (fed_old fed put_old put : Option (List ℕ)) (text : List ℕ) : Type 0 where
  pub bytes : List ℕ
  pub verdicts : List V
  pub consumed : Consumes fed_old fed bytes
  pub answered : IsAnswered P bytes verdicts
  pub is_put : Appends put_old put (recorded verdicts)
  pub summary : text ≡ replies_line (counted (count_by is_yes (map exit_of verdicts))) (counted (length verdicts))

abbrev pub IsReplySummary : (host realm : List ℕ) → Unknown → Levels → Inputs → (fed_old fed put_old put : Option (List ℕ)) → List ℕ → Type 0
IsReplySummary host realm u most inputs fed_old fed put_old put text =
    AreLinesCounted (OfLine (replies host realm u most) inputs) (flat_map text_of) (λ (a : Answer). a.1) fed_old fed put_old put text

-- ---- lines that were seen

abbrev pub answer_of : Outcome → Answer
answer_of outcome = (string_bytes outcome.text, outcome.exit)

abbrev pub exit_of : Outcome → Exit
exit_of outcome = outcome.exit

pub record HasSeen (replies : Replies) (outcomes : List Outcome) : Type 0 where
  pub ended : replies.ended ≡ ended_of (map exit_of outcomes)
  pub all : replies.all ≡ counted (length outcomes)
  pub made : replies.made ≡ counted (count_by is_yes (map exit_of outcomes))
