-- `check` and `refute` of a text that has a message a line.
use Rattle.std.specs.Prelude.{◌≡◌, ℕ, ◌⊎◌, List, [], Option, map, if◌then◌else◌}
use Rattle.std.specs.List.{flat_map}
use Rattle.std.specs.Io.KnownBytes.{Appends, Consumes}
use Rattle.dia_terms.specs.declared.Unknown.{Unknown}
use Rattle.dia_terms.specs.declared.Levels.{Levels}
use Rattle.dia_io.specs.declared.Input.{Input}
use Rattle.dia_io.specs.declared.Inputs.{Inputs}
use Rattle.dia_io.specs.declared.Exit.{Exit}
use Rattle.dia_io.specs.declared.Exit.TheVariants.{Yes, No}
use Rattle.dia_io.specs.Writing.{AppendsFront}
use Rattle.dia_streams.specs.Lines.{IsAnswered}
use Rattle.dia_streams.specs.FeedToSink.{FrontAnswered}
use Rattle.dia_run.specs.Texts.{line}
use Rattle.dia_run.specs.Outcome.{IsCheckOutcome, IsRefuteOutcome, Refuses}
use Rattle.dia_run.specs.RefusedDictionaries.{RefusesFirst, RefusesSecond}
use Rattle.dia_captures.specs.declared.ended.Ended.{Ended}
use Rattle.dia_captures.specs.Ending.{ended_of}

-- a command of one message: what it writes for its inputs and how it ends, what is reported of dictionaries that are refused, and how
-- the program ends for many messages
pub record MessageCommand : Type 1 where
  pub outcome : Inputs → List ℕ → Exit → Type 0
  pub refuses : Inputs → List ℕ → Type 0
  pub exit_of : Ended → Exit

-- `check`: yes where each message is valid
abbrev pub checks : Unknown → Levels → MessageCommand
checks u most = record {
  outcome = IsCheckOutcome u most;
  refuses = RefusesFirst;
  exit_of = λ ended. if ended.each then Yes else No;
}

-- `refute`: yes where some message refutes
abbrev pub refutations : Unknown → Levels → MessageCommand
refutations u most = record {
  outcome = IsRefuteOutcome u most;
  refuses = λ inputs recorded. RefusesFirst inputs recorded ⊎ RefusesSecond inputs recorded;
  exit_of = λ ended. if ended.some then Yes else No;
}

-- what a command writes for one message, and how it ends
abbrev pub Answer : Type 0
Answer = List ℕ × Exit

abbrev pub text_of : Answer → List ℕ
text_of answer = answer.0

-- the command's answer to these inputs with the line as the message
abbrev pub OfLine : MessageCommand → Inputs → Input → Answer → Type 0
OfLine command inputs message answer =
    command.outcome (record { first = inputs.first; second = inputs.second; table = inputs.table; message = message }) answer.0 answer.1

-- the text for the lines of these bytes, and how the program ends: the text of each line in order, or one line of a dictionary
-- that is refused
pub data IsLinesOutcome (command : MessageCommand) (inputs : Inputs) (bytes text : List ℕ) (exit : Exit) : Type 0 where
  answered : (answers : List Answer) → ((recorded : List ℕ) → ¬ command.refuses inputs recorded)
      → IsAnswered (OfLine command inputs) bytes answers → text ≡ flat_map text_of answers
      → exit ≡ command.exit_of (ended_of (map (λ (a : Answer). a.1) answers)) → IsLinesOutcome command inputs bytes text exit
  refused : (recorded : List ℕ) → command.refuses inputs recorded → Refuses recorded text exit → IsLinesOutcome command inputs bytes text exit

-- these bytes were read, and the text for their lines was put
pub record AreLinesAnswered (command : MessageCommand) (inputs : Inputs) (fed_old fed put_old put : Option (List ℕ)) (exit : Exit) : Type 0 where
  pub bytes : List ℕ
  pub text : List ℕ
  pub consumed : Consumes fed_old fed bytes
  pub outcome : IsLinesOutcome command inputs bytes text exit
  pub is_put : Appends put_old put text

-- a beginning of the text was put
abbrev pub IsFrontPut : MessageCommand → Inputs → (fed_old fed put_old put : Option (List ℕ)) → Type 0
IsFrontPut command inputs fed_old fed put_old put = FrontAnswered (OfLine command inputs) (flat_map text_of) fed_old fed put_old put
    ⊎ ((recorded : List ℕ) × command.refuses inputs recorded × Consumes fed_old fed [] × AppendsFront put_old put (line recorded))
