-- What is written for messages whose bytes are known.
use Rattle.std.specs.Prelude.{ℕ, List}
use Rattle.dia_io.specs.declared.Exit.{Exit}
use Rattle.dia_io.specs.declared.Inputs.{Inputs}
use Rattle.dia_terms.specs.declared.Unknown.{Unknown}
use Rattle.dia_terms.specs.declared.Levels.{Levels}
use Rattle.dia_captures.specs.declared.summaries.Lines.{Lines}
use Rattle.dia_captures.specs.declared.summaries.Lines.TheVariants.{Checked, Refuted, Placed}
use Rattle.dia_captures.specs.Lines.{IsLinesOutcome, checks, refutations}
use Rattle.dia_captures.specs.Streams.{IsStreamOutcome}
use Rattle.dia_cli.specs.declared.task.Answering.{Answering}
use Rattle.dia_program.specs.Answers.{AreNames, IsNoName}
use Rattle.dia_program.specs.Replies.{replies_by}

-- the text for all messages of these bytes, and how it ends
abbrev pub IsTextOfAll : Lines → Unknown → Levels → Inputs → List ℕ → List ℕ → Exit → Type 0
IsTextOfAll Checked u most inputs bytes text exit = IsLinesOutcome (checks u most) inputs bytes text exit
IsTextOfAll Refuted u most inputs bytes text exit = IsLinesOutcome (refutations u most) inputs bytes text exit
IsTextOfAll Placed u most inputs bytes text exit = IsStreamOutcome u most inputs bytes text exit

-- the text of `answer --lines` for all requests of these bytes, or a name of the node is refused
pub data AreAllReplied (asked : Answering) (inputs : Inputs) (bytes text : List ℕ) (exit : Exit) : Type 0 where
  named : AreNames asked → IsLinesOutcome (replies_by asked) inputs bytes text exit → AreAllReplied asked inputs bytes text exit
  unnamed : IsNoName asked text exit → AreAllReplied asked inputs bytes text exit
