-- What is written of the requests that `answer --lines` answers, and how it ends.
use Rattle.std.specs.Prelude.{ℕ, List, Option, Result, string_bytes}
use Rattle.dia_io.specs.declared.Exit.{Exit}
use Rattle.dia_io.specs.declared.Inputs.{Inputs}
use Rattle.dia_answer.specs.Lines.{replies}
use Rattle.dia_captures.specs.Lines.{AreLinesAnswered, IsFrontPut, MessageCommand}
use Rattle.dia_report.specs.declared.reporting.Reported.{Reported}
use Rattle.dia_cli.specs.Ending.{Stream}
use Rattle.dia_cli.specs.declared.ending.Ending.{Ending}
use Rattle.dia_cli.specs.declared.task.Answering.{Answering}
use Rattle.dia_program.specs.Answers.{AreNames, IsNoName}
use Rattle.dia_program.specs.Captures.{Ends, Fed, IsReadOut}
use Rattle.dia_driver.specs.Endings.{Runs}

-- the lines of the words' node
abbrev pub replies_by : Answering → MessageCommand
replies_by asked = replies (string_bytes asked.host) (string_bytes asked.realm) asked.unknown asked.levels

-- the line of each request was put, and they were read to the end unless the dictionary is refused
abbrev pub AreReplied : Answering → Inputs → Fed → Stream → Exit → Type 0
AreReplied asked inputs feed out exit =
    AreLinesAnswered (replies_by asked) inputs feed.old feed.new out.old out.new exit × IsReadOut feed exit

-- a prefix of it was put
abbrev pub AreRepliesBegun : Answering → Inputs → Fed → Stream → Type 0
AreRepliesBegun asked inputs feed out = IsFrontPut (replies_by asked) inputs feed.old feed.new out.old out.new

-- `answer --lines`: the lines of all requests, or a name of the node is refused, and nothing is read
pub data Replies (asked : Answering) (inputs : Inputs) (known : Option (List ℕ)) (word : List ℕ) (out : Stream) (ended : Result Reported Ending) : Type 0 where
  named : AreNames asked → Ends (AreReplied asked inputs) (AreRepliesBegun asked inputs) known word out ended → Replies asked inputs known word out ended
  unnamed : Runs (IsNoName asked) out ended → Replies asked inputs known word out ended
