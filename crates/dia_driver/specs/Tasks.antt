-- What a task is answered by, and what for.
use Rattle.std.specs.Prelude.{◌≡◌, ℕ, Bool, List, Option, Result, Ok, Err, codes}
use Rattle.dia_io.specs.declared.Exit.{Exit}
use Rattle.dia_io.specs.declared.Inputs.{Inputs}
use Rattle.dia_report.specs.declared.reporting.Reported.{Reported}
use Rattle.dia_cli.specs.Ending.{Stream}
use Rattle.dia_cli.specs.declared.ending.Ending.{Ending}
use Rattle.dia_cli.specs.declared.origin.Origin.{Origin}
use Rattle.dia_cli.specs.declared.origin.Origin.TheVariants.{Nowhere, Base, Empty, File, StandardInput}
use Rattle.dia_cli.specs.declared.origin.Origins.{Origins}
use Rattle.dia_cli.specs.declared.task.Task.{Task}

-- what files by their names and standard input hold, where that is known
pub record World : Type 0 where
  pub content : List ℕ → Option (List ℕ)
  pub standard : Option (List ℕ)

abbrev pub world : (List ℕ → Option (List ℕ)) → Option (List ℕ) → World
world content standard = record { content = content; standard = standard }

-- the word that names an input
abbrev pub word_of : Origin → List ℕ
word_of Nowhere = codes ""
word_of Base = codes "@base"
word_of Empty = codes "@none"
word_of (StandardInput limit) = codes "-"
word_of (File path limit) = path.now

-- the end of a task: that of its answer
abbrev pub TaskEnds : (answers : Task → Bool → World → Origins → Inputs → Stream → Result Reported Ending → Type 0)
    → Task → Bool → World → Origins → Inputs → Stream → Result Exit Ending → Type 0
TaskEnds answers t json w origins inputs out (Ok exit) =
    (reported : Reported) × (reported.exit ≡ exit) × answers t json w origins inputs out (Ok reported)
TaskEnds answers t json w origins inputs out (Err made) = answers t json w origins inputs out (Err made)
