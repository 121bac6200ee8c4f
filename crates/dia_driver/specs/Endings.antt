-- What a run leaves on standard output, and how it ends.
use Rattle.std.specs.Prelude.{IsTrue, ◌≡◌, ℕ, true, List, Result, Ok, Err, codes, string_bytes}
use Rattle.std.specs.Io.KnownBytes.{Appends}
use Rattle.dia_io.specs.Writing.{AppendsFront}
use Rattle.dia_io.specs.declared.Exit.{Exit}
use Rattle.std.specs.declared.alloc.AllocError.{AllocError}
use Rattle.dia_report.specs.declared.reporting.Answered.{Answered}
use Rattle.dia_report.specs.declared.reporting.Reported.{Reported}
use Rattle.dia_cli.specs.Ending.{Stream}
use Rattle.dia_cli.specs.declared.ending.Ending.{Ending}
use Rattle.dia_cli.specs.declared.ending.Ending.TheVariants as ending

-- a text that is made whole, and how it ends, of which P holds: the text was written
abbrev pub Writes : (List ℕ → Exit → Type 0) → Stream → Exit → Type 0
Writes P out exit = (text : List ℕ) × P text exit × Appends out.old out.new text

-- where standard output failed, it has a prefix of such a text; where memory was refused, nothing was written
abbrev pub Breaks : (List ℕ → Exit → Type 0) → Stream → Ending → Type 0
Breaks P out (ending.Device name error) = (name.now ≡ codes "standard output") × (out.failed ≡ true)
    × ((text : List ℕ) × (exit : Exit) × P text exit × AppendsFront out.old out.new text)
Breaks P out ending.NoMemory = (¬ IsTrue out.failed) × (out.new ≡ out.old)
Breaks P out made = ⊥

-- one or the other
abbrev pub Runs : (List ℕ → Exit → Type 0) → Stream → Result Reported Ending → Type 0
Runs P out (Ok reported) = (¬ IsTrue out.failed) × Writes P out reported.exit
Runs P out (Err made) = Breaks P out made

-- what was answered was written, unless memory was refused before
abbrev pub Puts : Result Answered AllocError → Stream → Result Reported Ending → Type 0
Puts (Ok answered) out ended = Runs (λ text exit. (text ≡ string_bytes answered.text) × (exit ≡ answered.exit)) out ended
Puts (Err refused) out ended = (ended ≡ Err ending.NoMemory) × (¬ IsTrue out.failed) × (out.new ≡ out.old)
