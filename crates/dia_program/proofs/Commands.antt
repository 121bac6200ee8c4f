-- Commands as text.
use Rattle.std.proofs.Common.{◌≢◌, refl}
use Rattle.dia_io.specs.declared.Command.{Command}
use Rattle.dia_io.specs.declared.Command.TheVariants.{Show, Render, Check, Compare, Refute, Propose}
use Rattle.dia_io.specs.declared.Inputs.{Inputs}
use Rattle.dia_cli.specs.declared.origin.Origin.{Origin}
use Rattle.dia_make.specs.Outcome.{IsMade}
use Rattle.dia_run.specs.Outcome.{IsOutcome}
use Rattle.dia_driver.specs.Endings.{Runs}
use Rattle.dia_program.specs.Answers.{IsText, IsShow, IsMadeBy}
use Rattle.dia_cli.specs.declared.origin.Origin.TheVariants.{Nowhere, Base, Empty, StandardInput, File}
use Rattle.dia_show.specs.Outcome.{IsNamedOutcome}
use Rattle.dia_cli.specs.Ending.{Stream}
use Rattle.std.specs.Prelude.{Result, true, false}
use Rattle.dia_report.specs.declared.reporting.Reported.{Reported}
use Rattle.dia_cli.specs.declared.ending.Ending.{Ending}

-- a table changes `show` alone
abbrev pub text_is_outcome : (table : Origin) (command : Command) (inputs : Inputs) (out : Stream) (ended : Result Reported Ending) → command ≢ Show
    → Runs (IsOutcome command inputs) out ended → Runs (IsText table command inputs) out ended
text_is_outcome table Show inputs out ended other runs = absurd (other refl)
text_is_outcome table Render inputs out ended other runs = runs
text_is_outcome table (Check u most) inputs out ended other runs = runs
text_is_outcome table (Compare u) inputs out ended other runs = runs
text_is_outcome table (Refute u most) inputs out ended other runs = runs
text_is_outcome table (Propose u names) inputs out ended other runs = runs

-- where a table is named, it has words of values
abbrev pub show_with_words : (table : Origin) (inputs : Inputs) (out : Stream) (ended : Result Reported Ending) → table ≢ Nowhere
    → Runs (IsNamedOutcome false inputs) out ended → Runs (IsShow table inputs) out ended
show_with_words Nowhere inputs out ended other runs = absurd (other refl)
show_with_words Base inputs out ended other runs = runs
show_with_words Empty inputs out ended other runs = runs
show_with_words (StandardInput limit) inputs out ended other runs = runs
show_with_words (File path limit) inputs out ended other runs = runs

-- the same for `make`
abbrev pub make_with_words : (table : Origin) (inputs : Inputs) (out : Stream) (ended : Result Reported Ending) → table ≢ Nowhere
    → Runs (IsMade true inputs) out ended → Runs (IsMadeBy table inputs) out ended
make_with_words Nowhere inputs out ended other runs = absurd (other refl)
make_with_words Base inputs out ended other runs = runs
make_with_words Empty inputs out ended other runs = runs
make_with_words (StandardInput limit) inputs out ended other runs = runs
make_with_words (File path limit) inputs out ended other runs = runs
