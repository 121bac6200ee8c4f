-- What is written for `examples`, and how it ends.
use Rattle.std.specs.Prelude.{IsTrue, Bool, true, false, Result, Ok, Err, codes}
use Rattle.dia_io.specs.declared.Inputs.{Inputs}
use Rattle.dia_terms.specs.declared.Unknown.{Unknown}
use Rattle.dia_report.specs.declared.reporting.Reported.{Reported}
use Rattle.dia_cli.specs.Ending.{Stream}
use Rattle.dia_cli.specs.declared.ending.Ending.{Ending}
use Rattle.dia_examples_text.specs.declared.forms.Form.{Form}
use Rattle.dia_examples_text.specs.declared.forms.Form.TheVariants.{Columns, Text, Json}
use Rattle.dia_examples_text.specs.Outcome.{Begun, IsExamplesOutcome, Puts}
use Rattle.dia_program.specs.Captures.{IsFailure}

-- as texts, with `--text`; or else as JSON, with `--json`
abbrev pub form_of : Bool → Bool → Form
form_of true json = Text
form_of false true = Json
form_of false false = Columns

-- vectors, or why there are none, were written; or a prefix of that, where standard output failed or memory was refused
abbrev pub Samples : Form → Unknown → Inputs → Stream → Result Reported Ending → Type 0
Samples form u inputs out (Ok reported) = (¬ IsTrue out.failed) × Puts (IsExamplesOutcome form u inputs) out.old out.new reported.exit
Samples form u inputs out (Err made) = IsFailure (codes "standard output") out.failed made × Begun (IsExamplesOutcome form u inputs) out.old out.new
