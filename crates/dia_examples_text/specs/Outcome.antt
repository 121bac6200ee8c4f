-- What `examples` writes, and how it ends.
use Rattle.std.specs.Prelude.{◌≡◌, ◌≢◌, ◌⊎◌, ℕ, List, ◌++◌, Option, Some, None, codes}
use Rattle.std.specs.Io.KnownBytes.{Appends}
use Rattle.json.specs.Print.{quoted}
use Rattle.dia_io.specs.declared.Exit.{Exit}
use Rattle.dia_io.specs.declared.Exit.TheVariants.{Bad}
use Rattle.dia_io.specs.declared.Input.{Input}
use Rattle.dia_io.specs.declared.Inputs.{Inputs}
use Rattle.dia_io.specs.Writing.{AppendsFront}
use Rattle.dia_terms.specs.declared.Unknown.{Unknown}
use Rattle.dia_dict.specs.Dictionary.{Dictionary}
use Rattle.dia_report.specs.declared.bad_input.BadInput.{BadInput}
use Rattle.dia_report.specs.Refusals.{bad_input_text}
use Rattle.dia_run.specs.RefusedDictionaries.{RefusesFirst}
use Rattle.dia_run.specs.Texts.{line, IsDictionaryText}
use Rattle.dia_refused_json.specs.Refusals.{bad_input_json}
use Rattle.dia_examples_text.specs.declared.forms.Form.{Form}
use Rattle.dia_examples_text.specs.declared.forms.Form.TheVariants.{Columns, Text, Json}
use Rattle.dia_examples_text.specs.Vectors.{AreVectors}

-- the line where the dictionary has no command, or none of a name
abbrev pub no_command_text : Form → Option (List ℕ) → List ℕ
no_command_text Json None = line (codes "{\"error\":\"examples\",\"kind\":\"no command\"}")
no_command_text Json (Some name) = line (codes "{\"error\":\"examples\",\"kind\":\"no command\",\"name\":" ++ quoted name ++ codes "}")
no_command_text form None = line (codes "examples: no command")
no_command_text form (Some name) = line (codes "examples: no command " ++ name)

-- the line of a dictionary that is refused
abbrev pub refused_text : Form → Input → BadInput → List ℕ
refused_text Json input bad = bad_input_json input bad
refused_text form input bad = line (bad_input_text bad)

-- what is written by a dictionary: vectors, or why there are none
pub data IsExamplesText (form : Form) (u : Unknown) (d : Dictionary) (text : List ℕ) (exit : Exit) : Type 0 where
  vectors : AreVectors form d u text → exit ≢ Bad → IsExamplesText form u d text exit
  no_command : (name : Option (List ℕ)) → text ≡ no_command_text form name → exit ≡ Bad → IsExamplesText form u d text exit

-- the dictionary is read and answered, or it is refused
pub data IsExamplesOutcome (form : Form) (u : Unknown) (inputs : Inputs) (text : List ℕ) (exit : Exit) : Type 0 where
  answered : (d : Dictionary) → IsDictionaryText inputs.first d → IsExamplesText form u d text exit → IsExamplesOutcome form u inputs text exit
  refused : (bad : BadInput) → RefusesFirst inputs (bad_input_text bad) → text ≡ refused_text form inputs.first bad → exit ≡ Bad
      → IsExamplesOutcome form u inputs text exit

-- a text of which P holds was written
abbrev pub Puts : (List ℕ → Exit → Type 0) → Option (List ℕ) → Option (List ℕ) → Exit → Type 0
Puts P old new exit = (text : List ℕ) × P text exit × Appends old new text

-- nothing was written, or a prefix of such a text
abbrev pub Begun : (List ℕ → Exit → Type 0) → Option (List ℕ) → Option (List ℕ) → Type 0
Begun P old new = (new ≡ old) ⊎ ((text : List ℕ) × (exit : Exit) × P text exit × AppendsFront old new text)
