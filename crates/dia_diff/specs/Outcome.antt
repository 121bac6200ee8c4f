-- What is written of the differences of two dictionaries, and how the command ends.
use Rattle.std.specs.Prelude.{◌≡◌, ℕ, Bool, true, false, List, codes}
use Rattle.dia_io.specs.declared.Exit.{Exit}
use Rattle.dia_io.specs.declared.Exit.TheVariants as exits
use Rattle.dia_io.specs.declared.Inputs.{Inputs}
use Rattle.dia_dict.specs.Dictionary.{Dictionary}
use Rattle.dia_terms.specs.declared.Sends.{Sends}
use Rattle.dia_terms.specs.declared.Unknown.{Unknown}
use Rattle.dia_report.specs.declared.bad_input.BadInput.{BadInput}
use Rattle.dia_report.specs.Refusals.{bad_input_text}
use Rattle.dia_run.specs.RefusedDictionaries.{RefusesFirst, RefusesSecond}
use Rattle.dia_run.specs.Texts.{line, IsDictionaryText}
use Rattle.dia_refused_json.specs.Recording.{refused_text}
use Rattle.dia_differences.specs.declared.lines.Line.{Line}
use Rattle.dia_differences.specs.Same.{IsSameDictionary}
use Rattle.dia_differences.specs.Lines.{AreDifferences}
use Rattle.dia_diff_text.specs.Lines.{AreTexts}
use Rattle.dia_diff.specs.Marks.{whats}
use Rattle.dia_diff.specs.MarkedLines.{AreMarkedLines}

-- the line where nothing differs
abbrev pub same_text : Bool → List ℕ
same_text true = line (codes "{\"verdict\":\"same\"}")
same_text false = line (codes "same")

-- a line for each difference, in their order, with its marks
abbrev pub AreLines : Dictionary → Dictionary → Sends → Unknown → Bool → List ℕ → Type 0
AreLines a b sends unknown json text = (lines : List Line) × AreDifferences a b (whats lines) × AreMarkedLines a b sends unknown lines × AreTexts json a b lines text

-- the line where both dictionaries mean the same, and otherwise lines
abbrev pub IsDiffText : Dictionary → Dictionary → Sends → Unknown → Bool → Exit → List ℕ → Type 0
IsDiffText a b sends unknown json exits.Yes text = IsSameDictionary a b × (text ≡ same_text json)
IsDiffText a b sends unknown json exits.No text = (¬ IsSameDictionary a b) × AreLines a b sends unknown json text
IsDiffText a b sends unknown json exits.Bad text = ⊥

-- the dictionaries are read and answered, or one is refused
pub data IsDiffOutcome (sends : Sends) (unknown : Unknown) (json : Bool) (inputs : Inputs) (text : List ℕ) (exit : Exit) : Type 0 where
  answered : (a b : Dictionary) → IsDictionaryText inputs.first a → IsDictionaryText inputs.second b → IsDiffText a b sends unknown json exit text
      → IsDiffOutcome sends unknown json inputs text exit
  no_first : (bad : BadInput) → RefusesFirst inputs (bad_input_text bad) → text ≡ refused_text json inputs.first bad → exit ≡ exits.Bad
      → IsDiffOutcome sends unknown json inputs text exit
  no_second : (bad : BadInput) → RefusesSecond inputs (bad_input_text bad) → text ≡ refused_text json inputs.second bad → exit ≡ exits.Bad
      → IsDiffOutcome sends unknown json inputs text exit
