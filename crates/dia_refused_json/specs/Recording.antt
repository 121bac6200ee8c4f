-- What is written where a command refuses an input, and how it ends.
use Rattle.std.specs.Prelude.{◌≡◌, ℕ, ◌⊎◌, Bool, true, false, List, string_bytes}
use Rattle.dia_io.specs.declared.Input.{Input}
use Rattle.dia_io.specs.declared.Inputs.{Inputs}
use Rattle.dia_io.specs.declared.Exit.{Exit}
use Rattle.dia_io.specs.declared.Exit.TheVariants.{Bad}
use Rattle.dia_report.specs.declared.bad_input.BadInput.{BadInput}
use Rattle.dia_report.specs.declared.refusing.Refused.{Refused as AnyRefusal}
use Rattle.dia_report.specs.declared.refusing.Refused.TheVariants as refused
use Rattle.dia_report.specs.declared.reporting.Answered.{Answered}
use Rattle.dia_report.specs.declared.reporting.Report.{Report}
use Rattle.dia_report.specs.declared.reporting.Report.TheVariants.{Refused}
use Rattle.dia_report.specs.Refusals.{bad_input_text}
use Rattle.dia_run.specs.RefusedDictionaries.{RefusesFirst, RefusesSecond}
use Rattle.dia_run.specs.Texts.{line}
use Rattle.dia_refused_json.specs.Refusals.{IsFoundIn, bad_input_json}

-- the line of an input that is refused. Where memory was refused there is none
abbrev pub RecordsBad : Input → AnyRefusal → List ℕ → Exit → Type 0
RecordsBad input (refused.Bad bad) text exit = (text ≡ bad_input_json input bad) × (exit ≡ Bad)
RecordsBad input refused.NoMemory text exit = ⊥

-- the line of an input that is refused: as JSON, if that is asked for
abbrev pub refused_text : Bool → Input → BadInput → List ℕ
refused_text true input bad = bad_input_json input bad
refused_text false input bad = line (bad_input_text bad)

-- an input is refused, of which the command reports this as text
abbrev pub IsRefusal : (List ℕ → Type 0) → Input → List ℕ → Exit → Type 0
IsRefusal refuses input text exit = (bad : BadInput) × refuses (bad_input_text bad) × (text ≡ bad_input_json input bad) × (exit ≡ Bad)

-- a dictionary is refused, for what was found of it
abbrev pub IsDictionaryRefusal : (List ℕ → Type 0) → Input → List ℕ → Exit → Type 0
IsDictionaryRefusal refuses input text exit =
    (bad : BadInput) × IsFoundIn input bad × refuses (bad_input_text bad) × (text ≡ bad_input_json input bad) × (exit ≡ Bad)

-- the only dictionary is refused, or one of two
abbrev pub RefusedDictionary : Inputs → List ℕ → Exit → Type 0
RefusedDictionary inputs text exit = IsDictionaryRefusal (RefusesFirst inputs) inputs.first text exit

abbrev pub RefusedDictionaries : Inputs → List ℕ → Exit → Type 0
RefusedDictionaries inputs text exit = RefusedDictionary inputs text exit ⊎ IsDictionaryRefusal (RefusesSecond inputs) inputs.second text exit

-- the command refuses an input, and reports this as text
abbrev pub RefusesAs : (List ℕ → Exit → Type 0) → List ℕ → Type 0
RefusesAs outcome recorded = outcome (line recorded) Bad

-- the report has the input that is refused, of which this is the object; or it is another, of which P holds
abbrev pub IsRefusedOr : (Report → List ℕ → Exit → Type 0) → Report → List ℕ → Exit → Type 0
IsRefusedOr P (Refused bad) text exit = (input : Input) × (text ≡ bad_input_json input bad) × (exit ≡ Bad)
IsRefusedOr P report text exit = P report text exit

abbrev pub HasReport : (Report → List ℕ → Exit → Type 0) → Answered → Type 0
HasReport P answered = IsRefusedOr P answered.report (string_bytes answered.text) answered.exit
