-- A report has what is written, and how the command ends.
use Rattle.std.specs.Prelude.{◌≡◌, ℕ, List, string_bytes, ⊤}
use Rattle.dia_io.specs.declared.Exit.{Exit}
use Rattle.dia_io.specs.declared.Exit.TheVariants.{Yes, No}
use Rattle.dia_io.specs.declared.Inputs.{Inputs}
use Rattle.dia_dict.specs.Dictionary.{Dictionary as AnyDictionary}
use Rattle.dia_dict.specs.declared.IndexedBook.{IndexedBook}
use Rattle.dia_report.specs.Refusals.{bad_input_text}
use Rattle.dia_run.specs.Listing.{bad_length_line}
use Rattle.dia_run.specs.Outcome.{Refuses}
use Rattle.dia_run.specs.Report.{IsReadFrom}
use Rattle.dia_make.specs.declared.reporting.Answered.{Answered}
use Rattle.dia_make.specs.declared.reporting.Report.{Report}
use Rattle.dia_make.specs.declared.reporting.Report.TheVariants.{Done, Refused, NoValues, Text, Cut}
use Rattle.dia_show.specs.Words.{values_line}
use Rattle.dia_make.specs.Outcome.{text_line}

-- each report ends otherwise than with Yes, but for the one that has nothing to report
abbrev pub IsRecorded : Report → List ℕ → Exit → Type 0
IsRecorded Done text exit = exit ≡ Yes
IsRecorded (Refused bad) text exit = Refuses (bad_input_text bad) text exit
IsRecorded (NoValues bad) text exit = Refuses (values_line bad) text exit
IsRecorded (Text refused) text exit = Refuses (text_line refused.why) text exit
IsRecorded (Cut place) text exit = (text ≡ bad_length_line place) × (exit ≡ No)

abbrev pub HasReport : Answered → Type 0
HasReport answered = IsRecorded answered.report (string_bytes answered.text) answered.exit

-- a text that is refused was read by the dictionary that the first input names
abbrev pub IsReadBy : (IndexedBook → AnyDictionary) → Inputs → Report → Type 0
IsReadBy meaning inputs (Text refused) = IsReadFrom meaning inputs.first refused.first.value
IsReadBy meaning inputs report = ⊤
