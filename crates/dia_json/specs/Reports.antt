-- What the reports of answers as JSON have, but for one of an input that is refused.
use Rattle.std.specs.Prelude.{◌≡◌, ℕ, List, string_bytes}
use Rattle.dia_dict.specs.Dictionary.{Dictionary}
use Rattle.dia_dict.specs.declared.IndexedBook.{IndexedBook}
use Rattle.dia_io.specs.declared.Exit.{Exit}
use Rattle.dia_io.specs.declared.Inputs.{Inputs}
use Rattle.dia_report.specs.declared.reporting.Report.{Report}
use Rattle.dia_report.specs.declared.reporting.Report.TheVariants.{Done}
use Rattle.dia_run.specs.Kinds.{IsOfPropose, IsOfShow}
use Rattle.dia_run.specs.Report.{IsReport}
use Rattle.dia_refused_json.specs.Recording.{IsRefusedOr}
use Rattle.dia_show.specs.declared.reporting.Answered.{Answered as Shown}
use Rattle.dia_show.specs.declared.reporting.Report.{Report as ShownReport}
use Rattle.dia_show.specs.declared.reporting.Report.TheVariants.{OfShow, NoValues}
use Rattle.dia_show.specs.Words.{IsNoValuesText}
use Rattle.dia_json.specs.Whole.{RecordsValues}

-- `show` and `propose` report as without JSON
abbrev pub IsShowReport : (IndexedBook → Dictionary) → Inputs → Report → List ℕ → Exit → Type 0
IsShowReport meaning inputs report text exit = IsOfShow report × IsReport meaning inputs report text exit

-- or they have why the words of values are refused
abbrev pub IsShownReport : (IndexedBook → Dictionary) → Inputs → ShownReport → List ℕ → Exit → Type 0
IsShownReport meaning inputs (OfShow report) text exit = IsRefusedOr (IsShowReport meaning inputs) report text exit
IsShownReport meaning inputs (NoValues bad) text exit = IsNoValuesText inputs.table bad × RecordsValues bad text exit

abbrev pub HasShownReport : (IndexedBook → Dictionary) → Inputs → Shown → Type 0
HasShownReport meaning inputs shown = IsShownReport meaning inputs shown.report (string_bytes shown.text) shown.exit

abbrev pub IsProposeReport : (IndexedBook → Dictionary) → Inputs → Report → List ℕ → Exit → Type 0
IsProposeReport meaning inputs report text exit = IsOfPropose report × IsReport meaning inputs report text exit

-- `check` and `refute` report nothing: the object has it
abbrev pub IsNothing : Report → List ℕ → Exit → Type 0
IsNothing report text exit = report ≡ Done
