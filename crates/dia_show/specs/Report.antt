-- What a report has: what was read and found, and what was written.
use Rattle.std.specs.Prelude.{◌≢◌, ℕ, List, Option, string_bytes}
use Rattle.std.specs.Io.KnownBytes.{Appends}
use Rattle.dia_dict.specs.Dictionary.{Dictionary}
use Rattle.dia_dict.specs.declared.IndexedBook.{IndexedBook}
use Rattle.dia_io.specs.declared.Exit.{Exit}
use Rattle.dia_io.specs.declared.Exit.TheVariants.{Bad}
use Rattle.dia_io.specs.declared.Inputs.{Inputs}
use Rattle.dia_report.specs.declared.reporting.Report.TheVariants.{Done, Refused}
use Rattle.dia_report.specs.Refusals.{bad_input_text}
use Rattle.dia_run.specs.Kinds.{IsOfShow}
use Rattle.dia_run.specs.Outcome.{Refuses}
use Rattle.dia_run.specs.Report.{IsReport}
use Rattle.dia_show.specs.declared.reporting.Answered.{Answered}
use Rattle.dia_show.specs.declared.reporting.Reported.{Reported}
use Rattle.dia_show.specs.declared.reporting.Report.{Report}
use Rattle.dia_show.specs.declared.reporting.Report.TheVariants.{OfShow, NoValues}
use Rattle.dia_show.specs.Words.{IsNoValuesText, values_line}

-- the report is one of `show`, or it has why the words of values are refused
abbrev pub IsRecorded : (IndexedBook → Dictionary) → Inputs → Report → List ℕ → Exit → Type 0
IsRecorded meaning inputs (OfShow report) text exit = IsOfShow report × IsReport meaning inputs report text exit
IsRecorded meaning inputs (NoValues bad) text exit = IsNoValuesText inputs.table bad × Refuses (values_line bad) text exit

abbrev pub HasReport : (IndexedBook → Dictionary) → Inputs → Answered → Type 0
HasReport meaning inputs answered = IsRecorded meaning inputs answered.report (string_bytes answered.text) answered.exit

-- what the report of `show --lines` has: nothing of lines that were read, or else which input is refused
abbrev pub IsRecordedOfLines : Inputs → Report → List ℕ → Exit → Type 0
IsRecordedOfLines inputs (OfShow Done) text exit = exit ≢ Bad
IsRecordedOfLines inputs (OfShow (Refused bad)) text exit = Refuses (bad_input_text bad) text exit
IsRecordedOfLines inputs (OfShow report) text exit = ⊥
IsRecordedOfLines inputs (NoValues bad) text exit = IsNoValuesText inputs.table bad × Refuses (values_line bad) text exit

-- and this is what was put
abbrev pub HasLinesReport : Inputs → (put_old put : Option (List ℕ)) → Reported → Type 0
HasLinesReport inputs put_old put reported = (text : List ℕ) × IsRecordedOfLines inputs reported.report text reported.exit × Appends put_old put text
