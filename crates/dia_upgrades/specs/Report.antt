-- What a report has of the inputs, and of what was written.
use Rattle.std.specs.Prelude.{◌≡◌, ◌⊎◌, ℕ, List}
use Rattle.dia_dict.specs.Dictionary.{Dictionary}
use Rattle.dia_dict.specs.declared.IndexedBook.{IndexedBook}
use Rattle.dia_io.specs.declared.Inputs.{Inputs}
use Rattle.dia_io.specs.declared.Exit.{Exit}
use Rattle.dia_run.specs.Outcome.{Refuses}
use Rattle.dia_report.specs.Refusals.{bad_input_text, dictionary_line}
use Rattle.dia_run.specs.Report.{AreReadFrom}
use Rattle.dia_run.specs.Texts.{IsDictionaryText, IsNoDictionaryText}
use Rattle.dia_upgrades.specs.declared.asked.Asked.{Asked}
use Rattle.dia_upgrades.specs.declared.reporting.Report.{Report}
use Rattle.dia_upgrades.specs.declared.reporting.Report.TheVariants.{Refused, Read}
use Rattle.dia_upgrades.specs.InWords.{in_words}
use Rattle.dia_upgrades.specs.Outcome.{IsListed}

abbrev pub IsRefusedFirst : Inputs → List ℕ → Type 0
IsRefusedFirst inputs recorded = (why : List ℕ) × IsNoDictionaryText inputs.first why × (recorded ≡ dictionary_line 1 why)

abbrev pub IsRefusedSecond : Inputs → List ℕ → Type 0
IsRefusedSecond inputs recorded = (why : List ℕ) × IsNoDictionaryText inputs.second why × (recorded ≡ dictionary_line 2 why)

-- the report has what the inputs say, and what was found, and this is what was written
abbrev pub IsReport : (IndexedBook → Dictionary) → Asked → Inputs → Report → List ℕ → Exit → Type 0
IsReport meaning asked inputs (Refused bad) text exit = Refuses (bad_input_text bad) text exit
IsReport meaning asked inputs (Read books is) text exit =
    AreReadFrom meaning inputs books × IsListed in_words asked inputs.table (meaning books.first.value.book) (meaning books.second.value.book) text exit is

-- a dictionary is refused, in these words
abbrev pub IsRefusedText : Inputs → List ℕ → Type 0
IsRefusedText inputs recorded = IsRefusedFirst inputs recorded ⊎ ((a : Dictionary) × IsDictionaryText inputs.first a × IsRefusedSecond inputs recorded)
