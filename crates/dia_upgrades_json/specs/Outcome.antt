-- What `breaking` writes as JSON, and how it ends.
use Rattle.std.specs.Prelude.{◌≡◌, ℕ, ◌⊎◌, List}
use Rattle.dia_book.specs.Dictionary.{Dictionary}
use Rattle.dia_dict.specs.declared.IndexedBook.{IndexedBook}
use Rattle.dia_io.specs.declared.Exit.{Exit}
use Rattle.dia_io.specs.declared.Inputs.{Inputs}
use Rattle.dia_refused_json.specs.Recording.{RefusedDictionaries, RecordsBad}
use Rattle.dia_report.specs.declared.refusing.Refused.TheVariants.{Bad}
use Rattle.dia_run.specs.Report.{AreReadFrom}
use Rattle.dia_run.specs.Texts.{IsDictionaryText}
use Rattle.dia_upgrades.specs.declared.asked.Asked.{Asked}
use Rattle.dia_upgrades.specs.declared.reporting.Findings.{Findings}
use Rattle.dia_upgrades.specs.declared.reporting.Report.{Report}
use Rattle.dia_upgrades.specs.declared.reporting.Report.TheVariants.{Refused, Read}
use Rattle.dia_upgrades.specs.Outcome.{IsListed}
use Rattle.dia_upgrades_json.specs.Objects.{AreSpelt, json_over, texts_of}
use Rattle.dia_upgrades_json.specs.Spots.{PlainTexts}

-- `breaking` of two dictionaries and the list of the inputs, written as objects, with the places in the texts of the dictionaries
pub record IsListedJson (asked : Asked) (inputs : Inputs) (a b : Dictionary) (text : List ℕ) (exit : Exit) (is : Findings) : Type 0 where
  pub texts : PlainTexts
  pub are_spelt : AreSpelt inputs texts
  pub listed : IsListed (json_over a b texts) asked inputs.table a b text exit is

-- the same, whatever was found
abbrev pub IsAnyListedJson : Asked → Inputs → Dictionary → Dictionary → List ℕ → Exit → Type 0
IsAnyListedJson asked inputs a b text exit = (is : Findings) × IsListedJson asked inputs a b text exit is

-- `breaking` of the inputs: that of their dictionaries and their list, or the object of a dictionary that is refused
abbrev pub IsBreakingJson : Asked → Inputs → List ℕ → Exit → Type 0
IsBreakingJson asked inputs text exit =
    ((a : Dictionary) × (b : Dictionary) × IsDictionaryText inputs.first a × IsDictionaryText inputs.second b × IsAnyListedJson asked inputs a b text exit)
    ⊎ RefusedDictionaries inputs text exit

-- the report has what the inputs say, and what was found, and this is what was written, with the places of what the report has
abbrev pub IsJsonReport : (IndexedBook → Dictionary) → Asked → Inputs → Report → List ℕ → Exit → Type 0
IsJsonReport meaning asked inputs (Refused bad) text exit = RecordsBad inputs.first (Bad bad) text exit ⊎ RecordsBad inputs.second (Bad bad) text exit
IsJsonReport meaning asked inputs (Read books is) text exit =
    AreReadFrom meaning inputs books × (listed : IsListedJson asked inputs (meaning books.first.value.book) (meaning books.second.value.book) text exit is)
    × (listed.texts ≡ texts_of inputs books)
