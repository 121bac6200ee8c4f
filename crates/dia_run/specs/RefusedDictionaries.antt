-- What is reported of two dictionaries, of which one is refused.
use Rattle.std.specs.Prelude.{◌≡◌, ℕ, List}
use Rattle.dia_dict.specs.Dictionary.{Dictionary}
use Rattle.dia_io.specs.declared.Inputs.{Inputs}
use Rattle.dia_report.specs.Refusals.{dictionary_line}
use Rattle.dia_run.specs.Texts.{IsDictionaryText, IsNoDictionaryText}

-- the first dictionary is refused with this line
abbrev pub RefusesFirst : Inputs → List ℕ → Type 0
RefusesFirst inputs recorded = (why : List ℕ) × IsNoDictionaryText inputs.first why × (recorded ≡ dictionary_line 1 why)

-- so is the second
abbrev pub RefusesSecond : Inputs → List ℕ → Type 0
RefusesSecond inputs recorded = (a : Dictionary) × IsDictionaryText inputs.first a
    × ((why : List ℕ) × IsNoDictionaryText inputs.second why × (recorded ≡ dictionary_line 2 why))
