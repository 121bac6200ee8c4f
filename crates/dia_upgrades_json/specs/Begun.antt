-- What is written as JSON where `breaking` doesn't come to its end.
use Rattle.std.specs.Prelude.{◌≡◌, ◌⊎◌, ℕ, List, []}
use Rattle.dia_book.specs.Dictionary.{Dictionary}
use Rattle.dia_io.specs.declared.Exit.{Exit}
use Rattle.dia_io.specs.declared.Inputs.{Inputs}
use Rattle.dia_run.specs.Texts.{IsDictionaryText}
use Rattle.dia_upgrades.specs.declared.asked.Asked.{Asked}
use Rattle.dia_upgrades.specs.Begun.{IsBegun}
use Rattle.dia_upgrades_json.specs.Objects.{AreSpelt, json_over}
use Rattle.dia_upgrades_json.specs.Spots.{PlainTexts}
use Rattle.dia_upgrades_json.specs.Outcome.{IsAnyListedJson, IsBreakingJson}

-- nothing is written yet; or the objects of the first lines, from the first on, up to the end of one
abbrev pub IsListedBegun : Asked → Inputs → Dictionary → Dictionary → List ℕ → Type 0
IsListedBegun asked inputs a b text = (texts : PlainTexts) × AreSpelt inputs texts × IsBegun (json_over a b texts) asked inputs.table a b text

-- such objects, or all that is written
abbrev pub IsListedBegunOrWhole : Asked → Inputs → Dictionary → Dictionary → List ℕ → Type 0
IsListedBegunOrWhole asked inputs a b text = IsListedBegun asked inputs a b text ⊎ ((exit : Exit) × IsAnyListedJson asked inputs a b text exit)

-- ---- of the inputs

-- nothing is written yet; or such objects of these dictionaries
pub data IsJsonBegun (asked : Asked) (inputs : Inputs) (text : List ℕ) : Type 0 where
  nothing : text ≡ [] → IsJsonBegun asked inputs text
  begun : (a b : Dictionary) → IsDictionaryText inputs.first a → IsDictionaryText inputs.second b → IsListedBegun asked inputs a b text → IsJsonBegun asked inputs text

abbrev pub IsJsonBegunOrWhole : Asked → Inputs → List ℕ → Type 0
IsJsonBegunOrWhole asked inputs text = IsJsonBegun asked inputs text ⊎ ((exit : Exit) × IsBreakingJson asked inputs text exit)
