-- Lines and columns of many places of a text.
use Rattle.std.specs.Prelude.{◌≡◌, ℕ, ◌≤◌, ◌+◌, ◌*◌, List, Some, slice_get}
use Rattle.dia_explain_places.specs.declared.place.Place.{Place}
use Rattle.dia_explain_places.specs.Places.{column_at, line_at}

-- the line and the column of this offset
pub record IsPlaceAt (text : List ℕ) (at : ℕ) (place : Place) : Type 0 where
  pub line_is : place.line ≡ line_at text at
  pub column_is : place.column ≡ column_at text at
  pub few_lines : place.line ≤ at + 1
  pub few_columns : place.column ≤ at + 1

-- those of each 64 bytes
abbrev pub AreMarks : List ℕ → List Place → Type 0
AreMarks text marks = (index : ℕ) (place : Place) → slice_get marks index ≡ Some place → IsPlaceAt text (index * 64) place
