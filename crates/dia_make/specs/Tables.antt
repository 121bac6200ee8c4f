-- What tables of words and numbers hold.
use Rattle.std.specs.Prelude.{◌≡◌, ℕ, List, map}
use Rattle.std.specs.Map.{lookup}
use Rattle.dia_show.specs.Words.{Word, is_key, plain_word}
use Rattle.dia_make.specs.declared.numbered.Insertion.{Insertion}
use Rattle.dia_make.specs.declared.tables.Table.{Table}
use Rattle.dia_make.specs.declared.tables.Tables.{Tables}
use Rattle.dia_make.specs.Numbered.{by_word}

abbrev pub entries_of : Table → List Word
entries_of table = map plain_word table.found.entries

-- the same is found in the table as among these
abbrev pub IsTableOf : Table → List Word → Type 0
IsTableOf table words = (name key : List ℕ) → lookup (is_key name key) (entries_of table) ≡ lookup (is_key name key) words

-- words by names and numbers, and numbers by names and words
pub record AreTablesOf (tables : Tables) (words : List Word) : Type 0 where
  pub words_are : IsTableOf tables.words.value words
  pub numbers_are : IsTableOf tables.numbers.value (map by_word words)

-- a number, and what begins with the word for it
abbrev pub plain_insertion : Insertion → List ℕ × List ℕ
plain_insertion found = (found.number.now, found.rest.now)
