-- A table of pairs of names, and when it shows that each valid message of one dictionary is valid under another.
use Rattle.std.specs.Prelude.{◌≡◌, ℕ, List, Some, Contains, slice_get}
use Rattle.dia_book.specs.Dictionary.{Dictionary, PlainDefinition, definitions}
use Rattle.dia_terms.specs.declared.Unknown.{Unknown}
use Rattle.dia_terms.specs.declared.Levels.{Levels}
use Rattle.dia_valid.specs.Valid.{IsValidOf}

-- a table as a plain value
pub record PlainTable : Type 0 where
  pub commands : List (List ℕ × List ℕ)
  pub avps : List (List ℕ × List ℕ)

-- the pair is in the table
abbrev pub IsBeside : PlainTable → PlainDefinition → PlainDefinition → Type 0
IsBeside table c d = Contains table.commands (c.name, d.name)

-- each valid message of a command that the table lists is valid under the second dictionary, as one of a command paired with it
abbrev pub IsIncluded : Dictionary → Dictionary → Unknown → PlainTable → Type 0
IsIncluded da db u table = (most : Levels) (bytes : List ℕ) (c : ℕ) (command : PlainDefinition) (p : List ℕ × List ℕ)
    → slice_get (definitions da) c ≡ Some command → Contains table.commands p → command.name ≡ p.0 → IsValidOf da u most bytes c
    → (d : ℕ) × (other : PlainDefinition) × (slice_get (definitions db) d ≡ Some other) × IsBeside table command other × IsValidOf db u most bytes d
