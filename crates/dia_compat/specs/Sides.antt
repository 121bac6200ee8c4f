-- What two dictionaries are compared by.
use Rattle.dia_book.specs.Dictionary.{Dictionary}
use Rattle.dia_terms.specs.declared.Unknown.{Unknown}
use Rattle.dia_compat.specs.TableText.{PlainTable}

-- two dictionaries, and whether AVPs that they don't know are accepted
pub record Sides : Type 0 where
  pub first : Dictionary
  pub second : Dictionary
  pub unknown : Unknown

-- two sides, and a table of pairs of their definitions
pub record Compared : Type 0 where
  pub sides : Sides
  pub table : PlainTable

abbrev pub compared : Sides → PlainTable → Compared
compared sides table = record { sides = sides; table = table }
