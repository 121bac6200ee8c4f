-- Which messages are valid where two dictionaries mean the same.
use Rattle.std.specs.Prelude.{ℕ, List, ◌↔◌}
use Rattle.dia_book.specs.Dictionary.{Dictionary, IsDictionary}
use Rattle.dia_terms.specs.declared.Unknown.{Unknown}
use Rattle.dia_terms.specs.declared.Levels.{Levels}
use Rattle.dia_valid.specs.Valid.{IsValid}
use Rattle.dia_differences.specs.Same.{IsSameDictionary}

-- both dictionaries have the same valid messages, by one policy for unknown AVPs, whatever it is, and with one limit of levels
abbrev pub HaveSameMessages : Dictionary → Dictionary → Type 0
HaveSameMessages a b = (u : Unknown) (most : Levels) (bytes : List ℕ) → IsValid a u most bytes ↔ IsValid b u most bytes

-- two dictionaries that mean the same do
abbrev pub SameHaveSameMessages : Type 0
SameHaveSameMessages = (a b : Dictionary) → IsDictionary a → IsDictionary b → IsSameDictionary a b → HaveSameMessages a b
