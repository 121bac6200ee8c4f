-- Bytes of which a check says the same.
use Rattle.std.specs.Prelude.{◌↔◌, ℕ, List, Result}
use Rattle.dia_book.specs.Dictionary.{Dictionary}
use Rattle.dia_terms.specs.declared.Unknown.{Unknown}
use Rattle.dia_terms.specs.declared.Levels.{Levels}
use Rattle.dia_check.specs.declared.fault.Selected.{Selected}
use Rattle.dia_check.specs.declared.fault.Refusal.{Refusal}
use Rattle.dia_check.specs.Faults.{IsAnswer}

-- under each policy and limit on levels, an answer of the one is one of the other: the command, or the fault with its place, reason and subject
abbrev pub IsJudgedAlike : Dictionary → List ℕ → List ℕ → Type 0
IsJudgedAlike d bytes new = (u : Unknown) (most : Levels) (a : Result Selected Refusal) → IsAnswer d u most bytes a ↔ IsAnswer d u most new a
