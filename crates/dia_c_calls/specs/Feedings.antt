-- What a message that comes in pieces denotes.
use Rattle.std.specs.Prelude.{◌≡◌, ℕ, List}
use Rattle.dia_book.specs.Dictionary.{Dictionary}
use Rattle.dia_dict.specs.contracts.indexed_book.IndexedBookBook.TheImpl.{ghosts}
use Rattle.dia_terms.specs.declared.Unknown.{Unknown}
use Rattle.dia_terms.specs.declared.Levels.{Levels}
use Rattle.dia_check.specs.Pauses.{HasPaused}
use Rattle.dia_c_calls.specs.declared.feeding.Feeding.{Feeding}

-- the message is checked against this dictionary, with this policy and this limit
abbrev pub ChecksBy : Feeding → Dictionary → Unknown → Levels → Type 0
ChecksBy f d u most = (ghosts.meaning f.owner.value ≡ d) × (f.unknown ≡ u) × (f.levels ≡ most)

-- and these bytes came of it
abbrev pub FeedsFor : Feeding → Dictionary → Unknown → Levels → List ℕ → Type 0
FeedsFor f d u most bytes = ChecksBy f d u most × HasPaused f.paused d u most bytes
