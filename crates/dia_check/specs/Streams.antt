-- A stream and the bytes that it has taken.
use Rattle.std.specs.Prelude.{◌≡◌, List, ◌++◌, length, drop, ℕ}
use Rattle.dia_book.specs.declared.Book.{Ghosts}
use Rattle.dia_book.specs.Dictionary.{Dictionary}
use Rattle.dia_terms.specs.declared.Unknown.{Unknown}
use Rattle.dia_terms.specs.declared.Levels.{Levels}
use Rattle.dia_check.specs.declared.stream.Stream.{Stream}
use Rattle.dia_check.specs.Streaming.{HasTaken, IsSpentStage, OpensLevel, taken_of}

-- the dictionary that a stream checks by
abbrev pub dictionary_of : {B : Type 0} {ghosts : Ghosts B} → (B → Dictionary) → Stream B ghosts → Dictionary
dictionary_of meaning s = meaning s.basis.book.now

-- the stream has taken these bytes, and checks them against this dictionary
pub record Denotes {B : Type 0} {ghosts : Ghosts B} (meaning : B → Dictionary) (s : Stream B ghosts) (d : Dictionary) (u : Unknown) (most : Levels) (bytes : List ℕ) : Type 0 where
  pub book : meaning s.basis.book.now ≡ d
  pub unknown : s.basis.unknown ≡ u
  pub levels : s.basis.levels ≡ most
  pub taken : HasTaken d u most s.taken s.wanted s.body s.stage bytes

abbrev pub IsSpent : {B : Type 0} {ghosts : Ghosts B} → Stream B ghosts → Type 0
IsSpent s = IsSpentStage s.stage

-- whatever bytes the stream had taken, it has taken these too
abbrev pub HasTakenMore : {B : Type 0} {ghosts : Ghosts B} → (B → Dictionary) → Stream B ghosts → List ℕ → Stream B ghosts → Type 0
HasTakenMore meaning old more new = (d : Dictionary) (u : Unknown) (most : Levels) (bytes : List ℕ) → Denotes meaning old d u most bytes
    → Denotes meaning new d u most (bytes ++ more)

-- whatever bytes the stream has taken, a level begins in what it takes of the piece
abbrev pub OpensLevelIn : {B : Type 0} {ghosts : Ghosts B} → (B → Dictionary) → Stream B ghosts → List ℕ → Type 0
OpensLevelIn meaning s piece = (d : Dictionary) (u : Unknown) (most : Levels) (bytes : List ℕ) → Denotes meaning s d u most bytes
    → OpensLevel d most bytes (drop (length bytes) (taken_of (bytes ++ piece)))
