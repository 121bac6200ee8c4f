-- What the steps of a stream answer, for each message that the bytes read so far may begin.
use Rattle.std.specs.Prelude.{◌≡◌, ℕ, ◌+◌, ◌<◌, ◌^◌, List, ◌++◌, length, None, Bool, Result, Err, MatchBool, MatchResult}
use Rattle.dia_wire.specs.declared.Header.{Header}
use Rattle.dia_book.specs.Dictionary.{Dictionary}
use Rattle.dia_terms.specs.declared.Unknown.{Unknown}
use Rattle.dia_terms.specs.declared.Levels.{Levels}
use Rattle.dia_check.specs.declared.fault.Refusal.{Refusal}
use Rattle.dia_check.specs.declared.fault.Refusal.TheVariants.{NoMemory}
use Rattle.dia_check.specs.declared.stream.stages.Stage.{Stage}
use Rattle.dia_check.specs.declared.stream.stages.Body.{Body}
use Rattle.dia_check.specs.Basis.{PlainBasis}
use Rattle.dia_check.specs.Faults.{HasGoodHeader, HasHeader, HasLength, IsAnswer}
use Rattle.dia_check.specs.Walks.{Walks, whole}
use Rattle.dia_check.specs.Reading.{BeginsLevel, IsInPart, IsStop, LiesAt}
use Rattle.dia_check.specs.Streaming.{HasReadUnless, IsBegun, IsReading, MayRead, OpensAfter}

-- ---- the header

-- some message has this header and ends at this place
abbrev pub IsOfSome : Header → ℕ → Type 0
IsOfSome header end = (bytes : List ℕ) × (length bytes < 2 ^ 32) × HasLength bytes (length bytes) × HasHeader bytes header × (end ≡ length bytes)

-- a message with this header that ends at this place goes on by the stage
abbrev pub HasBegun : Dictionary → Header → ℕ → Body → Stage → Type 0
HasBegun d header end body stage =
    (u : Unknown) (most : Levels) (bytes : List ℕ) → HasLength bytes (length bytes) → HasHeader bytes header → end ≡ length bytes → IsBegun d u most bytes body stage

-- and the body of a message with this header was opened, unless nothing is to be read of it
abbrev pub HasBegunBody : Dictionary → Header → ℕ → Body → Result Stage Refusal → Type 0
HasBegunBody d header end body result =
    (u : Unknown) (most : Levels) (bytes : List ℕ) → HasLength bytes (length bytes) → HasHeader bytes header → end ≡ length bytes
    → MatchResult result (IsBegun d u most bytes body) (λ refusal. IsAnswer d u most bytes (Err refusal) × (refusal ≡ NoMemory → HasGoodHeader d bytes))

-- ---- the body

-- the body of some message is being read, and a piece of it comes next
abbrev pub IsReadingSome : PlainBasis → Body → ℕ → List ℕ → Type 0
IsReadingSome b body from piece =
    (bytes : List ℕ) × (length bytes < 2 ^ 32) × IsReading b.dictionary b.unknown b.levels body from bytes × LiesAt bytes from piece

-- a piece of a body was read, with which the body ends or not
abbrev pub HasReadPiece : PlainBasis → Body → ℕ → List ℕ → Body → Result Bool Refusal → Type 0
HasReadPiece b old from piece new result =
    (bytes : List ℕ) (good : HasGoodHeader b.dictionary bytes) → IsInPart b.dictionary b.unknown b.levels bytes good old.open_levels old.part from → LiesAt bytes from piece
    → MatchResult result
    (λ ended. MatchBool ended
    (Walks b.dictionary b.unknown b.levels (whole good.command.rules bytes) None × (from + length piece ≡ length bytes))
    (IsInPart b.dictionary b.unknown b.levels bytes good new.open_levels new.part (from + length piece)))
    (IsStop b.dictionary b.unknown b.levels bytes good (BeginsLevel b.dictionary b.levels bytes from (from + length piece)))

-- a piece may be read after the first bytes of some message
abbrev pub MayReadSome : PlainBasis → Body → Stage → ℕ → List ℕ → Type 0
MayReadSome b body stage from piece = (bytes : List ℕ) × MayRead b.dictionary b.unknown b.levels bytes body stage from piece

-- a piece was read after the first bytes of a message, or memory was refused where a level begins in it
abbrev pub HasReadMore : PlainBasis → Body → Stage → ℕ → List ℕ → Body → Stage → Type 0
HasReadMore b old stage from piece new next = (bytes : List ℕ) → MayRead b.dictionary b.unknown b.levels bytes old stage from piece
    → HasReadUnless (OpensAfter b.dictionary b.levels from (bytes ++ piece)) b.dictionary b.unknown b.levels (bytes ++ piece) new next
