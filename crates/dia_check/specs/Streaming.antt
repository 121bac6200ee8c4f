-- What a stream has taken, and what it means.
use Rattle.std.specs.Prelude.{◌≡◌, ℕ, ◌+◌, ◌-◌, ◌/◌, ◌%◌, ◌<◌, ◌≤◌, ◌↔◌, ◌==◌, ◌&&◌, ◌^◌, nat_lt, nat_le, Bool, if◌then◌else◌}
use Rattle.std.specs.Prelude.{List, ◌++◌, length, take, drop, Some, Result, Ok, Err, slice_get, slice_index, Contains, IsTrue, ⊤}
use Rattle.dia_wire.specs.Number.{number}
use Rattle.dia_book.specs.Dictionary.{Dictionary, IsDictionary}
use Rattle.dia_terms.specs.declared.Unknown.{Unknown}
use Rattle.dia_terms.specs.declared.Levels.{Levels}
use Rattle.dia_terms.specs.declared.Levels.TheVariants.{Any, AtMost}
use Rattle.dia_check.specs.declared.fault.Selected.{Selected}
use Rattle.dia_check.specs.declared.fault.Refusal.{Refusal}
use Rattle.dia_check.specs.declared.fault.Refusal.TheVariants as refusal
use Rattle.dia_check.specs.declared.stream.stages.Stage.{Stage}
use Rattle.dia_check.specs.declared.stream.stages.Stage.TheVariants.{Header, InBody, Over, NoMemory}
use Rattle.dia_check.specs.declared.stream.stages.Body.{Body}
use Rattle.dia_check.specs.declared.stream.Progress.{Progress}
use Rattle.dia_check.specs.declared.stream.StreamFault.{StreamFault}
use Rattle.dia_check.specs.declared.stream.StreamFault.TheVariants as stream_fault
use Rattle.dia_valid.specs.Valid.{IsValid}
use Rattle.dia_check.specs.Levels.{Level, IsOpen, filled}
use Rattle.dia_check.specs.Faults.{HasGoodHeader, IsAnswer}
use Rattle.dia_check.specs.Front.{front_bytes}
use Rattle.dia_check.specs.Reading.{BeginsLevel, IsInPart}

-- ---- how much a stream takes

-- the version is 1, and the Message Length is one that a message can have
abbrev pub is_sound : List ℕ → Bool
is_sound bytes = (slice_index bytes 0 == 1) && nat_le 20 (number (take 3 (drop 1 bytes))) && (number (take 3 (drop 1 bytes)) % 4 == 0)

-- the bytes that a stream wants in all, by the first 20
abbrev pub wanted : List ℕ → ℕ
wanted bytes = if nat_lt (length bytes) 20 then 20 else (if is_sound bytes then number (take 3 (drop 1 bytes)) else 20)

-- the front of these bytes that a stream takes
abbrev pub taken_of : List ℕ → List ℕ
taken_of bytes = take (wanted bytes) bytes

-- the stream takes the front of a piece, and is done where it has all that it wants
pub record Takes (bytes piece : List ℕ) (progress : Progress) : Type 0 where
  pub front : bytes ++ take progress.taken piece ≡ taken_of (bytes ++ piece)
  pub within : progress.taken ≤ length piece
  pub done : IsTrue progress.done ↔ (length (taken_of (bytes ++ piece)) ≡ wanted (bytes ++ piece))

-- it takes all of the piece
abbrev pub TakesAll : List ℕ → Result Progress StreamFault → Type 0
TakesAll piece (Ok progress) = progress.taken ≡ length piece
TakesAll piece (Err fault) = ⊥

-- it is refused memory
abbrev pub IsRefused : Result Progress StreamFault → Type 0
IsRefused (Err stream_fault.NoMemory) = ⊤
IsRefused (Err stream_fault.Spent) = ⊥
IsRefused (Ok progress) = ⊥

-- ---- levels

-- the open levels that begin at or before the last byte taken and end after it, each once
pub record AreCurrent (d : Dictionary) (most : Levels) (bytes : List ℕ) (levels : List Level) : Type 0 where
  pub distinct : (i j : ℕ) (l : Level) → slice_get levels i ≡ Some l → slice_get levels j ≡ Some l → i ≡ j
  pub each : (l : Level) → Contains levels l ↔ (IsOpen d most (filled bytes) l × (l.start ≤ length bytes) × (length bytes < l.end))

-- a level that these bytes open begins among the new ones; their header is a good one
pub record OpensLevel (d : Dictionary) (most : Levels) (bytes more : List ℕ) : Type 0 where
  pub header : HasGoodHeader d (filled (bytes ++ more))
  pub level : Level
  pub is_open : IsOpen d most (filled (bytes ++ more)) level
  pub following : length bytes < level.start
  pub within : level.start ≤ length (bytes ++ more)

abbrev pub IsWithinLimit : Levels → ℕ → Type 0
IsWithinLimit Any n = ⊤
IsWithinLimit (AtMost most) n = n ≤ 1 + most

-- some valid message begins with the bytes
abbrev pub BeginsValid : Dictionary → Unknown → Levels → List ℕ → Type 0
BeginsValid d u most bytes = (rest : List ℕ) × IsValid d u most (bytes ++ rest)

-- what `levels` answers of a stream that is not spent
pub record CountsLevels (d : Dictionary) (u : Unknown) (most : Levels) (bytes : List ℕ) (n : ℕ) : Type 0 where
  pub none_yet : length bytes < 20 → n ≡ 0
  pub bound : 20 ≤ length bytes → n ≤ 1 + (length bytes - 20) / 8
  pub limit : IsWithinLimit most n
  pub done : length bytes ≡ wanted bytes → n ≡ 0
  pub header : 0 < n → IsTrue (is_sound bytes) × HasGoodHeader d (filled bytes)
  pub exact : 20 ≤ length bytes → BeginsValid d u most bytes → (levels : List Level) × AreCurrent d most bytes levels × (n ≡ length levels)

-- ---- what a stream retains

-- however the message goes on up to its end
abbrev pub HoweverItEnds : List ℕ → (List ℕ → Type 0) → Type 0
HoweverItEnds bytes P = (more : List ℕ) → length (bytes ++ more) ≡ wanted bytes → P (bytes ++ more)

-- a body of a good header's command is being read
abbrev pub IsReading : Dictionary → Unknown → Levels → Body → ℕ → List ℕ → Type 0
IsReading d u most body n bytes = (good : HasGoodHeader d bytes) × (good.c ≡ body.def) × IsInPart d u most bytes good body.open_levels body.part n

-- an answer for a whole message; that it is valid is known where all of it is taken
abbrev pub IsWholeAnswer : ℕ → ℕ → Result Selected Refusal → Type 0
IsWholeAnswer taken all (Ok found) = taken ≡ all
IsWholeAnswer taken all (Err (refusal.Fault f)) = ⊤
IsWholeAnswer taken all (Err refusal.Truncated) = ⊥
IsWholeAnswer taken all (Err refusal.Trailing) = ⊥
IsWholeAnswer taken all (Err refusal.NoMemory) = ⊥
IsWholeAnswer taken all (Err refusal.Spent) = ⊥

-- after the header of a message: its body is read, or it is answered, or memory was refused for the body of a good header
abbrev pub IsBegun : Dictionary → Unknown → Levels → List ℕ → Body → Stage → Type 0
IsBegun d u most bytes body InBody = IsReading d u most body 20 bytes
IsBegun d u most bytes body (Over answer) = IsWholeAnswer 20 (length bytes) answer × IsAnswer d u most bytes answer
IsBegun d u most bytes body (Header front) = ⊥
IsBegun d u most bytes body NoMemory = HasGoodHeader d bytes

-- these bytes were read, as far as the stage says; the body is the one that is being read, if one is
abbrev pub HasRead : Dictionary → Unknown → Levels → List ℕ → Body → Stage → Type 0
HasRead d u most bytes body (Header front) = (length bytes < 20) × (front_bytes front ≡ bytes)
HasRead d u most bytes body InBody = (20 ≤ length bytes) × IsTrue (is_sound bytes) × (length bytes < wanted bytes) × HoweverItEnds bytes (IsReading d u most body (length bytes))
HasRead d u most bytes body (Over answer) = (20 ≤ length bytes) × IsWholeAnswer (length bytes) (wanted bytes) answer × HoweverItEnds bytes (λ all. IsAnswer d u most all answer)
HasRead d u most bytes body NoMemory = ⊥

-- these bytes were read, or memory was refused where this type holds
abbrev pub HasReadUnless : Type 0 → Dictionary → Unknown → Levels → List ℕ → Body → Stage → Type 0
HasReadUnless Memory d u most bytes body (Header front) = HasRead d u most bytes body (Header front)
HasReadUnless Memory d u most bytes body InBody = HasRead d u most bytes body InBody
HasReadUnless Memory d u most bytes body (Over answer) = HasRead d u most bytes body (Over answer)
HasReadUnless Memory d u most bytes body NoMemory = Memory

abbrev pub IsSpentStage : Stage → Type 0
IsSpentStage NoMemory = ⊤
IsSpentStage (Header front) = ⊥
IsSpentStage InBody = ⊥
IsSpentStage (Over answer) = ⊥

-- the header was read, and a piece follows that doesn't go past the end of the message
pub record MayRead (d : Dictionary) (u : Unknown) (most : Levels) (bytes : List ℕ) (body : Body) (stage : Stage) (from : ℕ) (piece : List ℕ) : Type 0 where
  pub long : 20 ≤ length bytes
  pub read : HasRead d u most bytes body stage
  pub from_end : from ≡ length bytes
  pub within : length (bytes ++ piece) ≤ wanted bytes
  pub few : wanted bytes < 2 ^ 32

-- the header is there, and it is a good one, however the message goes on
abbrev pub BeginsGood : Dictionary → List ℕ → Type 0
BeginsGood d bytes = (20 ≤ length bytes) × IsTrue (is_sound bytes) × HoweverItEnds bytes (HasGoodHeader d)

-- a level begins after a place, and the header is a good one, however the message goes on
abbrev pub OpensAfter : Dictionary → Levels → ℕ → List ℕ → Type 0
OpensAfter d most from bytes = IsTrue (is_sound bytes) × HoweverItEnds bytes (λ all. HasGoodHeader d all × BeginsLevel d most all from (length bytes))

-- so many bytes were taken of those that are wanted, and they are these
pub record HasTaken (d : Dictionary) (u : Unknown) (most : Levels) (taken all : ℕ) (body : Body) (stage : Stage) (bytes : List ℕ) : Type 0 where
  pub sound : IsDictionary d
  pub count : taken ≡ length bytes
  pub wants : all ≡ wanted bytes
  pub few : all < 2 ^ 32
  pub within : length bytes ≤ wanted bytes
  pub read : HasRead d u most bytes body stage

-- a stage that a stream can be in
abbrev pub IsStage : Dictionary → Unknown → Levels → ℕ → ℕ → Body → Stage → Type 0
IsStage d u most taken all body NoMemory = ⊤
IsStage d u most taken all body (Header front) = (bytes : List ℕ) × HasTaken d u most taken all body (Header front) bytes
IsStage d u most taken all body InBody = (bytes : List ℕ) × HasTaken d u most taken all body InBody bytes
IsStage d u most taken all body (Over answer) = (bytes : List ℕ) × HasTaken d u most taken all body (Over answer) bytes
