-- What the steps of a check answer, for each message that the bytes read so far may belong to.
use Rattle.std.specs.Prelude.{◌≡◌, ℕ, ◌+◌, ◌<◌, ◌≤◌, List, length, Option, Result, IfSome, MatchResult, unwrap_or}
use Rattle.dia_wire.specs.declared.Key.{Key}
use Rattle.dia_wire.specs.declared.AvpHead.{AvpHead}
use Rattle.dia_wire.specs.Wire.{head_length}
use Rattle.dia_book.specs.Dictionary.{Dictionary, IsDictionary}
use Rattle.dia_terms.specs.declared.Unknown.{Unknown}
use Rattle.dia_terms.specs.declared.Levels.{Levels}
use Rattle.dia_check.specs.declared.fault.Refusal.{Refusal}
use Rattle.dia_check.specs.declared.open_levels.OpenLevels.{OpenLevels}
use Rattle.dia_check.specs.declared.stream.parts.Part.{Part}
use Rattle.dia_check.specs.declared.stream.parts.HeadPart.{HeadPart}
use Rattle.dia_check.specs.declared.stream.parts.DataPart.{DataPart}
use Rattle.dia_check.specs.declared.stream.parts.Done.{Done}
use Rattle.dia_check.specs.Basis.{PlainBasis}
use Rattle.dia_check.specs.Faults.{HasGoodHeader}
use Rattle.dia_check.specs.UnderWay.{IsUnderWay}
use Rattle.dia_check.specs.Reading.{BeginsLevel, BeginsLevelAt, IsAtAvp, IsEntered, IsInData, IsInHead, IsInPart, IsNext, IsReadTo, IsStop, LiesAt}

-- ---- places

-- where the reading goes on at a place, the innermost level ends after this one
abbrev pub EndsAfter : ℕ → OpenLevels → Option ℕ → Type 0
EndsAfter stop open_levels next = IfSome next (λ at. stop < open_levels.innermost.end)

-- the place, if there is one, is after another, and in the piece that begins there or at its end
abbrev pub IsFarther : ℕ → List ℕ → Option ℕ → Type 0
IsFarther at piece next = IfSome next (λ start. (at < start) × (start ≤ at + length piece))

-- the place, if there is one, is after the head at another
abbrev pub IsAfterHead : ℕ → AvpHead → Option ℕ → Type 0
IsAfterHead at head next = IfSome next (λ start. start ≡ at + head_length head.vendor)

abbrev pub key_of_head : AvpHead → Key
key_of_head head = record { code = head.code; vendor = unwrap_or head.vendor 0 }

-- at least one byte of the piece is taken
abbrev pub TakesSome : List ℕ → Done → Type 0
TakesSome piece done = (0 < done.taken) × (done.taken ≤ length piece)

-- ---- AVPs and groups that lie in a piece

module _ (b : PlainBasis) where
  -- the AVPs of a piece were read, with the groups in it
  abbrev pub HasReadAvps : OpenLevels → ℕ → List ℕ → OpenLevels → Result (Option ℕ) Refusal → Type 0
  HasReadAvps old from piece new result =
      (bytes : List ℕ) (good : HasGoodHeader b.dictionary bytes) → IsUnderWay b.dictionary b.unknown b.levels bytes good old from → LiesAt bytes from piece
      → MatchResult result (IsReadTo b.dictionary b.unknown b.levels bytes good new (from + length piece))
      (IsStop b.dictionary b.unknown b.levels bytes good (BeginsLevel b.dictionary b.levels bytes from (from + length piece)))

  -- the group at a place was entered, if its head lies in the piece
  abbrev pub HasEntered : OpenLevels → ℕ → List ℕ → OpenLevels → Result (Option ℕ) Refusal → Type 0
  HasEntered old at piece new result =
      (bytes : List ℕ) (good : HasGoodHeader b.dictionary bytes) → IsUnderWay b.dictionary b.unknown b.levels bytes good old at → LiesAt bytes at piece
      → MatchResult result (IsEntered b.dictionary b.unknown b.levels bytes good new)
      (IsStop b.dictionary b.unknown b.levels bytes good (BeginsLevel b.dictionary b.levels bytes at (at + length piece)))

  -- the group with this head was entered, if it is one
  abbrev pub HasEnteredAvp : OpenLevels → ℕ → AvpHead → OpenLevels → Result (Option ℕ) Refusal → Type 0
  HasEnteredAvp old at head new result =
      (bytes : List ℕ) (good : HasGoodHeader b.dictionary bytes) → IsAtAvp b.dictionary b.unknown b.levels bytes good old at head
      → MatchResult result (IsEntered b.dictionary b.unknown b.levels bytes good new)
      (IsStop b.dictionary b.unknown b.levels bytes good (BeginsLevelAt b.dictionary b.levels bytes (at + head_length head.vendor)))

  -- ---- parts of a body

  -- what a piece has after a place where an AVP begins or levels end was read, up to the next part
  abbrev pub HasReadOn : OpenLevels → ℕ → List ℕ → OpenLevels → Result Done Refusal → Type 0
  HasReadOn old from piece new result =
      (bytes : List ℕ) (good : HasGoodHeader b.dictionary bytes) → IsUnderWay b.dictionary b.unknown b.levels bytes good old from → LiesAt bytes from piece
      → MatchResult result (λ done. IsNext b.dictionary b.unknown b.levels bytes good new done.next (from + done.taken))
      (IsStop b.dictionary b.unknown b.levels bytes good (BeginsLevel b.dictionary b.levels bytes from (from + length piece)))

  -- what a piece has of a part was read, up to the next part
  abbrev pub HasReadPart : OpenLevels → Part → ℕ → List ℕ → OpenLevels → Result Done Refusal → Type 0
  HasReadPart old part from piece new result =
      (bytes : List ℕ) (good : HasGoodHeader b.dictionary bytes) → IsInPart b.dictionary b.unknown b.levels bytes good old part from → LiesAt bytes from piece
      → MatchResult result (λ done. IsNext b.dictionary b.unknown b.levels bytes good new done.next (from + done.taken))
      (IsStop b.dictionary b.unknown b.levels bytes good (BeginsLevel b.dictionary b.levels bytes from (from + length piece)))

  -- the head of an AVP was read, and the next part begins
  abbrev pub HasReadHead : OpenLevels → ℕ → AvpHead → OpenLevels → Result (Option Part) Refusal → Type 0
  HasReadHead old at head new result =
      (bytes : List ℕ) (good : HasGoodHeader b.dictionary bytes) → IsAtAvp b.dictionary b.unknown b.levels bytes good old at head
      → MatchResult result (λ next. IsNext b.dictionary b.unknown b.levels bytes good new next (at + head_length head.vendor))
      (IsStop b.dictionary b.unknown b.levels bytes good (BeginsLevelAt b.dictionary b.levels bytes (at + head_length head.vendor)))

-- ---- parts of a body, where neither the policy nor the limit on levels is asked for

-- the head at a place begins, if there is room for one
abbrev pub HasBegunHead : OpenLevels → ℕ → Result HeadPart Refusal → Type 0
HasBegunHead open_levels at result =
    (d : Dictionary) (u : Unknown) (most : Levels) (bytes : List ℕ) (good : HasGoodHeader d bytes) → IsDictionary d → IsUnderWay d u most bytes good open_levels at
    → MatchResult result (λ part. IsInHead d u most bytes good open_levels part at) (IsStop d u most bytes good ⊥)

-- the levels that end at a place were closed, and the next part begins
abbrev pub HasGoneOn : Dictionary → OpenLevels → ℕ → OpenLevels → Result (Option Part) Refusal → Type 0
HasGoneOn d old at new result =
    (u : Unknown) (most : Levels) (bytes : List ℕ) (good : HasGoodHeader d bytes) → IsUnderWay d u most bytes good old at
    → MatchResult result (λ next. IsNext d u most bytes good new next at) (IsStop d u most bytes good ⊥)

-- the data that was read wholly was judged, and the next part begins
abbrev pub HasReadData : Dictionary → OpenLevels → DataPart → OpenLevels → Result (Option Part) Refusal → Type 0
HasReadData d old part new result =
    (u : Unknown) (most : Levels) (bytes : List ℕ) (good : HasGoodHeader d bytes) (n : ℕ) → IsInData d u most bytes good old part n → part.next ≤ n
    → MatchResult result (λ next. IsNext d u most bytes good new next part.next) (IsStop d u most bytes good ⊥)
