-- A stream apart from its dictionary, and what it means.
use Rattle.std.specs.Prelude.{◌≡◌, ◌≢◌, ℕ, List, Option, Some, None, MatchOption}
use Rattle.dia_wire.specs.declared.Key.{Key}
use Rattle.dia_data.specs.Plain.{Grouped}
use Rattle.dia_data.specs.State.{HasSeenData}
use Rattle.dia_data.specs.declared.SeenData.{SeenData}
use Rattle.dia_book.specs.Dictionary.{Dictionary, DictEntry}
use Rattle.dia_terms.specs.declared.Unknown.{Unknown}
use Rattle.dia_terms.specs.declared.Levels.{Levels}
use Rattle.dia_valid.specs.Valid.{known}
use Rattle.dia_check.specs.Reading.{HasSeen}
use Rattle.dia_check.specs.Streaming.{HasTaken, IsSpentStage, IsStage}
use Rattle.dia_check.specs.declared.stream.stages.Body.{Body}
use Rattle.dia_check.specs.declared.stream.parts.Part.{Part}
use Rattle.dia_check.specs.declared.stream.parts.Part.TheVariants as part
use Rattle.dia_check.specs.declared.stream.parts.DataPart.{DataPart}
use Rattle.dia_check.specs.declared.stream.paused.Paused.{Paused}
use Rattle.dia_check.specs.declared.stream.paused.PausedBody.{PausedBody}
use Rattle.dia_check.specs.declared.stream.paused.PausedPart.{PausedPart}
use Rattle.dia_check.specs.declared.stream.paused.PausedPart.TheVariants as piece
use Rattle.dia_check.specs.declared.stream.paused.PausedData.{PausedData}

-- what was seen of the data of an AVP that is no known group, apart from the format
abbrev pub HasSeenPaused : Dictionary → Option SeenData → Key → List ℕ → Type 0
HasSeenPaused d leaf key read = MatchOption leaf (known d key ≡ None)
    (λ state. (e : DictEntry) × (known d key ≡ Some e) × (e.format ≢ Grouped) × HasSeenData state e.format read)

-- the data part is paused so: nothing changes but the leaf, which has seen the same
pub record IsPauseOfData (d : Dictionary) (x : DataPart) (p : PausedData) : Type 0 where
  pub same : p ≡ record { at = x.at; key = x.key; end = x.end; next = x.next; leaf = p.leaf }
  pub seen : (read : List ℕ) → HasSeen d x.leaf x.key read → HasSeenPaused d p.leaf x.key read

pub record IsResumeOfData (d : Dictionary) (p : PausedData) (x : DataPart) : Type 0 where
  pub same : x ≡ record { at = p.at; key = p.key; end = p.end; next = p.next; leaf = x.leaf }
  pub seen : (read : List ℕ) → HasSeenPaused d p.leaf p.key read → HasSeen d x.leaf p.key read

abbrev pub IsPauseOfPart : Dictionary → Part → PausedPart → Type 0
IsPauseOfPart d (part.Head x) (piece.Head p) = p ≡ x
IsPauseOfPart d (part.Data x) (piece.Data p) = IsPauseOfData d x p
IsPauseOfPart d (part.Head x) (piece.Data p) = ⊥
IsPauseOfPart d (part.Data x) (piece.Head p) = ⊥

abbrev pub IsResumeOfPart : Dictionary → PausedPart → Part → Type 0
IsResumeOfPart d (piece.Head p) (part.Head x) = x ≡ p
IsResumeOfPart d (piece.Data p) (part.Data x) = IsResumeOfData d p x
IsResumeOfPart d (piece.Head p) (part.Data x) = ⊥
IsResumeOfPart d (piece.Data p) (part.Head x) = ⊥

-- the body is paused so
pub record IsPauseOf (d : Dictionary) (x : Body) (p : PausedBody) : Type 0 where
  pub def : p.def ≡ x.def
  pub open_levels : p.open_levels ≡ x.open_levels
  pub part : IsPauseOfPart d x.part p.part

pub record IsResumeOf (d : Dictionary) (p : PausedBody) (x : Body) : Type 0 where
  pub def : x.def ≡ p.def
  pub open_levels : x.open_levels ≡ p.open_levels
  pub part : IsResumeOfPart d p.part x.part

-- the paused stream has taken these bytes, and checks them against this dictionary
pub record HasPaused (p : Paused) (d : Dictionary) (u : Unknown) (most : Levels) (bytes : List ℕ) : Type 0 where
  pub unknown : p.unknown ≡ u
  pub levels : p.levels ≡ most
  pub before : Body
  pub is_pause : IsPauseOf d before p.body
  pub taken : HasTaken d u most p.taken p.wanted before p.stage bytes

-- it may go on with this dictionary
pub record IsPausedFor (d : Dictionary) (p : Paused) : Type 0 where
  pub before : Body
  pub is_pause : IsPauseOf d before p.body
  pub is_stage : IsStage d p.unknown p.levels p.taken p.wanted before p.stage

-- the stream was refused memory before it was paused
abbrev pub WasSpent : Paused → Type 0
WasSpent p = IsSpentStage p.stage
