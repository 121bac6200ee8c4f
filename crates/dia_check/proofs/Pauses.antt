-- A stream that was paused and resumed has taken what it had taken.
use Rattle.std.proofs.Common.{◌≡◌, ℕ, ◌+◌, ◌-◌, ◌<◌, List, take, subst, sym, ap, ◌∙◌}
use Rattle.dia_book.specs.Dictionary.{Dictionary}
use Rattle.dia_terms.specs.declared.Unknown.{Unknown}
use Rattle.dia_terms.specs.declared.Levels.{Levels}
use Rattle.dia_check.specs.declared.open_levels.OpenLevels.{OpenLevels}
use Rattle.dia_check.specs.declared.stream.stages.Stage.{Stage}
use Rattle.dia_check.specs.declared.stream.stages.Stage.TheVariants as stage
use Rattle.dia_check.specs.declared.stream.stages.Body.{Body}
use Rattle.dia_check.specs.declared.stream.parts.Part.{Part}
use Rattle.dia_check.specs.declared.stream.parts.Part.TheVariants as part
use Rattle.dia_check.specs.declared.stream.parts.DataPart.{DataPart}
use Rattle.dia_check.specs.declared.stream.paused.PausedData.{PausedData}
use Rattle.dia_wire.specs.Wire.{head_length}
use Rattle.dia_check.specs.declared.stream.paused.PausedBody.{PausedBody}
use Rattle.dia_check.specs.declared.stream.paused.PausedPart.{PausedPart}
use Rattle.dia_check.specs.declared.stream.paused.PausedPart.TheVariants as piece
use Rattle.dia_check.specs.Faults.{HasGoodHeader}
use Rattle.dia_check.specs.Reading.{HasSeen, IsInHead, IsInData, IsInPart}
use Rattle.dia_check.specs.Streaming.{HasRead, HasTaken, IsReading, IsSpentStage, IsStage}
use Rattle.dia_check.specs.Pauses.{HasSeenPaused, IsPauseOf, IsPauseOfData, IsPauseOfPart, IsResumeOf, IsResumeOfData, IsResumeOfPart}

leaf_goes : (d : Dictionary) (x : DataPart) (p : PausedData) (y : DataPart) (read : List ℕ) → IsPauseOfData d x p → IsResumeOfData d p y → HasSeen d x.leaf x.key read → HasSeen d y.leaf x.key read
leaf_goes d x p y read pause resume seen =
    let k : p.key ≡ x.key = ap (λ q. q.key) pause.same in
    subst (λ key. HasSeen d y.leaf key read) k (resume.seen read (subst (λ key. HasSeenPaused d p.leaf key read) (sym k) (pause.seen read seen)))

part_goes : (d : Dictionary) (u : Unknown) (most : Levels) (bytes : List ℕ) (good : HasGoodHeader d bytes) (o : OpenLevels) (n : ℕ) (x : Part) (p : PausedPart) (y : Part)
    → IsPauseOfPart d x p → IsResumeOfPart d p y → IsInPart d u most bytes good o x n → IsInPart d u most bytes good o y n
part_goes d u most bytes good o n (part.Head x) (piece.Head p) (part.Head y) pause resume h = subst (λ k. IsInHead d u most bytes good o k n) (sym (resume ∙ pause)) h
part_goes d u most bytes good o n (part.Data x) (piece.Data p) (part.Data y) pause resume h =
    let e : y ≡ record { at = x.at; key = x.key; end = x.end; next = x.next; leaf = y.leaf } = resume.same ∙ ap (λ q. record { at = q.at; key = q.key; end = q.end; next = q.next; leaf = y.leaf }) pause.same in
    subst (λ w. IsInData d u most bytes good o w n × (n < w.next)) (sym e) (
      record {
        before = h.0.before;
        under_way = h.0.under_way;
        avp = h.0.avp;
        rest = h.0.rest;
        begins = h.0.begins;
        is_key = h.0.is_key;
        is_end = h.0.is_end;
        is_next = h.0.is_next;
        admitted = h.0.admitted;
        occurs = h.0.occurs;
        from = h.0.from;
        seen = leaf_goes d x p y (take (n - (x.at + head_length h.0.avp.vendor)) h.0.avp.bytes) pause resume h.0.seen;
      },
      h.1,
    )
part_goes d u most bytes good o n (part.Head x) (piece.Data p) y pause resume h = absurd pause
part_goes d u most bytes good o n (part.Data x) (piece.Head p) y pause resume h = absurd pause
part_goes d u most bytes good o n (part.Head x) (piece.Head p) (part.Data y) pause resume h = absurd resume
part_goes d u most bytes good o n (part.Data x) (piece.Data p) (part.Head y) pause resume h = absurd resume

reading_goes : (d : Dictionary) (u : Unknown) (most : Levels) (bytes : List ℕ) (n : ℕ) (x : Body) (p : PausedBody) (y : Body)
    → IsPauseOf d x p → IsResumeOf d p y → IsReading d u most x n bytes → IsReading d u most y n bytes
reading_goes d u most bytes n x p y pause resume h =
    let (good, is, in_part) = h in (
      good,
      is ∙ sym pause.def ∙ sym resume.def,
      subst (λ o. IsInPart d u most bytes good o y.part n) (sym (resume.open_levels ∙ pause.open_levels))
          (part_goes d u most bytes good x.open_levels n x.part p.part y.part pause.part resume.part in_part),
    )

read_goes : (d : Dictionary) (u : Unknown) (most : Levels) (bytes : List ℕ) (x : Body) (p : PausedBody) (y : Body) (s : Stage)
    → IsPauseOf d x p → IsResumeOf d p y → HasRead d u most bytes x s → HasRead d u most bytes y s
read_goes d u most bytes x p y (stage.Header front) pause resume h = h
read_goes d u most bytes x p y (stage.Over answer) pause resume h = h
read_goes d u most bytes x p y stage.NoMemory pause resume h = h
read_goes d u most bytes x p y stage.InBody pause resume h =
    let (long, sound, short, however) = h in
    (long, sound, short, λ more size. reading_goes d u most _ _ x p y pause resume (however more size))

-- what was taken stays taken
pub taken_goes : (d : Dictionary) (u : Unknown) (most : Levels) (taken all : ℕ) (bytes : List ℕ) (x : Body) (p : PausedBody) (y : Body) (s : Stage)
    → IsPauseOf d x p → IsResumeOf d p y → HasTaken d u most taken all x s bytes → HasTaken d u most taken all y s bytes
taken_goes d u most taken all bytes x p y s pause resume h = record {
  sound = h.sound;
  count = h.count;
  wants = h.wants;
  few = h.few;
  within = h.within;
  read = read_goes d u most bytes x p y s pause resume h.read;
}

pub stage_goes : (d : Dictionary) (u : Unknown) (most : Levels) (taken all : ℕ) (x : Body) (p : PausedBody) (y : Body) (s : Stage)
    → IsPauseOf d x p → IsResumeOf d p y → IsStage d u most taken all x s → IsStage d u most taken all y s
stage_goes d u most taken all x p y stage.NoMemory pause resume h = tt
stage_goes d u most taken all x p y (stage.Header front) pause resume (bytes, h) = (bytes, taken_goes d u most taken all bytes x p y (stage.Header front) pause resume h)
stage_goes d u most taken all x p y (stage.Over answer) pause resume (bytes, h) = (bytes, taken_goes d u most taken all bytes x p y (stage.Over answer) pause resume h)
stage_goes d u most taken all x p y stage.InBody pause resume (bytes, h) = (bytes, taken_goes d u most taken all bytes x p y stage.InBody pause resume h)

-- memory was not refused where something was read
pub not_spent : (d : Dictionary) (u : Unknown) (most : Levels) (bytes : List ℕ) (body : Body) (s : Stage) → HasRead d u most bytes body s → ¬ IsSpentStage s
not_spent d u most bytes body stage.NoMemory read spent = absurd read
not_spent d u most bytes body (stage.Header front) read spent = absurd spent
not_spent d u most bytes body (stage.Over answer) read spent = absurd spent
not_spent d u most bytes body stage.InBody read spent = absurd spent
