-- The applications of AVPs, of which some were passed.
use Rattle.std.proofs.Common.{◌≡◌, ℕ, Bool, true, false, List, sym, subst, refl}
use Rattle.dia_wire.specs.Wire.{PlainAvp, BeginsWith, BeginsWithNone}
use Rattle.dia_follow.specs.Applications.{Apps}
use Rattle.std.specs.List.{fold}
use Rattle.dia_follow.specs.Fronts.{IsFront, is_avp}
use Rattle.dia_follow.specs.Contents.{AreRecorded, Records, RecordsBy, add_named}
use Rattle.dia_follow.proofs.Fronts.{front_first, front_none}

pub record IsRecording (avps : List PlainAvp) (start apps : Apps) (level left : List ℕ) : Type 0 where
  pub now : List PlainAvp
  pub front : IsFront now level left
  pub rest : (after : Apps) → AreRecorded now apps after → AreRecorded avps start after

pub report_on : (avps : List PlainAvp) (start apps new : Apps) (level left : List ℕ) (v : PlainAvp) (following : List ℕ) → IsRecording avps start apps level left → BeginsWith v level following → Records v apps new
    → IsRecording avps start new following left
report_on avps start apps new level left v following t b records =
    let (more, is, front) = front_first t.now v level following left t.front b in
    record { now = more; front = front; rest = λ after recorded. t.rest after (subst (λ (vs : List PlainAvp). AreRecorded vs apps after) (sym is) (new, records, recorded)) }

pub report_end : (avps : List PlainAvp) (start apps : Apps) (level left : List ℕ) → IsRecording avps start apps level left → BeginsWithNone level → AreRecorded avps start apps
report_end avps start apps level left t none = t.rest apps (subst (λ (vs : List PlainAvp). AreRecorded vs apps apps) (sym (front_none t.now level left t.front none)) refl)

-- an AVP and those inside it
pub records_inside : (v : PlainAvp) (before after : Apps) → true ≡ is_avp 260 v → (inner : List PlainAvp) × (left : List ℕ) × IsFront inner v.bytes left
    → ((inner : List PlainAvp) (left : List ℕ) → IsFront inner v.bytes left → after ≡ fold add_named before inner) → Records v before after
records_inside v before after is (inner, left, front) all = subst (λ (b : Bool). RecordsBy b v before after) is (inner, left, front, all inner left front)

pub records_itself : (v : PlainAvp) (before after : Apps) → false ≡ is_avp 260 v → after ≡ add_named before v → Records v before after
records_itself v before after is adds = subst (λ (b : Bool). RecordsBy b v before after) is adds
