use Rattle.std.proofs.Common.{ℕ, List}
use Rattle.dia_wire.specs.Level.{level_left}
use Rattle.dia_wire.specs.Wire.{PlainAvp}
use Rattle.dia_follow.specs.Applications.{no_apps}
use Rattle.dia_follow.specs.Fronts.{IsFront}
use Rattle.dia_follow.proofs.Recordings.{IsRecording}
use Rattle.dia_follow.proofs.contents.apps_in.Given as goal

abbrev pub invariant-loop-found : goal.invariant-loop-found
invariant-loop-found l = (avps : List PlainAvp) (left : List ℕ) → IsFront avps l.body left
    → IsRecording avps no_apps l.apps (level_left l.found-iterator) left
