-- The AVPs of a level, one after the other.
use Rattle.std.specs.Prelude.{◌≡◌, ℕ, ◌<◌, List, [], length, Option, Some, None, Result, Ok, Err}
use Rattle.dia_wire.specs.declared.avps.Avps.{Avps}
use Rattle.dia_wire.specs.declared.avp.Avp.{Avp}
use Rattle.dia_wire.specs.declared.avp.AvpFault.{AvpFault}
use Rattle.dia_wire.specs.Wire.{BeginsWith, BeginsWithNone, plain_avp}

-- the rest of the level
abbrev pub level_left : Avps → List ℕ
level_left avps = avps.level.now

-- one step: nothing at the end; the AVP at the front, and the rest is left; or a fault, and nothing is left
abbrev pub StepsAvp : List ℕ → Option (Result Avp AvpFault) → List ℕ → Type 0
StepsAvp level None left = (level ≡ []) × (left ≡ [])
StepsAvp level (Some (Ok avp)) left = BeginsWith (plain_avp avp) level left
StepsAvp level (Some (Err fault)) left = (0 < length level) × BeginsWithNone level × (left ≡ [])
