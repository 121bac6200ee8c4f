use Rattle.std.proofs.Common.{◌↔◌, length}
use Rattle.dia_reading.specs.Messages.{AreAvps}
use Rattle.dia_reading.proofs.messages.are_avps.Given as goal

-- the level is AVPs if the rest is
abbrev pub invariant-loop-avp : goal.invariant-loop-avp
invariant-loop-avp l = AreAvps l.level ↔ AreAvps l.rest

abbrev pub decreases-loop-avp : goal.decreases-loop-avp
decreases-loop-avp l = length l.rest
