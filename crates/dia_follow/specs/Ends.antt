-- The two ends of a connection, and how far their capabilities exchange came (RFC 6733 section 5.3).
use Rattle.std.specs.Prelude.{Bool, true, false, Option, Some, None}
use Rattle.dia_follow.specs.declared.end.End.{End}
use Rattle.dia_follow.specs.declared.end.End.TheVariants.{Initiator, Responder}
use Rattle.dia_follow.specs.declared.phase.Phase.{Phase}
use Rattle.dia_follow.specs.declared.phase.Phase.TheVariants.{Start, Asked, Open, Refused, Middle}

abbrev pub other : End → End
other Initiator = Responder
other Responder = Initiator

abbrev pub same_end : End → End → Bool
same_end Initiator Initiator = true
same_end Responder Responder = true
same_end Initiator Responder = false
same_end Responder Initiator = false

-- the end that sent the CER
abbrev pub asker : Phase → Option End
asker (Asked e) = Some e
asker (Open e) = Some e
asker (Refused e) = Some e
asker Start = None
asker Middle = None

-- a CEA came, so both ends have advertised their applications
abbrev pub is_agreed : Phase → Bool
is_agreed (Open e) = true
is_agreed (Refused e) = true
is_agreed Start = false
is_agreed (Asked e) = false
is_agreed Middle = false
