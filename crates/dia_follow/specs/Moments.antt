-- What is there as a message comes.
use Rattle.std.specs.Prelude.{ℕ, Option}
use Rattle.dia_follow.specs.declared.end.End.{End}
use Rattle.dia_follow.specs.declared.phase.Phase.{Phase}
use Rattle.dia_follow.specs.declared.side.Side.{Side}
use Rattle.dia_follow.specs.declared.message.Line.{Line}
use Rattle.dia_follow.specs.declared.message.Message.{Message}
use Rattle.dia_follow.specs.declared.request.Request.{Request}

-- the message of a line, of one end; what is known of that end and of the other; the time of the line before; and the request that
-- it answers
pub record PlainMoment : Type 0 where
  pub phase : Phase
  pub from : End
  pub own : Side
  pub other : Side
  pub last : Option ℕ
  pub line : Line
  pub message : Message
  pub request : Option Request
