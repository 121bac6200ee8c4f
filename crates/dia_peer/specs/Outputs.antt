-- What a core does, without where its bytes lie in memory.
use Rattle.std.specs.Prelude.{ℕ, List, ⊤}
use Rattle.dia_peer.specs.declared.event.Why.{Why}
use Rattle.dia_peer.specs.declared.event.Output.{Output}
use Rattle.dia_peer.specs.declared.event.Output.TheVariants as output
use Rattle.dia_peer.specs.World.{AreBytes}

pub data PlainOutput : Type 0 where
  SentBytes : (bytes : List ℕ) → PlainOutput
  ClosedFor : (why : Why) → PlainOutput

abbrev pub plain_output : Output → PlainOutput
plain_output (output.Send bytes) = SentBytes bytes.items
plain_output (output.Close why) = ClosedFor why

-- each number that is sent is a byte
abbrev pub SendsBytes : Output → Type 0
SendsBytes (output.Send bytes) = AreBytes bytes.items
SendsBytes (output.Close why) = ⊤
