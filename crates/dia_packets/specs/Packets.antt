-- Packets as plain values.
use Rattle.std.specs.Prelude.{ℕ, List, Option}
use Rattle.dia_packets.specs.declared.packet.Packet.{Packet}
use Rattle.dia_packets.specs.declared.packet.Captured.{Captured}

-- the size is how many bytes there were on the link; the others were captured
pub record PlainPacket : Type 0 where
  pub number : ℕ
  pub time : Option ℕ
  pub link : ℕ
  pub bytes : List ℕ
  pub size : ℕ

abbrev pub plain_packet : Packet → PlainPacket
plain_packet p = record { number = p.number; time = p.time; link = p.link; bytes = p.bytes.items; size = p.size }

-- the packet of this number
abbrev pub numbered : ℕ → Captured → PlainPacket
numbered n c = record { number = n; time = c.time; link = c.link; bytes = c.bytes.now; size = c.size }
