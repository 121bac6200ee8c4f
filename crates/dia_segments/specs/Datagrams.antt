-- IP datagrams.
use Rattle.std.specs.Prelude.{ℕ, ◌/◌, ◌==◌, if◌then◌else◌, List, [], ◌∷◌, Result, Err}
use Rattle.dia_segments.specs.declared.unread.Unread.{Unread}
use Rattle.dia_segments.specs.declared.unread.Unread.TheVariants.{Malformed}
use Rattle.dia_segments.specs.Plain.{PlainDatagram}
use Rattle.dia_segments.specs.Ipv4.{ipv4}
use Rattle.dia_segments.specs.Ipv6.{ipv6}
pub use Rattle.dia_segments.specs.Plain.{plain_datagram}

-- the datagram that the bytes are, of which there were so many. Its version is in the first four bits
abbrev pub datagram : List ℕ → ℕ → Result PlainDatagram Unread
datagram [] size = Err Malformed
datagram (first ∷ rest) size =
    if first / 16 == 4 then ipv4 (first ∷ rest) size else
    if first / 16 == 6 then ipv6 (first ∷ rest) size else Err Malformed
