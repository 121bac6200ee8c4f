-- Datagrams as plain values.
use Rattle.std.specs.Prelude.{ℕ, List, Option}
use Rattle.dia_segments.specs.declared.datagrams.Datagram.{Datagram}
use Rattle.dia_segments.specs.declared.datagrams.Fragment.{Fragment}

-- the size is how many bytes there were; the others were captured
pub record PlainDatagram : Type 0 where
  pub source : List ℕ
  pub target : List ℕ
  pub protocol : ℕ
  pub fragment : Option Fragment
  pub bytes : List ℕ
  pub size : ℕ

abbrev pub plain_datagram : Datagram → PlainDatagram
plain_datagram d = record { source = d.source.now; target = d.target.now; protocol = d.protocol; fragment = d.fragment; bytes = d.bytes.now; size = d.size }
