-- TCP segments (RFC 9293 section 3.1): ports at 0 and 2, sequence number at 4, header length at 12, flags at 13.
use Rattle.std.specs.Prelude.{ℕ, ◌-◌, ◌*◌, ◌/◌, ◌%◌, ◌==◌, ◌&&◌, nat_le, if◌then◌else◌, min, Bool, List, length, drop, slice_index, is_some, Result, Ok, Err}
use Rattle.dia_segments.specs.declared.segments.End.{End}
use Rattle.dia_segments.specs.declared.segments.Segment.{Segment}
use Rattle.dia_segments.specs.declared.unread.Unread.{Unread}
use Rattle.dia_segments.specs.declared.unread.Unread.TheVariants.{Fragment, Malformed, Protocol}
use Rattle.dia_segments.specs.Datagrams.{datagram}
use Rattle.dia_segments.specs.Links.{network}
use Rattle.dia_segments.specs.Numbers.{number_at}
use Rattle.dia_segments.specs.Plain.{PlainDatagram}

-- an end of a connection
pub record PlainEnd : Type 0 where
  pub address : List ℕ
  pub port : ℕ

abbrev pub plain_end : End → PlainEnd
plain_end e = record { address = e.address.now; port = e.port }

-- the size is how many bytes there were; the others were captured
pub record PlainSegment : Type 0 where
  pub source : PlainEnd
  pub target : PlainEnd
  pub number : ℕ
  pub syn : Bool
  pub ack : Bool
  pub bytes : List ℕ
  pub size : ℕ

abbrev pub plain_segment : Segment → PlainSegment
plain_segment s = record { source = plain_end s.source; target = plain_end s.target; number = s.number; syn = s.syn; ack = s.ack; bytes = s.bytes.now; size = s.size }

-- how many bytes the header has, with its options
abbrev pub header_length : List ℕ → ℕ
header_length bytes = slice_index bytes 12 / 16 * 4

-- acknowledgement number, window, urgent pointer, options and the other flags aren't read
abbrev pub tcp_segment : PlainDatagram → PlainSegment
tcp_segment d = record {
  source = record { address = d.source; port = number_at 2 0 d.bytes };
  target = record { address = d.target; port = number_at 2 2 d.bytes };
  number = number_at 4 4 d.bytes;
  syn = slice_index d.bytes 13 / 2 % 2 == 1;
  ack = slice_index d.bytes 13 / 16 % 2 == 1;
  bytes = drop (min (header_length d.bytes) (length d.bytes)) d.bytes;
  size = d.size - header_length d.bytes;
}

-- the header is there up to its options, and within the datagram
abbrev pub has_header : PlainDatagram → Bool
has_header d = nat_le 20 (length d.bytes) && nat_le 20 (header_length d.bytes) && nat_le (header_length d.bytes) d.size

-- the segment that a datagram is
abbrev pub segment : PlainDatagram → Result PlainSegment Unread
segment d =
    if d.protocol == 6 then (if is_some d.fragment then Err Fragment else if has_header d then Ok (tcp_segment d) else Err Malformed)
    else Err (Protocol d.protocol)

-- ---- a packet of a link type, of which there were so many bytes

abbrev pub segment_in : Result PlainDatagram Unread → Result PlainSegment Unread
segment_in (Ok d) = segment d
segment_in (Err why) = Err why

abbrev pub segment_behind : (bytes : List ℕ) (size : ℕ) → Result (List ℕ) Unread → Result PlainSegment Unread
segment_behind bytes size (Ok rest) = segment_in (datagram rest (size - (length bytes - length rest)))
segment_behind bytes size (Err why) = Err why

abbrev pub segment_of : (link : ℕ) (bytes : List ℕ) (size : ℕ) → Result PlainSegment Unread
segment_of link bytes size = segment_behind bytes size (network link bytes)
