-- IPv4 (RFC 791 section 3.1): version and header length, total length at 2, identification at 4, flags and offset at 6, protocol at 9,
-- addresses at 12 and 16. Checksums aren't verified: the host that sends leaves them to its network card.
use Rattle.std.specs.Prelude.{ℕ, ◌-◌, ◌*◌, ◌/◌, ◌%◌, ◌==◌, ◌&&◌, nat_le, if◌then◌else◌, min, Bool, List, length, take, drop, slice_index, Option, Some, None, Result, Ok, Err}
use Rattle.dia_segments.specs.declared.datagrams.Fragment.{Fragment}
use Rattle.dia_segments.specs.declared.unread.Unread.{Unread}
use Rattle.dia_segments.specs.declared.unread.Unread.TheVariants.{Malformed}
use Rattle.dia_segments.specs.Numbers.{number_at}
use Rattle.dia_segments.specs.Plain.{PlainDatagram}

-- how many bytes the header has, with its options
abbrev pub header_length : List ℕ → ℕ
header_length bytes = slice_index bytes 0 % 16 * 4

-- total length 0 is that of the packet, which the network card cuts into segments
abbrev pub total_length : List ℕ → ℕ → ℕ
total_length bytes size = if number_at 2 2 bytes == 0 then size else number_at 2 2 bytes

-- a whole datagram has offset 0, and no fragment behind it. Offsets count eight bytes
abbrev pub fragment_of : List ℕ → Option Fragment
fragment_of bytes =
    if number_at 2 6 bytes % 16384 == 0 then None else
    Some (record { key = number_at 2 4 bytes; at = number_at 2 6 bytes % 8192 * 8; more = number_at 2 6 bytes / 8192 % 2 == 1 })

-- the header is all there, and within the total length
abbrev pub has_header : List ℕ → ℕ → Bool
has_header bytes size = nat_le 20 (length bytes) && nat_le 20 (header_length bytes) && nat_le (header_length bytes) (length bytes)
    && nat_le (header_length bytes) (total_length bytes size)

-- bytes after the total length aren't part of it
abbrev pub ipv4_datagram : List ℕ → ℕ → PlainDatagram
ipv4_datagram bytes size = record {
  source = take 4 (drop 12 bytes);
  target = take 4 (drop 16 bytes);
  protocol = slice_index bytes 9;
  fragment = fragment_of bytes;
  bytes = take (min (length bytes) (total_length bytes size) - header_length bytes) (drop (header_length bytes) bytes);
  size = total_length bytes size - header_length bytes;
}

abbrev pub ipv4 : List ℕ → ℕ → Result PlainDatagram Unread
ipv4 bytes size = if has_header bytes size then Ok (ipv4_datagram bytes size) else Err Malformed
