-- IPv6 (RFC 8200 sections 3 and 4): payload length at 4, next header at 6, addresses at 8 and 24.
use Rattle.std.specs.Prelude.{ℕ, zero, suc, ◌+◌, ◌-◌, ◌*◌, ◌/◌, ◌%◌, ◌==◌, ◌&&◌, ◌||◌, nat_le, if◌then◌else◌, min, List, length, take, drop, slice_index, Option, Some, None, Result, Ok, Err}
use Rattle.dia_segments.specs.declared.datagrams.Fragment.{Fragment}
use Rattle.dia_segments.specs.declared.extensions.Payload.{Payload}
use Rattle.dia_segments.specs.declared.unread.Unread.{Unread}
use Rattle.dia_segments.specs.declared.unread.Unread.TheVariants.{Malformed}
use Rattle.dia_segments.specs.Numbers.{number_at}
use Rattle.dia_segments.specs.Plain.{PlainDatagram}

-- the bytes of a protocol that were captured, and how many there were
pub record PlainPayload : Type 0 where
  pub protocol : ℕ
  pub bytes : List ℕ
  pub size : ℕ

abbrev pub plain_payload : Payload → PlainPayload
plain_payload p = record { protocol = p.protocol; bytes = p.bytes.now; size = p.size }

-- ---- extension headers

-- how many bytes the one at the front has: hop-by-hop options, routing, destination options, mobility; authentication
abbrev pub extension_length : PlainPayload → Option ℕ
extension_length p =
    if p.protocol == 0 || p.protocol == 43 || p.protocol == 60 || p.protocol == 135 then Some ((slice_index p.bytes 1 + 1) * 8) else
    if p.protocol == 51 then Some ((slice_index p.bytes 1 + 2) * 4) else None

-- what follows one of so many bytes
abbrev pub after_header : ℕ → PlainPayload → PlainPayload
after_header n p = record { protocol = slice_index p.bytes 0; bytes = drop n p.bytes; size = p.size - n }

-- what follows the header at the front, if there is one
abbrev pub past : (PlainPayload → Result PlainPayload Unread) → PlainPayload → Option ℕ → Result PlainPayload Unread
past rest p None = Ok p
past rest p (Some n) = if nat_le n (length p.bytes) && nat_le n p.size then rest (after_header n p) else Err Malformed

-- what follows all of them, of which there are at most so many
abbrev pub extended : ℕ → PlainPayload → Result PlainPayload Unread
extended zero p = past (λ q. Err Malformed) p (extension_length p)
extended (suc most) p = past (λ q. extended most q) p (extension_length p)

-- ---- the fragment header: next header, offset and flags at 2, identification at 4

abbrev pub fragment_of : List ℕ → Fragment
fragment_of bytes = record { key = number_at 4 4 bytes; at = number_at 2 2 bytes / 8 * 8; more = number_at 2 2 bytes % 2 == 1 }

abbrev pub with_addresses : (source target : List ℕ) → PlainPayload → Result PlainDatagram Unread
with_addresses source target p =
    if p.protocol == 44 then (if nat_le 8 (length p.bytes) && nat_le 8 p.size
    then Ok (record { source = source; target = target; protocol = slice_index p.bytes 0; fragment = Some (fragment_of p.bytes); bytes = drop 8 p.bytes; size = p.size - 8 })
    else Err Malformed)
    else Ok (record { source = source; target = target; protocol = p.protocol; fragment = None; bytes = p.bytes; size = p.size })

-- ---- the datagram

-- payload length 0 is that of the packet, which the network card cuts into segments
abbrev pub payload_size : List ℕ → ℕ → ℕ
payload_size bytes size = if number_at 2 4 bytes == 0 then size - 40 else number_at 2 4 bytes

abbrev pub payload_of : List ℕ → ℕ → PlainPayload
payload_of bytes size = record { protocol = slice_index bytes 6; bytes = take (min (length bytes) (40 + payload_size bytes size) - 40) (drop 40 bytes); size = payload_size bytes size }

abbrev pub on_ok : (PlainPayload → Result PlainDatagram Unread) → Result PlainPayload Unread → Result PlainDatagram Unread
on_ok f (Ok p) = f p
on_ok f (Err why) = Err why

abbrev pub all_extended : PlainPayload → Result PlainPayload Unread
all_extended p = extended (length p.bytes) p

abbrev pub ipv6 : List ℕ → ℕ → Result PlainDatagram Unread
ipv6 bytes size =
    if nat_le 40 (length bytes) then on_ok (λ p. with_addresses (take 16 (drop 8 bytes)) (take 16 (drop 24 bytes)) p) (all_extended (payload_of bytes size)) else Err Malformed
