-- What the bytes of a message are (RFC 6733 sections 3 and 4.1).
use Rattle.std.specs.Prelude.{◌≡◌, ◌≢◌, ◌↔◌, ℕ, ◌+◌, ◌-◌, ◌<◌, ◌≤◌, List, [], length, take, drop, slice_index, IsTrue}
use Rattle.dia_wire.specs.declared.header.Header.{Header}
use Rattle.dia_wire.specs.declared.header.HeadFault.TheVariants as fault
use Rattle.dia_wire.specs.Lengths.{header_length}
use Rattle.dia_wire.specs.Number.{number}
use Rattle.dia_wire.specs.Wire.{PlainAvp, IsHead, IsMessageLength, HasR, HasP, HasE, HasT}
use Rattle.dia_follow.specs.declared.message.Head.{Head}
use Rattle.dia_follow.specs.declared.message.Body.{Body}
use Rattle.dia_follow.specs.declared.message.Body.TheVariants.{Cut, Gap, Known}
use Rattle.dia_follow.specs.declared.message.Message.{Message as AnyMessage}
use Rattle.dia_follow.specs.declared.message.Seen.{Seen}
use Rattle.dia_follow.specs.declared.message.Seen.TheVariants.{Unread, Message}
use Rattle.dia_follow.specs.Fronts.{IsFront}
use Rattle.dia_follow.specs.Contents.{IsIn}

-- the fields of a header, its flags one by one
pub record HasFields (h : Head) (header : Header) : Type 0 where
  pub request : IsTrue h.request ↔ HasR header.flags
  pub proxiable : IsTrue h.proxiable ↔ HasP header.flags
  pub error : IsTrue h.error ↔ HasE header.flags
  pub retransmitted : IsTrue h.retransmitted ↔ HasT header.flags
  pub code : h.code ≡ header.code
  pub app : h.app ≡ header.app
  pub hop : h.hop ≡ header.hop
  pub e2e : h.e2e ≡ header.e2e

-- the bytes of the body of a message of n bytes
abbrev pub body_bytes : List ℕ → ℕ → List ℕ
body_bytes bytes n = take (n - header_length) (drop header_length bytes)

-- what is known of the body of a message of n bytes: bytes are missing, or no AVP begins at this byte, or all AVPs are known
abbrev pub IsBody : List ℕ → ℕ → Body → Type 0
IsBody bytes n Cut = length bytes < n
IsBody bytes n (Gap at) = (n ≤ length bytes) × ((avps : List PlainAvp) × (left : List ℕ) × IsFront avps (body_bytes bytes n) left × (0 < length left) × (at + length left ≡ n))
IsBody bytes n (Known c) = (n ≤ length bytes) × ((avps : List PlainAvp) × IsFront avps (body_bytes bytes n) [] × IsIn avps c)

pub record IsRead (bytes : List ℕ) (m : AnyMessage) : Type 0 where
  pub header : Header
  pub is_head : IsHead header m.length (take header_length bytes)
  pub fields : HasFields m.head header
  pub long : IsMessageLength m.length
  pub body : IsBody bytes m.length m.body

-- the first reason why a header can't be read, or the message
abbrev pub IsSeen : List ℕ → Seen → Type 0
IsSeen bytes (Unread fault.Short) = length bytes < header_length
IsSeen bytes (Unread fault.Version) = (header_length ≤ length bytes) × (slice_index bytes 0 ≢ 1)
IsSeen bytes (Unread fault.Length) = (header_length ≤ length bytes) × (slice_index bytes 0 ≡ 1) × ¬ IsMessageLength (number (take 3 (drop 1 bytes)))
IsSeen bytes (Message m) = IsRead bytes m

-- bytes are one thing
abbrev pub BytesHaveOneReading : Type 0
BytesHaveOneReading = (bytes : List ℕ) (a b : Seen) → IsSeen bytes a → IsSeen bytes b → a ≡ b
