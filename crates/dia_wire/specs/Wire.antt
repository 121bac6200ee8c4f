-- Messages and AVPs on the wire (RFC 6733 sections 3 and 4.1).
use Rattle.std.specs.Prelude.{◌≡◌, ℕ, ◌+◌, ◌*◌, ◌/◌, ◌%◌, ◌<◌, ◌≤◌, ◌↔◌, ◌⊎◌, List, [], ◌∷◌, ◌++◌, length, take, Option, Some, None, IsSome, All, Any, sum_by, unwrap_or, slice_index}
use Rattle.std.specs.Int.{IsBitSet}
use Rattle.dia_wire.specs.declared.header.Header.{Header}
use Rattle.dia_wire.specs.declared.avp.Avp.{Avp}
use Rattle.dia_wire.specs.declared.avp_key.Key.{Key}
use Rattle.dia_wire.specs.declared.avp.AvpHead.{AvpHead}
use Rattle.dia_wire.specs.Number.{IsField}
use Rattle.dia_wire.specs.Lengths.{header_length, avp_head_length, vendor_avp_head_length, three_bytes}

-- ---- AVPs (RFC 6733 section 4.1)

-- an AVP as a plain value
pub record PlainAvp : Type 0 where
  pub code : ℕ
  pub flags : ℕ
  pub vendor : Option ℕ
  pub bytes : List ℕ

abbrev pub plain_avp : Avp → PlainAvp
plain_avp v = record { code = v.code; flags = v.flags; vendor = v.vendor; bytes = v.bytes.now }

-- the V flag says that a Vendor-ID is there
abbrev pub HasVendorFlag : ℕ → Type 0
HasVendorFlag flags = IsBitSet flags 7

-- the M flag says that a receiver has to understand the AVP
abbrev pub HasM : ℕ → Type 0
HasM flags = IsBitSet flags 6

-- the V flag is set exactly where there is a Vendor-ID
abbrev pub Agrees : PlainAvp → Type 0
Agrees v = HasVendorFlag v.flags ↔ IsSome v.vendor

-- the bytes before the data
abbrev pub head_length : Option ℕ → ℕ
head_length None = avp_head_length
head_length (Some vendor) = vendor_avp_head_length

-- AVP Length: the header, the Vendor-ID and the data, and no padding
abbrev pub avp_length : PlainAvp → ℕ
avp_length v = head_length v.vendor + length v.bytes

-- the Vendor-ID field, which may be absent
abbrev pub IsVendorField : Option ℕ → List ℕ → Type 0
IsVendorField None bytes = bytes ≡ []
IsVendorField (Some vendor) bytes = IsField 4 vendor bytes

-- these bytes spell the AVP: code, flags, length, vendor, data, and padding of any value to a multiple of four
pub record Spells (v : PlainAvp) (b : List ℕ) : Type 0 where
  pub code : List ℕ
  pub len : List ℕ
  pub vendor : List ℕ
  pub padding : List ℕ
  pub parts : b ≡ code ++ (v.flags ∷ len) ++ vendor ++ v.bytes ++ padding
  pub code_field : IsField 4 v.code code
  pub length_field : IsField 3 (avp_length v) len
  pub vendor_field : IsVendorField v.vendor vendor
  pub agrees : Agrees v
  pub short_padding : length padding < 4
  pub aligned : length b % 4 ≡ 0

-- the AVPs one after the other, each spelled once
abbrev pub SpellsAll : List PlainAvp → List ℕ → Type 0
SpellsAll [] b = b ≡ []
SpellsAll (v ∷ vs) b = (front : List ℕ) × (rest : List ℕ) × Spells v front × (b ≡ front ++ rest) × SpellsAll vs rest

-- the level begins with a spelling of the AVP, and the rest follows
abbrev pub BeginsWith : PlainAvp → List ℕ → List ℕ → Type 0
BeginsWith v level rest = (front : List ℕ) × Spells v front × (level ≡ front ++ rest)

-- no front of the level spells an AVP
abbrev pub BeginsWithNone : List ℕ → Type 0
BeginsWithNone level = (v : PlainAvp) (rest : List ℕ) → BeginsWith v level rest → ⊥

-- a spelling whose padding is zero bytes
pub record SpellsWithZeros (v : PlainAvp) (b : List ℕ) : Type 0 where
  pub spells : Spells v b
  pub zeros : All (λ byte. byte ≡ 0) spells.padding

-- no Vendor-ID and the Vendor-ID 0 name one code space
abbrev pub key_of : PlainAvp → Key
key_of v = record { code = v.code; vendor = unwrap_or v.vendor 0 }

-- ---- messages (RFC 6733 section 3)

-- the Command Flags: a request, proxiable, an error, and maybe sent before
abbrev pub HasR : ℕ → Type 0
HasR flags = IsBitSet flags 7

abbrev pub HasP : ℕ → Type 0
HasP flags = IsBitSet flags 6

abbrev pub HasE : ℕ → Type 0
HasE flags = IsBitSet flags 5

abbrev pub HasT : ℕ → Type 0
HasT flags = IsBitSet flags 4

-- what a Message Length can be
pub record IsMessageLength (n : ℕ) : Type 0 where
  pub no_less : header_length ≤ n
  pub aligned : n % 4 ≡ 0

-- the bytes of a header with this Message Length
pub record IsHead (h : Header) (n : ℕ) (b : List ℕ) : Type 0 where
  pub len : List ℕ
  pub code : List ℕ
  pub app : List ℕ
  pub hop : List ℕ
  pub e2e : List ℕ
  pub parts : b ≡ (1 ∷ len) ++ (h.flags ∷ code) ++ app ++ hop ++ e2e
  pub length_field : IsField 3 n len
  pub code_field : IsField 3 h.code code
  pub app_field : IsField 4 h.app app
  pub hop_field : IsField 4 h.hop hop
  pub e2e_field : IsField 4 h.e2e e2e

-- the bytes begin with the header of a message of n bytes
abbrev pub BeginsMessage : List ℕ → ℕ → Type 0
BeginsMessage bytes n = (h : Header) × IsHead h n (take header_length bytes) × IsMessageLength n

-- the bytes are the message of this header and these AVPs
pub record IsMessage (h : Header) (vs : List PlainAvp) (b : List ℕ) : Type 0 where
  pub head : List ℕ
  pub body : List ℕ
  pub parts : b ≡ head ++ body
  pub is_head : IsHead h (length b) head
  pub is_body : SpellsAll vs body

-- ---- the head of an AVP before its data is there

-- the first bytes of a level of this many bytes, however it goes on, begin with no spelling
abbrev pub CannotBegin : List ℕ → ℕ → Type 0
CannotBegin bytes room = (more : List ℕ) → length (bytes ++ more) ≡ room → BeginsWithNone (bytes ++ more)

-- the AVP has the fields of the head
pub record HasHead (head : AvpHead) (v : PlainAvp) : Type 0 where
  pub code : v.code ≡ head.code
  pub flags : v.flags ≡ head.flags
  pub vendor : v.vendor ≡ head.vendor
  pub len : avp_length v ≡ head.length

-- each AVP that the bytes begin, however they go on, has this head
abbrev pub Heads : List ℕ → AvpHead → Type 0
Heads bytes head = (more : List ℕ) (v : PlainAvp) (rest : List ℕ) → BeginsWith v (bytes ++ more) rest → HasHead head v

-- a Length that no AVP can have with these flags, or that is too long for the room
abbrev pub IsBadLength : ℕ → ℕ → ℕ → Type 0
IsBadLength flags len room = (len < avp_head_length) ⊎ (HasVendorFlag flags × (len < vendor_avp_head_length)) ⊎ (room < (len + 3) / 4 * 4)

-- the bytes hold all of the head
abbrev pub HasWholeHead : List ℕ → Type 0
HasWholeHead bytes = (avp_head_length ≤ length bytes) × (HasVendorFlag (slice_index bytes 4) → vendor_avp_head_length ≤ length bytes)

-- ---- writing

-- the AVPs one after the other, each padded with zero bytes
abbrev pub SpellsAllWithZeros : List PlainAvp → List ℕ → Type 0
SpellsAllWithZeros [] b = b ≡ []
SpellsAllWithZeros (v ∷ vs) b = (front : List ℕ) × (rest : List ℕ) × SpellsWithZeros v front × (b ≡ front ++ rest) × SpellsAllWithZeros vs rest

-- the message of this header and these AVPs, padded with zero bytes
pub record MessageWithZeros (h : Header) (vs : List PlainAvp) (b : List ℕ) : Type 0 where
  pub message : IsMessage h vs b
  pub zeros : SpellsAllWithZeros vs message.body

-- how many bytes an AVP takes with its padding
abbrev pub padded_length : PlainAvp → ℕ
padded_length v = (avp_length v + 3) / 4 * 4

-- an AVP or the whole is longer than its length field can say
abbrev pub IsTooLong : List PlainAvp → Type 0
IsTooLong vs = Any (λ v. three_bytes ≤ avp_length v) vs ⊎ (three_bytes ≤ header_length + sum_by padded_length vs)
