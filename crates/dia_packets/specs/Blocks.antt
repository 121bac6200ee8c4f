-- The blocks of a pcapng file (draft-ietf-opsawg-pcapng, sections 3 and 4).
use Rattle.std.specs.Prelude.{◌≡◌, ◌≢◌, ℕ, ◌+◌, ◌-◌, ◌*◌, ◌%◌, ◌<◌, ◌≤◌, ◌⊎◌, ◌==◌, ◌&&◌, nat_lt, nat_le, if◌then◌else◌, min, Bool, true, false, List, [], ◌∷◌, ◌++◌, length, take, drop, Option, Some}
use Rattle.std.specs.Prelude.{None, option_and_then, slice_get}
use Rattle.dia_packets.specs.declared.blocks.BlockHead.{BlockHead}
use Rattle.dia_packets.specs.declared.blocks.BlockKind.{BlockKind}
use Rattle.dia_packets.specs.declared.blocks.BlockKind.TheVariants.{Section, Description, Data, Other}
use Rattle.dia_packets.specs.declared.blocks.PacketFields.{PacketFields}
use Rattle.dia_packets.specs.declared.blocks.PacketKind.{PacketKind}
use Rattle.dia_packets.specs.declared.blocks.PacketKind.TheVariants.{Enhanced, Obsolete, Simple}
use Rattle.dia_packets.specs.declared.fault.Cause.{Cause}
use Rattle.dia_packets.specs.declared.fault.Cause.TheVariants.{Block, Cut, Interface, Length, Version}
use Rattle.dia_packets.specs.declared.interfaces.Interface.{Interface as OneInterface}
use Rattle.dia_packets.specs.declared.order.Order.{Order}
use Rattle.dia_packets.specs.declared.order.Order.TheVariants.{Big, Little}
use Rattle.dia_packets.specs.Fields.{counted, field}
use Rattle.dia_packets.specs.Interfaces.{IsInterface, time_of}
use Rattle.dia_packets.specs.Packets.{PlainPacket}
use Rattle.dia_packets.specs.Records.{End, most_captured}

-- ---- the head of a block: its type and its length

-- the type of a Section Header Block, the same in either byte order
abbrev pub section_type : List ℕ
section_type = 0x0a ∷ 0x0d ∷ 0x0d ∷ 0x0a ∷ []

abbrev pub IsSection : List ℕ → Type 0
IsSection bytes = take 4 bytes ≡ section_type

-- its byte-order magic
abbrev pub order_magic : Order → List ℕ
order_magic Big = 0x1a ∷ 0x2b ∷ 0x3c ∷ 0x4d ∷ []
order_magic Little = 0x4d ∷ 0x3c ∷ 0x2b ∷ 0x1a ∷ []

abbrev pub HasMagic : List ℕ → Order → Type 0
HasMagic bytes order = take 4 (drop 8 bytes) ≡ order_magic order

-- the kind of another block, by its type: Interface Description, the obsolete Packet Block, Simple Packet, Enhanced Packet
abbrev pub kind_of_type : ℕ → BlockKind
kind_of_type number =
    if number == 1 then Description else
    if number == 2 then Data Obsolete else
    if number == 3 then Data Simple else
    if number == 6 then Data Enhanced else Other

-- the head at the front, in a section of this byte order. A section header has its own
pub data Heads (order : Order) (bytes : List ℕ) : BlockHead → Type 0 where
  section : (its : Order) → IsSection bytes → 12 ≤ length bytes → HasMagic bytes its
      → Heads order bytes (record { order = its; kind = Section; size = field its 4 4 bytes })
  other : ¬ IsSection bytes → 8 ≤ length bytes
      → Heads order bytes (record { order = order; kind = kind_of_type (field order 4 0 bytes); size = field order 4 4 bytes })

-- less than a head
abbrev pub HasCutHead : List ℕ → Type 0
HasCutHead bytes = (length bytes < 8) ⊎ (IsSection bytes × (length bytes < 12))

-- a Section Header Block without byte-order magic
abbrev pub HasNoOrder : List ℕ → Type 0
HasNoOrder bytes = IsSection bytes × (12 ≤ length bytes) × ((order : Order) → ¬ HasMagic bytes order)

-- ---- its size

-- the bytes of a block's fields, with both lengths
abbrev pub least_size : BlockKind → ℕ
least_size Section = 28
least_size Description = 20
least_size (Data Enhanced) = 32
least_size (Data Obsolete) = 32
least_size (Data Simple) = 16
least_size Other = 12

-- blocks that aren't read may be as long as they can say
abbrev pub most_size : BlockKind → ℕ
most_size Section = 1048576
most_size Description = 1048576
most_size (Data kind) = 1048576
most_size Other = 4294967295

abbrev pub has_size : BlockHead → Bool
has_size head = nat_le (least_size head.kind) head.size && nat_le head.size (most_size head.kind) && head.size % 4 == 0

-- the length at its end is that of its head
abbrev pub has_end : BlockHead → List ℕ → Bool
has_end head bytes = field head.order 4 (head.size - 4) bytes == head.size

-- why the block at the front can't be passed, if it can't
abbrev pub flaw : BlockHead → List ℕ → Option Cause
flaw head bytes =
    if has_size head then (if nat_le head.size (length bytes) then (if has_end head bytes then None else Some Length) else Some Cut) else Some Length

-- ---- its packet

-- both halves of a time, the higher first
abbrev pub stamp_of : Order → List ℕ → ℕ
stamp_of order bytes = field order 4 12 bytes * 4294967296 + field order 4 16 bytes

-- a Simple Packet Block has no time, is of interface 0, and is as long as its packet, or as the block
abbrev pub fields_of : PacketKind → Order → (size : ℕ) → List ℕ → PacketFields
fields_of Enhanced order size bytes = record { interface = field order 4 8 bytes; start = 28; kept = field order 4 20 bytes; size = field order 4 24 bytes; stamp = Some (stamp_of order bytes) }
fields_of Obsolete order size bytes = record { interface = field order 2 8 bytes; start = 28; kept = field order 4 20 bytes; size = field order 4 24 bytes; stamp = Some (stamp_of order bytes) }
fields_of Simple order size bytes = record { interface = 0; start = 12; kept = min (field order 4 8 bytes) (size - 16); size = field order 4 8 bytes; stamp = None }

-- the packet is within the limit, and within the block
abbrev pub fits : (size : ℕ) → PacketFields → Bool
fits size fields = nat_le fields.kept most_captured && nat_le (fields.start + fields.kept + 4) size

abbrev pub block_packet : ℕ → OneInterface → PacketFields → List ℕ → PlainPacket
block_packet n one fields bytes = record {
  number = n;
  time = option_and_then (λ stamp. time_of one stamp) fields.stamp;
  link = one.link;
  bytes = take fields.kept (drop fields.start bytes);
  size = fields.size;
}

-- ---- what a whole block says

-- the most interfaces of a section that are retained
abbrev pub most_interfaces : ℕ
most_interfaces = 4096

abbrev pub added : List OneInterface → OneInterface → List OneInterface
added interfaces one = if nat_lt (length interfaces) most_interfaces then interfaces ++ one ∷ [] else interfaces

-- its packet, and the interfaces of the section after it. A section header begins a section without any
abbrev pub Says : BlockKind → Order → (size : ℕ) → List OneInterface → (n : ℕ) → List ℕ → List PlainPacket → List OneInterface → Type 0
Says Section order size interfaces n bytes found now = (field order 2 12 bytes ≡ 1) × (found ≡ []) × (now ≡ [])
Says Description order size interfaces n bytes found now = (one : OneInterface) × IsInterface order size bytes one × (found ≡ []) × (now ≡ added interfaces one)
Says (Data kind) order size interfaces n bytes found now = (fits size (fields_of kind order size bytes) ≡ true)
    × ((one : OneInterface) × (slice_get interfaces (fields_of kind order size bytes).interface ≡ Some one) × (found ≡ block_packet n one (fields_of kind order size bytes) bytes ∷ []))
    × (now ≡ interfaces)
Says Other order size interfaces n bytes found now = (found ≡ []) × (now ≡ interfaces)

-- why it says nothing that can be read
abbrev pub Lacks : BlockKind → Order → (size : ℕ) → List OneInterface → List ℕ → Cause → Type 0
Lacks Section order size interfaces bytes cause = (field order 2 12 bytes ≢ 1) × (cause ≡ Version)
Lacks Description order size interfaces bytes cause = ⊥
Lacks (Data kind) order size interfaces bytes cause = ((fits size (fields_of kind order size bytes) ≡ false) × (cause ≡ Length))
    ⊎ ((fits size (fields_of kind order size bytes) ≡ true) × (slice_get interfaces (fields_of kind order size bytes).interface ≡ None) × (cause ≡ Interface))
Lacks Other order size interfaces bytes cause = ⊥

-- ---- the packets of all blocks, the first of them in a section of a byte order with these interfaces

abbrev pub next_number : ℕ → List PlainPacket → ℕ
next_number n [] = n
next_number n (p ∷ ps) = counted (n + 1)

pub data AreBlocks : Order → List OneInterface → (at n : ℕ) (bytes : List ℕ) → List PlainPacket → End → Type 0 where
  nothing : {order : Order} {interfaces : List OneInterface} {at n : ℕ} → AreBlocks order interfaces at n [] [] None
  no_head : {order : Order} {interfaces : List OneInterface} {at n : ℕ} {bytes : List ℕ} → 0 < length bytes → HasCutHead bytes
      → AreBlocks order interfaces at n bytes [] (Some (record { cause = Cut; at = at }))
  no_order : {order : Order} {interfaces : List OneInterface} {at n : ℕ} {bytes : List ℕ} → HasNoOrder bytes
      → AreBlocks order interfaces at n bytes [] (Some (record { cause = Block; at = at }))
  flawed : {order : Order} {interfaces : List OneInterface} {at n : ℕ} {bytes : List ℕ} (head : BlockHead) (cause : Cause) → Heads order bytes head → flaw head bytes ≡ Some cause
      → AreBlocks order interfaces at n bytes [] (Some (record { cause = cause; at = at }))
  lacking : {order : Order} {interfaces : List OneInterface} {at n : ℕ} {bytes : List ℕ} (head : BlockHead) (cause : Cause) → Heads order bytes head → flaw head bytes ≡ None
      → Lacks head.kind head.order head.size interfaces bytes cause → AreBlocks order interfaces at n bytes [] (Some (record { cause = cause; at = at }))
  block : {order : Order} {interfaces : List OneInterface} {at n : ℕ} {bytes : List ℕ} {others : List PlainPacket} {end : End} (head : BlockHead) (found : List PlainPacket) (now : List OneInterface)
      → Heads order bytes head → flaw head bytes ≡ None → Says head.kind head.order head.size interfaces n bytes found now
      → AreBlocks head.order now (counted (at + head.size)) (next_number n found) (drop head.size bytes) others end
      → AreBlocks order interfaces at n bytes (found ++ others) end
