-- Capture files, their packets, and how they end.
use Rattle.std.specs.Prelude.{◌≡◌, ℕ, List, [], ◌∷◌, take}
use Rattle.dia_packets.specs.declared.kind.Kind.{Kind}
use Rattle.dia_packets.specs.declared.kind.Kind.TheVariants.{Pcap, Pcapng}
use Rattle.dia_packets.specs.declared.kind.Unit.{Unit}
use Rattle.dia_packets.specs.declared.kind.Unit.TheVariants.{Microseconds, Nanoseconds}
use Rattle.dia_packets.specs.declared.order.Order.{Order}
use Rattle.dia_packets.specs.declared.order.Order.TheVariants.{Big, Little}
use Rattle.dia_packets.specs.Blocks.{AreBlocks, HasMagic, IsSection}
use Rattle.dia_packets.specs.Packets.{PlainPacket}
use Rattle.dia_packets.specs.Records.{ArePcap, End}

-- the first bytes of a pcap file
abbrev pub magic : Order → Unit → List ℕ
magic Big Microseconds = 0xa1 ∷ 0xb2 ∷ 0xc3 ∷ 0xd4 ∷ []
magic Big Nanoseconds = 0xa1 ∷ 0xb2 ∷ 0x3c ∷ 0x4d ∷ []
magic Little Microseconds = 0xd4 ∷ 0xc3 ∷ 0xb2 ∷ 0xa1 ∷ []
magic Little Nanoseconds = 0x4d ∷ 0x3c ∷ 0xb2 ∷ 0xa1 ∷ []

-- the file is a capture of this kind. The first four bytes of pcapng are white space in a text, so the byte-order magic counts, too
abbrev pub HasKind : Kind → List ℕ → Type 0
HasKind (Pcap order unit) file = take 4 file ≡ magic order unit
HasKind Pcapng file = IsSection file × ((order : Order) × HasMagic file order)

-- these are the packets of a file of this kind, and this is how they end
abbrev pub AreOf : Kind → List ℕ → List PlainPacket → End → Type 0
AreOf (Pcap order unit) file packets end = ArePcap order unit 0 1 file packets end
AreOf Pcapng file packets end = AreBlocks Big [] 0 1 file packets end

-- the file is a capture with these packets and this end
pub record IsCapture (file : List ℕ) (packets : List PlainPacket) (end : End) : Type 0 where
  pub kind : Kind
  pub has_kind : HasKind kind file
  pub are : AreOf kind file packets end

-- a file has one list of packets and one end
abbrev pub FileHasOneAnswer : Type 0
FileHasOneAnswer = (file : List ℕ) (packets others : List PlainPacket) (end other : End) → IsCapture file packets end → IsCapture file others other
    → (packets ≡ others) × (end ≡ other)
