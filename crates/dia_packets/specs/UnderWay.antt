-- A capture of which a front was read.
use Rattle.std.specs.Prelude.{◌≡◌, ℕ, ◌<◌, List, ◌++◌, length, map, Some, None, Result, Ok, Err, ⊤, ◌+◌, ◌⊎◌, true}
use Rattle.dia_packets.specs.declared.blocks.BlockHead.{BlockHead}
use Rattle.dia_packets.specs.declared.blocks.BlockKind.TheVariants.{Other}
use Rattle.dia_packets.specs.declared.capture.Capture.{Capture}
use Rattle.dia_packets.specs.declared.interfaces.Interface.{Interface}
use Rattle.dia_packets.specs.declared.order.Order.{Order}
use Rattle.dia_packets.specs.declared.order.Order.TheVariants.{Big}
use Rattle.dia_packets.specs.declared.position.Passed.{Passed}
use Rattle.dia_packets.specs.Blocks.{AreBlocks, Heads, has_size}
use Rattle.dia_packets.specs.Sections.{IsCutBlock}
use Rattle.dia_packets.specs.declared.fault.CaptureFault.{CaptureFault}
use Rattle.dia_packets.specs.declared.fault.CaptureFault.TheVariants.{Refused, NoMemory}
use Rattle.dia_packets.specs.declared.fault.Refusal.{Refusal}
use Rattle.dia_packets.specs.declared.kind.Kind.{Kind}
use Rattle.dia_packets.specs.declared.kind.Kind.TheVariants.{Pcap, Pcapng}
use Rattle.dia_packets.specs.declared.packet.Packet.{Packet}
use Rattle.dia_packets.specs.declared.position.Position.{Position}
use Rattle.dia_packets.specs.declared.position.State.{State}
use Rattle.dia_packets.specs.declared.position.State.TheVariants.{Head, Records, Blocks, Passing}
use Rattle.dia_packets.specs.Files.{AreOf}
use Rattle.dia_packets.specs.Packets.{PlainPacket, plain_packet}
use Rattle.dia_packets.specs.Records.{ArePcap, AreRecords, End, IsShort, head_size}

-- ---- the rest of a file

-- the head of a block that is passed over
abbrev pub passed_head : Order → ℕ → BlockHead
passed_head order size = record { order = order; kind = Other; size = size }

-- these bytes of it were passed
pub record IsPassed (passed : Passed) (before : List ℕ) : Type 0 where
  pub heads : Heads passed.order before (passed_head passed.order passed.size)
  pub sized : has_size (passed_head passed.order passed.size) ≡ true
  pub left : length before + passed.left + 4 ≡ passed.size

-- these are the packets of the rest of a file, and this is how they end. Of a block that is passed over no byte is retained
abbrev pub AreRest : State → List Interface → (at n : ℕ) → List ℕ → List PlainPacket → End → Type 0
AreRest (Head order unit) interfaces at n bytes packets end = ArePcap order unit at n bytes packets end
AreRest (Records form) interfaces at n bytes packets end = AreRecords form at n bytes packets end
AreRest (Blocks order) interfaces at n bytes packets end = AreBlocks order interfaces at n bytes packets end
AreRest (Passing passed) interfaces at n bytes packets end = (before : List ℕ) → IsPassed passed before → AreBlocks passed.order interfaces at n (before ++ bytes) packets end

abbrev pub AreFrom : Position → List ℕ → List PlainPacket → End → Type 0
AreFrom p bytes packets end = AreRest p.state p.interfaces.items p.at p.number bytes packets end

-- what is read at the beginning of a file
abbrev pub first_state : Kind → State
first_state (Pcap order unit) = Head order unit
first_state Pcapng = Blocks Big

-- less than is read at a time: the head of a file, a record or a block
abbrev pub IsPart : State → List ℕ → Type 0
IsPart (Head order unit) bytes = length bytes < head_size
IsPart (Records form) bytes = IsShort form bytes
IsPart (Blocks order) bytes = IsCutBlock order bytes
IsPart (Passing passed) bytes = ((0 < passed.left) × (length bytes ≡ 0)) ⊎ ((passed.left ≡ 0) × (length bytes < 4))

-- nothing is missing where a file ends with these bytes
abbrev pub IsWhole : State → List ℕ → Type 0
IsWhole (Head order unit) bytes = ⊥
IsWhole (Records form) bytes = length bytes ≡ 0
IsWhole (Blocks order) bytes = length bytes ≡ 0
IsWhole (Passing passed) bytes = ⊥

-- the front of the bytes was read, and its packets were added to those before
pub record Reads (old now : Position) (packets_old packets : List Packet) (bytes rest : List ℕ) : Type 0 where
  pub front : List ℕ
  pub parts : bytes ≡ front ++ rest
  pub found : List PlainPacket
  pub added : map plain_packet packets ≡ map plain_packet packets_old ++ found
  pub reads : (more : List ℕ) (others : List PlainPacket) (end : End) → AreFrom now (rest ++ more) others end → AreFrom old (bytes ++ more) (found ++ others) end

-- the packets before a place were added, at which the file can't be read on
pub record Stops (old : Position) (packets_old packets : List Packet) (bytes : List ℕ) (refusal : Refusal) : Type 0 where
  pub found : List PlainPacket
  pub added : map plain_packet packets ≡ map plain_packet packets_old ++ found
  pub stops : (more : List ℕ) → AreFrom old (bytes ++ more) found (Some refusal)

-- what holds of a refusal, if the fault is one
abbrev pub IfRefused : CaptureFault → (Refusal → Type 0) → Type 0
IfRefused (Refused refusal) P = P refusal
IfRefused NoMemory P = ⊤

-- ---- a file in pieces

-- these bytes of a file were read, and these packets were found; what isn't read yet is less than is read at a time
pub record IsUnderWay (kind : Kind) (now : Capture) (read : List ℕ) (found : List PlainPacket) : Type 0 where
  pub reads : (more : List ℕ) (others : List PlainPacket) (end : End) → AreFrom now.position (now.bytes.items ++ more) others end
      → AreOf kind (read ++ more) (found ++ others) end
  pub is_part : IsPart now.position.state now.bytes.items

-- a piece was read, and its packets were added to those before
pub record ReadsPiece (old now : Capture) (packets_old packets : List Packet) (piece : List ℕ) : Type 0 where
  pub found : List PlainPacket
  pub added : map plain_packet packets ≡ map plain_packet packets_old ++ found
  pub reads : (kind : Kind) (read : List ℕ) (before : List PlainPacket) → IsUnderWay kind old read before
      → IsUnderWay kind now (read ++ piece) (before ++ found)

-- in a piece the file can't be read on, whatever follows; the packets before were added
pub record StopsInPiece (old : Capture) (packets_old packets : List Packet) (piece : List ℕ) (refusal : Refusal) : Type 0 where
  pub found : List PlainPacket
  pub added : map plain_packet packets ≡ map plain_packet packets_old ++ found
  pub stops : (kind : Kind) (read : List ℕ) (before : List PlainPacket) → IsUnderWay kind old read before
      → (rest : List ℕ) → AreOf kind ((read ++ piece) ++ rest) (before ++ found) (Some refusal)

-- how a file ends
abbrev pub end_of : Result (Unit {0}) Refusal → End
end_of (Ok _) = None
end_of (Err refusal) = Some refusal
