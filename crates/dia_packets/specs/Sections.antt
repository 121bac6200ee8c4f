-- What the front of bytes is, in a section.
use Rattle.std.specs.Prelude.{◌≡◌, ◌≢◌, ℕ, ◌≤◌, ◌⊎◌, ⊤, true, List, [], ◌∷◌, length, Some, None}
use Rattle.dia_packets.specs.declared.blocks.BlockHead.{BlockHead}
use Rattle.dia_packets.specs.declared.blocks.BlockKind.TheVariants.{Other}
use Rattle.dia_packets.specs.declared.fault.Cause.{Cause}
use Rattle.dia_packets.specs.declared.fault.Cause.TheVariants.{Block, Cut}
use Rattle.dia_packets.specs.declared.interfaces.Interface.{Interface as OneInterface}
use Rattle.dia_packets.specs.declared.order.Order.{Order}
use Rattle.dia_packets.specs.declared.sections.Front.{Front}
use Rattle.dia_packets.specs.declared.sections.Front.TheVariants.{Part, PassedOver, Whole}
use Rattle.dia_packets.specs.declared.sections.Said.{Said}
use Rattle.dia_packets.specs.declared.sections.Said.TheVariants.{Description, Nothing, Packet, Section}
use Rattle.dia_packets.specs.Blocks.{HasCutHead, HasNoOrder, Heads, Lacks, Says, added, flaw, has_size}
use Rattle.dia_packets.specs.Packets.{PlainPacket, numbered}

-- the packet that a block says, with its number
abbrev pub found_of : ℕ → Said → List PlainPacket
found_of n Section = []
found_of n (Description one) = []
found_of n (Packet captured) = numbered n captured ∷ []
found_of n Nothing = []

-- the interfaces after a block
abbrev pub now_of : List OneInterface → Said → List OneInterface
now_of interfaces Section = []
now_of interfaces (Description one) = added interfaces one
now_of interfaces (Packet captured) = interfaces
now_of interfaces Nothing = interfaces

-- the block says this, whatever its packet's number
abbrev pub SaysAs : BlockHead → List OneInterface → List ℕ → Said → Type 0
SaysAs head interfaces bytes said = (n : ℕ) → Says head.kind head.order head.size interfaces n bytes (found_of n said) (now_of interfaces said)

-- less than a block is at the front
abbrev pub IsCutBlock : Order → List ℕ → Type 0
IsCutBlock order bytes = HasCutHead bytes ⊎ ((head : BlockHead) × Heads order bytes head × (flaw head bytes ≡ Some Cut))

abbrev pub IsFront : Order → List OneInterface → List ℕ → Front → Type 0
IsFront order interfaces bytes Part = IsCutBlock order bytes
IsFront order interfaces bytes (PassedOver head) = Heads order bytes head × (head.kind ≡ Other) × (has_size head ≡ true)
IsFront order interfaces bytes (Whole head said) = Heads order bytes head × (flaw head bytes ≡ None) × SaysAs head interfaces bytes said

-- what is at the front has at least so many bytes
abbrev pub HasRoom : List ℕ → Front → Type 0
HasRoom bytes Part = ⊤
HasRoom bytes (PassedOver head) = (12 ≤ head.size) × (8 ≤ length bytes)
HasRoom bytes (Whole head said) = (12 ≤ head.size) × (head.size ≤ length bytes)

-- why the block at the front can't be read, whatever follows
abbrev pub IsRefusedBlock : Order → List OneInterface → List ℕ → Cause → Type 0
IsRefusedBlock order interfaces bytes cause =
    (HasNoOrder bytes × (cause ≡ Block))
    ⊎ ((head : BlockHead) × Heads order bytes head × (flaw head bytes ≡ Some cause) × (cause ≢ Cut))
    ⊎ ((head : BlockHead) × Heads order bytes head × (flaw head bytes ≡ None) × Lacks head.kind head.order head.size interfaces bytes cause)
