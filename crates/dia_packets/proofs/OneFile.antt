-- A file has one list of packets and one end.
use Rattle.std.proofs.Common.{◌≡◌, ℕ, List, [], ◌∷◌, get_or, refl, sym, ap, subst, ◌∙◌, inl, inr, arith}
use Rattle.dia_packets.specs.declared.kind.Kind.{Kind}
use Rattle.dia_packets.specs.declared.kind.Kind.TheVariants.{Pcap, Pcapng}
use Rattle.dia_packets.specs.declared.kind.Unit.{Unit}
use Rattle.dia_packets.specs.declared.kind.Unit.TheVariants.{Microseconds, Nanoseconds}
use Rattle.dia_packets.specs.declared.order.Order.{Order}
use Rattle.dia_packets.specs.declared.order.Order.TheVariants.{Big, Little}
use Rattle.dia_packets.specs.declared.records.Form.{Form}
use Rattle.dia_packets.specs.Files.{AreOf, FileHasOneAnswer, HasKind, magic}
use Rattle.dia_packets.specs.Blocks.{section_type}
use Rattle.dia_packets.specs.Packets.{PlainPacket}
use Rattle.dia_packets.proofs.OneBlocks.{blocks_once}
use Rattle.dia_packets.specs.Records.{AreRecords, none, packet, cut, too_long, ArePcap, records, no_file_head, version, End, HasRecord, IsLong, IsShort, record_packet}

short_no_record : (form : Form) (bytes : List ℕ) → HasRecord form bytes → IsShort form bytes → ⊥
short_no_record form bytes h (inl few) = omega (arith, h.head, few)
short_no_record form bytes h (inr short) = omega (arith, h.whole, short.1)

long_no_record : (form : Form) (bytes : List ℕ) → HasRecord form bytes → IsLong form bytes → ⊥
long_no_record form bytes h long = omega (arith, h.within, long.1)

long_not_short : (form : Form) (bytes : List ℕ) → IsLong form bytes → IsShort form bytes → ⊥
long_not_short form bytes long (inl few) = omega (arith, long.0, few)
long_not_short form bytes long (inr short) = omega (arith, long.1, short.0)

records_once : (form : Form) (at n : ℕ) (bytes : List ℕ) (ps qs : List PlainPacket) (e f : End) → AreRecords form at n bytes ps e → AreRecords form at n bytes qs f
    → (ps ≡ qs) × (e ≡ f)
records_once form at n _ _ _ _ _ none none = (refl, refl)
records_once form at n _ _ _ _ _ none (packet h r) = absurd (omega (arith, h.head))
records_once form at n _ _ _ _ _ none (cut some short) = absurd (omega (arith, some))
records_once form at n _ _ _ _ _ none (too_long is) = absurd (omega (arith, is.0))
records_once form at n _ _ _ _ _ (packet h r) none = absurd (omega (arith, h.head))
records_once form at n bytes _ _ e f (packet {others = os} h r) (packet {others = os'} h' r') =
    let same = records_once form _ _ _ os os' e f r r' in (ap (λ (s : List PlainPacket). record_packet form n bytes ∷ s) same.0, same.1)
records_once form at n bytes _ _ _ _ (packet h r) (cut some short) = absurd (short_no_record form bytes h short)
records_once form at n bytes _ _ _ _ (packet h r) (too_long is) = absurd (long_no_record form bytes h is)
records_once form at n _ _ _ _ _ (cut some short) none = absurd (omega (arith, some))
records_once form at n bytes _ _ _ _ (cut some short) (packet h r) = absurd (short_no_record form bytes h short)
records_once form at n bytes _ _ _ _ (cut some short) (cut some' short') = (refl, refl)
records_once form at n bytes _ _ _ _ (cut some short) (too_long is) = absurd (long_not_short form bytes is short)
records_once form at n _ _ _ _ _ (too_long is) none = absurd (omega (arith, is.0))
records_once form at n bytes _ _ _ _ (too_long is) (packet h r) = absurd (long_no_record form bytes h is)
records_once form at n bytes _ _ _ _ (too_long is) (cut some short) = absurd (long_not_short form bytes is short)
records_once form at n bytes _ _ _ _ (too_long is) (too_long is') = (refl, refl)

pcap_once : (order : Order) (unit : Unit) (at n : ℕ) (file : List ℕ) (ps qs : List PlainPacket) (e f : End) → ArePcap order unit at n file ps e → ArePcap order unit at n file qs f
    → (ps ≡ qs) × (e ≡ f)
pcap_once order unit at n file ps qs e f (records long is r) (records long' is' r') = records_once _ _ n _ ps qs e f r r'
pcap_once order unit at n file ps _ e _ (records long is r) (no_file_head few) = absurd (omega (arith, long, few))
pcap_once order unit at n file ps _ e _ (records long is r) (version long' other) = absurd (other is)
pcap_once order unit at n file _ qs _ f (no_file_head few) (records long is r) = absurd (omega (arith, long, few))
pcap_once order unit at n file _ _ _ _ (no_file_head few) (no_file_head few') = (refl, refl)
pcap_once order unit at n file _ _ _ _ (no_file_head few) (version long other) = absurd (omega (arith, long, few))
pcap_once order unit at n file _ qs _ f (version long other) (records long' is r) = absurd (other is)
pcap_once order unit at n file _ _ _ _ (version long other) (no_file_head few) = absurd (omega (arith, long, few))
pcap_once order unit at n file _ _ _ _ (version long other) (version long' other') = (refl, refl)

-- lists that differ at a place
other : (i a b : ℕ) (xs ys : List ℕ) → xs ≡ ys → get_or xs i 0 ≡ a → get_or ys i 0 ≡ b → (a ≡ b → ⊥) → ⊥
other i a b xs ys same is_a is_b differ = differ (sym is_a ∙ ap (λ (l : List ℕ). get_or l i 0) same ∙ is_b)

magic_once : (o o' : Order) (u u' : Unit) → magic o u ≡ magic o' u' → Pcap o u ≡ Pcap o' u'
magic_once Big Big Microseconds Microseconds e = refl
magic_once Big Big Microseconds Nanoseconds e = absurd (other 2 195 60 _ _ e refl refl (λ same. omega (arith, same)))
magic_once Big Big Nanoseconds Microseconds e = absurd (other 2 60 195 _ _ e refl refl (λ same. omega (arith, same)))
magic_once Big Big Nanoseconds Nanoseconds e = refl
magic_once Big Little Microseconds Microseconds e = absurd (other 0 161 212 _ _ e refl refl (λ same. omega (arith, same)))
magic_once Big Little Microseconds Nanoseconds e = absurd (other 0 161 77 _ _ e refl refl (λ same. omega (arith, same)))
magic_once Big Little Nanoseconds Microseconds e = absurd (other 0 161 212 _ _ e refl refl (λ same. omega (arith, same)))
magic_once Big Little Nanoseconds Nanoseconds e = absurd (other 0 161 77 _ _ e refl refl (λ same. omega (arith, same)))
magic_once Little Big Microseconds Microseconds e = absurd (other 0 212 161 _ _ e refl refl (λ same. omega (arith, same)))
magic_once Little Big Microseconds Nanoseconds e = absurd (other 0 212 161 _ _ e refl refl (λ same. omega (arith, same)))
magic_once Little Big Nanoseconds Microseconds e = absurd (other 0 77 161 _ _ e refl refl (λ same. omega (arith, same)))
magic_once Little Big Nanoseconds Nanoseconds e = absurd (other 0 77 161 _ _ e refl refl (λ same. omega (arith, same)))
magic_once Little Little Microseconds Microseconds e = refl
magic_once Little Little Microseconds Nanoseconds e = absurd (other 0 212 77 _ _ e refl refl (λ same. omega (arith, same)))
magic_once Little Little Nanoseconds Microseconds e = absurd (other 0 77 212 _ _ e refl refl (λ same. omega (arith, same)))
magic_once Little Little Nanoseconds Nanoseconds e = refl

no_section : (o : Order) (u : Unit) → magic o u ≡ section_type → ⊥
no_section Big Microseconds e = other 0 161 10 _ _ e refl refl (λ same. omega (arith, same))
no_section Big Nanoseconds e = other 0 161 10 _ _ e refl refl (λ same. omega (arith, same))
no_section Little Microseconds e = other 0 212 10 _ _ e refl refl (λ same. omega (arith, same))
no_section Little Nanoseconds e = other 0 77 10 _ _ e refl refl (λ same. omega (arith, same))

kind_once : (kind other : Kind) (file : List ℕ) → HasKind kind file → HasKind other file → kind ≡ other
kind_once (Pcap o u) (Pcap o' u') file is is' = magic_once o o' u u' (sym is ∙ is')
kind_once (Pcap o u) Pcapng file is is' = absurd (no_section o u (sym is ∙ is'.0))
kind_once Pcapng (Pcap o u) file is is' = absurd (no_section o u (sym is' ∙ is.0))
kind_once Pcapng Pcapng file is is' = refl

of_once : (kind : Kind) (file : List ℕ) (ps qs : List PlainPacket) (e f : End) → AreOf kind file ps e → AreOf kind file qs f → (ps ≡ qs) × (e ≡ f)
of_once (Pcap order unit) file ps qs e f a b = pcap_once order unit 0 1 file ps qs e f a b
of_once Pcapng file ps qs e f a b = blocks_once Big [] 0 1 file ps qs e f a b

pub file_once : FileHasOneAnswer
file_once file ps qs e f a b =
    of_once a.kind file ps qs e f a.are (subst (λ (k : Kind). AreOf k file qs f) (sym (kind_once a.kind b.kind file a.has_kind b.has_kind)) b.are)
