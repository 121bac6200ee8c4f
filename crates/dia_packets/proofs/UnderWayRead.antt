-- A capture that is read in pieces.
use Rattle.std.proofs.Common.{◌≡◌, ℕ, ◌+◌, ◌-◌, ◌≤◌, Bool, true, false, List, [], ◌∷◌, ◌++◌, length, take, drop, Option, Some, None, refl, sym, ap, subst, ◌∙◌, append_assoc, inl, arith}
use Rattle.std.specs.Prelude.{map, IfSome}
use Rattle.std.proofs.lemmas.List.{append-nil, length-append, length-drop, take-append-drop}
use Rattle.dia_packets.specs.declared.capture.Capture.{Capture}
use Rattle.dia_packets.specs.declared.fault.CaptureFault.{CaptureFault}
use Rattle.dia_packets.specs.declared.fault.CaptureFault.TheVariants.{Refused}
use Rattle.dia_packets.specs.declared.fault.Cause.{Cause}
use Rattle.dia_packets.specs.declared.fault.Cause.TheVariants.{Length, Version}
use Rattle.dia_packets.specs.declared.fault.Refusal.{Refusal}
use Rattle.dia_packets.specs.declared.interfaces.Interface.{Interface}
use Rattle.dia_packets.specs.declared.kind.Kind.{Kind}
use Rattle.dia_packets.specs.declared.kind.Kind.TheVariants.{Pcap, Pcapng}
use Rattle.dia_packets.specs.Blocks.{nothing}
use Rattle.dia_packets.specs.declared.kind.Unit.{Unit}
use Rattle.dia_packets.specs.declared.order.Order.{Order}
use Rattle.dia_packets.specs.declared.packet.Captured.{Captured}
use Rattle.dia_packets.specs.declared.packet.Packet.{Packet}
use Rattle.dia_packets.specs.declared.position.Position.{Position}
use Rattle.dia_packets.specs.declared.position.State.{State}
use Rattle.dia_packets.specs.declared.position.State.TheVariants.{Head, Records, Blocks, Passing}
use Rattle.dia_packets.specs.declared.records.Form.{Form}
use Rattle.dia_packets.specs.Fields.{counted}
use Rattle.dia_packets.specs.Files.{AreOf}
use Rattle.dia_packets.specs.Packets.{PlainPacket, numbered, plain_packet}
use Rattle.dia_packets.specs.Records.{AreRecords, none, End, HasRecord, HasVersion, IsLong, form_of, head_size, record_packet, record_size}
use Rattle.dia_packets.specs.UnderWay.{AreFrom, AreRest, first_state, IfRefused, IsPart, IsUnderWay, IsWhole, Reads, ReadsPiece, Stops, StopsInPiece}
use Rattle.dia_packets.proofs.RecordsRead.{record_read, long_read, head_read, version_read}

-- ---- one header or packet

pub begun : (kind : Kind) (now : Capture) → now.position.state ≡ first_state kind → now.position.interfaces.items ≡ [] → now.position.at ≡ 0 → now.position.number ≡ 1
    → now.bytes.items ≡ [] → IsUnderWay kind now [] []
begun kind now state interfaces at number bytes = record {
  reads = λ more others end h.
      let first = subst (λ (s : State). AreRest s now.position.interfaces.items now.position.at now.position.number (now.bytes.items ++ more) others end) state h in
      let described = subst (λ (i : List Interface). AreRest (first_state kind) i now.position.at now.position.number (now.bytes.items ++ more) others end) interfaces first in
      let placed = subst (λ (k : ℕ). AreRest (first_state kind) [] k now.position.number (now.bytes.items ++ more) others end) at described in
      let counts = subst (λ (k : ℕ). AreRest (first_state kind) [] 0 k (now.bytes.items ++ more) others end) number placed in
      of kind (more) others end (subst (λ (b : List ℕ). AreRest (first_state kind) [] 0 1 (b ++ more) others end) bytes counts);
  is_part = subst (λ (b : List ℕ). IsPart now.position.state b) (sym bytes) (subst (λ (s : State). IsPart s []) (sym state) (part kind));
}
  where
    of : (k : Kind) (file : List ℕ) (packets : List PlainPacket) (end : End) → AreRest (first_state k) [] 0 1 file packets end → AreOf k file packets end
    of (Pcap order unit) file packets end h = h
    of Pcapng file packets end h = h

    part : (k : Kind) → IsPart (first_state k) []
    part (Pcap order unit) = omega arith
    part Pcapng = inl (inl (omega arith))

pub Reads-nothing : (p : Position) (ps : List Packet) (bytes : List ℕ) → Reads p p ps ps bytes bytes
Reads-nothing p ps bytes = record { front = []; parts = refl; found = []; added = sym (append-nil (map plain_packet ps)); reads = λ more others end h. h }

pub Reads-both : (a b c : Position) (ps qs rs : List Packet) (bytes mid rest : List ℕ) → Reads a b ps qs bytes mid → Reads b c qs rs mid rest → Reads a c ps rs bytes rest
Reads-both a b c ps qs rs bytes mid rest r s = record {
  front = r.front ++ s.front;
  parts = r.parts ∙ ap (λ (t : List ℕ). r.front ++ t) s.parts ∙ sym (append_assoc r.front s.front rest);
  found = r.found ++ s.found;
  added = s.added ∙ ap (λ (t : List PlainPacket). t ++ s.found) r.added ∙ append_assoc (map plain_packet ps) r.found s.found;
  reads = λ more others end h. subst (λ (t : List PlainPacket). AreFrom a (bytes ++ more) t end) (sym (append_assoc r.found s.found others))
      (r.reads more (s.found ++ others) end (s.reads more others end h));
}

pub Stops-both : (a b : Position) (ps qs rs : List Packet) (bytes mid : List ℕ) (refusal : Refusal) → Reads a b ps qs bytes mid → Stops b qs rs mid refusal
    → Stops a ps rs bytes refusal
Stops-both a b ps qs rs bytes mid refusal r s = record {
  found = r.found ++ s.found;
  added = s.added ∙ ap (λ (t : List PlainPacket). t ++ s.found) r.added ∙ append_assoc (map plain_packet ps) r.found s.found;
  stops = λ more. r.reads more s.found (Some refusal) (s.stops more);
}

-- nothing was found before a refusal
pub stops_at_once : (p : Position) (ps : List Packet) (bytes : List ℕ) (refusal : Refusal) → ((more : List ℕ) → AreFrom p (bytes ++ more) [] (Some refusal))
    → Stops p ps ps bytes refusal
stops_at_once p ps bytes refusal h = record { found = []; added = sym (append-nil (map plain_packet ps)); stops = h }

pub Reads-record : (form : Form) (old new : Position) (ps qs : List Packet) (bytes rest : List ℕ) (captured : Captured) → old.state ≡ Records form → new.state ≡ old.state
    → new.at ≡ counted (old.at + (length bytes - length rest)) → new.number ≡ counted (old.number + 1) → HasRecord form bytes
    → ((n : ℕ) → numbered n captured ≡ record_packet form n bytes) → rest ≡ drop (record_size form bytes) bytes
    → map plain_packet qs ≡ map plain_packet ps ++ numbered old.number captured ∷ [] → Reads old new ps qs bytes rest
Reads-record form old new ps qs bytes rest captured is same at number has packet is_rest added =
    let size : length bytes - length rest ≡ record_size form bytes = omega (arith, ap length is_rest, length-drop (record_size form bytes) bytes, has.whole) in
    let place : new.at ≡ counted (old.at + record_size form bytes) = at ∙ ap (λ (k : ℕ). counted (old.at + k)) size in
    record {
      front = take (record_size form bytes) bytes;
      parts = sym (take-append-drop (record_size form bytes) bytes) ∙ ap (λ (t : List ℕ). take (record_size form bytes) bytes ++ t) (sym is_rest);
      found = record_packet form old.number bytes ∷ [];
      added = added ∙ ap (λ (p : PlainPacket). map plain_packet ps ++ p ∷ []) (packet old.number);
      reads = λ more others end h.
          let records = subst (λ (s : State). AreRest s new.interfaces.items new.at new.number (rest ++ more) others end) (same ∙ is) h in
          let placed = subst (λ (k : ℕ). AreRecords form k new.number (rest ++ more) others end) place records in
          let counts = subst (λ (k : ℕ). AreRecords form (counted (old.at + record_size form bytes)) k (rest ++ more) others end) number placed in
          let dropped = subst (λ (t : List ℕ). AreRecords form (counted (old.at + record_size form bytes)) (counted (old.number + 1)) (t ++ more) others end) is_rest counts in
          subst (λ (s : State). AreRest s old.interfaces.items old.at old.number (bytes ++ more) (record_packet form old.number bytes ∷ others) end) (sym is)
          (record_read form bytes more old.at old.number others end has dropped);
    }

pub Stops-record : (form : Form) (old : Position) (ps : List Packet) (bytes : List ℕ) → old.state ≡ Records form → IsLong form bytes
    → Stops old ps ps bytes (record { cause = Length; at = old.at })
Stops-record form old ps bytes is h = stops_at_once old ps bytes _
    (λ more. subst (λ (s : State). AreRest s old.interfaces.items old.at old.number (bytes ++ more) [] (Some (record { cause = Length; at = old.at }))) (sym is)
    (long_read form bytes more old.at old.number h))

pub Reads-head : (order : Order) (unit : Unit) (old new : Position) (ps : List Packet) (bytes rest : List ℕ) (form : Form) → old.state ≡ Head order unit
    → new.state ≡ Records form → form ≡ form_of order unit bytes → new.at ≡ counted (old.at + head_size) → new.number ≡ old.number
    → head_size ≤ length bytes → HasVersion order bytes → rest ≡ drop head_size bytes → Reads old new ps ps bytes rest
Reads-head order unit old new ps bytes rest form is now is_form at number long version is_rest = record {
  front = take head_size bytes;
  parts = sym (take-append-drop head_size bytes) ∙ ap (λ (t : List ℕ). take head_size bytes ++ t) (sym is_rest);
  found = [];
  added = sym (append-nil (map plain_packet ps));
  reads = λ more others end h.
      let records = subst (λ (s : State). AreRest s new.interfaces.items new.at new.number (rest ++ more) others end) (now ∙ ap (λ (f : Form). Records f) is_form) h in
      let placed = subst (λ (k : ℕ). AreRecords (form_of order unit bytes) k new.number (rest ++ more) others end) at records in
      let counts = subst (λ (k : ℕ). AreRecords (form_of order unit bytes) (counted (old.at + head_size)) k (rest ++ more) others end) number placed in
      let dropped = subst (λ (t : List ℕ). AreRecords (form_of order unit bytes) (counted (old.at + head_size)) old.number (t ++ more) others end) is_rest counts in
      subst (λ (s : State). AreRest s old.interfaces.items old.at old.number (bytes ++ more) others end) (sym is) (head_read order unit bytes more old.at old.number others end long version dropped);
}

pub Stops-head : (order : Order) (unit : Unit) (old : Position) (ps : List Packet) (bytes : List ℕ) → old.state ≡ Head order unit → head_size ≤ length bytes
    → ¬ HasVersion order bytes → Stops old ps ps bytes (record { cause = Version; at = old.at })
Stops-head order unit old ps bytes is long other = stops_at_once old ps bytes _
    (λ more. subst (λ (s : State). AreRest s old.interfaces.items old.at old.number (bytes ++ more) [] (Some (record { cause = Version; at = old.at }))) (sym is)
    (version_read order unit bytes more old.at old.number long other))

-- ---- pieces

-- nothing is left out where nothing was read
all_left : (all front rest : List ℕ) → all ≡ front ++ rest → length all ≤ length rest → rest ≡ all
all_left all [] rest parts h = sym parts
all_left all (x ∷ front) rest parts h = let size = ap length parts in let both = length-append front rest in absurd (omega (arith, size, both, h))

pub left_over : (a b : Position) (ps qs : List Packet) (all rest : List ℕ) → Reads a b ps qs all rest → length all ≤ length rest → rest ≡ all
left_over a b ps qs all rest r h = all_left all r.front rest r.parts h

pub ReadsPiece-made : (old new : Capture) (ps qs : List Packet) (piece all rest : List ℕ) → all ≡ old.bytes.items ++ piece
    → Reads old.position new.position ps qs all rest → IsPart new.position.state rest → new.bytes.items ≡ rest → ReadsPiece old new ps qs piece
ReadsPiece-made old new ps qs piece all rest is_all r part left = record {
  found = r.found;
  added = r.added;
  reads = λ kind read before u. record {
    reads = λ more others end h.
        let after = subst (λ (b : List ℕ). AreFrom new.position (b ++ more) others end) left h in
        let whole = subst (λ (b : List ℕ). AreFrom old.position b (r.found ++ others) end)
        (ap (λ (b : List ℕ). b ++ more) is_all ∙ append_assoc old.bytes.items piece more) (r.reads more others end after) in
        subst (λ (b : List ℕ). AreOf kind b ((before ++ r.found) ++ others) end) (sym (append_assoc read piece more))
        (subst (λ (t : List PlainPacket). AreOf kind (read ++ (piece ++ more)) t end) (sym (append_assoc before r.found others))
        (u.reads (piece ++ more) (r.found ++ others) end whole));
    is_part = subst (λ (b : List ℕ). IsPart new.position.state b) (sym left) part;
  };
}

pub StopsInPiece-made : (old : Capture) (ps qs : List Packet) (piece all : List ℕ) (refusal : Refusal) → all ≡ old.bytes.items ++ piece
    → Stops old.position ps qs all refusal → StopsInPiece old ps qs piece refusal
StopsInPiece-made old ps qs piece all refusal is_all s = record {
  found = s.found;
  added = s.added;
  stops = λ kind read before u rest.
      let whole = subst (λ (b : List ℕ). AreFrom old.position b s.found (Some refusal))
      (ap (λ (b : List ℕ). b ++ rest) is_all ∙ append_assoc old.bytes.items piece rest) (s.stops rest) in
      subst (λ (b : List ℕ). AreOf kind b (before ++ s.found) (Some refusal)) (sym (append_assoc read piece rest))
      (u.reads (piece ++ rest) s.found (Some refusal) whole);
}

-- ---- the end

pub at_end : (kind : Kind) (now : Capture) (read : List ℕ) (found : List PlainPacket) (end : End) → IsUnderWay kind now read found
    → AreFrom now.position now.bytes.items [] end → AreOf kind read found end
at_end kind now read found end u h =
    subst (λ (b : List ℕ). AreOf kind b found end) (append-nil read)
    (subst (λ (t : List PlainPacket). AreOf kind (read ++ []) t end) (append-nil found)
    (u.reads [] [] end (subst (λ (b : List ℕ). AreFrom now.position b [] end) (sym (append-nil now.bytes.items)) h)))

pub whole_end : (p : Position) (bytes : List ℕ) → IsWhole p.state bytes → AreFrom p bytes [] None
whole_end p bytes h = ends p.state bytes h
  where
    ends : (state : State) (left : List ℕ) → IsWhole state left → AreRest state p.interfaces.items p.at p.number left [] None
    ends (Head order unit) left h = absurd h
    ends (Records form) [] h = none
    ends (Records form) (b ∷ left) h = absurd (omega (arith, h))
    ends (Blocks order) [] h = nothing
    ends (Blocks order) (b ∷ left) h = absurd (omega (arith, h))
    ends (Passing passed) left h = absurd h

-- what holds of a refusal
pub refused_with : (fault : CaptureFault) (cause other : Cause) (at : ℕ) (P : Refusal → Type 0) → fault ≡ Refused (record { cause = cause; at = at }) → cause ≡ other
    → P (record { cause = other; at = at }) → IfRefused fault P
refused_with fault cause other at P is same h =
    subst (λ (f : CaptureFault). IfRefused f P) (sym (is ∙ ap (λ (k : Cause). Refused (record { cause = k; at = at })) same)) h

-- ---- answers

-- what holds of the value in an answer
pub some_of : {T : Type 0} (found : Option T) (value : T) (P : T → Type 0) → found ≡ Some value → IfSome found P → P value
some_of {T} found value P is h = subst (λ (o : Option T). IfSome o P) is h

pub false_and_true : (b : Bool) → b ≡ false → b ≡ true → ⊥
false_and_true b is_false is_true = let same : false ≡ true = sym is_false ∙ is_true in absurd cc
