-- The head of a pcap file and its records at the front of bytes, however these go on.
use Rattle.std.proofs.Common.{◌≡◌, ℕ, ◌+◌, ◌*◌, ◌%◌, ◌≤◌, List, [], ◌∷◌, ◌++◌, length, take, drop, Some, sym, ap, subst, ◌∙◌, arith}
use Rattle.std.proofs.lemmas.List.{drop-append-le, take-append-le, length-append, length-drop}
use Rattle.dia_packets.specs.declared.fault.Cause.TheVariants.{Length, Version}
use Rattle.dia_packets.specs.declared.kind.Unit.{Unit}
use Rattle.dia_packets.specs.declared.order.Order.{Order}
use Rattle.dia_packets.specs.declared.records.Form.{Form}
use Rattle.dia_packets.specs.Fields.{counted, field}
use Rattle.dia_packets.specs.Packets.{PlainPacket}
use Rattle.dia_packets.specs.Records.{AreRecords, packet, too_long, ArePcap, records, version, End, HasRecord, HasVersion, IsLong, form_of, head_size, kept_of, record_packet, record_size, time_of}
use Rattle.dia_packets.specs.Records.{unit_length}
use Rattle.dia_packets.proofs.Fields.{field_on}

-- ---- a record

kept_on : (form : Form) (xs more : List ℕ) → 16 ≤ length xs → kept_of form (xs ++ more) ≡ kept_of form xs
kept_on form xs more h = field_on form.order 4 8 xs more (omega (arith, h))

HasRecord_on : (form : Form) (xs more : List ℕ) → HasRecord form xs → HasRecord form (xs ++ more)
HasRecord_on form xs more h =
    let same = kept_on form xs more h.head in
    let size = length-append xs more in
    record { head = omega (arith, h.head, size); within = omega (arith, h.within, same); whole = omega (arith, h.whole, same, size) }

abbrev made : (n time link : ℕ) → List ℕ → ℕ → PlainPacket
made n time link bytes size = record { number = n; time = Some time; link = link; bytes = bytes; size = size }

record_on : (form : Form) (n : ℕ) (xs more : List ℕ) → HasRecord form xs → record_packet form n (xs ++ more) ≡ record_packet form n xs
record_on form n xs more h =
    let head = h.head in
    let whole = h.whole in
    let seconds = field_on form.order 4 0 xs more (omega (arith, head)) in
    let fraction = field_on form.order 4 4 xs more (omega (arith, head)) in
    let size = field_on form.order 4 12 xs more (omega (arith, head)) in
    let time : time_of form (xs ++ more) ≡ time_of form xs =
    ap (λ (s : ℕ). s * 1000000000 + field form.order 4 4 (xs ++ more) * unit_length form.unit) seconds
    ∙ ap (λ (f : ℕ). field form.order 4 0 xs * 1000000000 + f * unit_length form.unit) fraction in
    let bytes : take (kept_of form (xs ++ more)) (drop 16 (xs ++ more)) ≡ take (kept_of form xs) (drop 16 xs) =
    ap (λ (k : ℕ). take k (drop 16 (xs ++ more))) (kept_on form xs more head)
    ∙ ap (λ (b : List ℕ). take (kept_of form xs) b) (drop-append-le 16 xs more head)
    ∙ take-append-le (kept_of form xs) (drop 16 xs) more (omega (arith, whole, length-drop 16 xs)) in
    ap (λ (t : ℕ). made n t form.link (take (kept_of form (xs ++ more)) (drop 16 (xs ++ more))) (field form.order 4 12 (xs ++ more))) time
    ∙ ap (λ (b : List ℕ). made n (time_of form xs) form.link b (field form.order 4 12 (xs ++ more))) bytes
    ∙ ap (λ (s : ℕ). made n (time_of form xs) form.link (take (kept_of form xs) (drop 16 xs)) s) size

-- what follows a record
rest_on : (form : Form) (xs more : List ℕ) → HasRecord form xs → drop (record_size form (xs ++ more)) (xs ++ more) ≡ drop (record_size form xs) xs ++ more
rest_on form xs more h =
    ap (λ (k : ℕ). drop (16 + k) (xs ++ more)) (kept_on form xs more h.head) ∙ drop-append-le (record_size form xs) xs more h.whole

pub record_read : (form : Form) (xs more : List ℕ) (at n : ℕ) (others : List PlainPacket) (end : End) → HasRecord form xs
    → AreRecords form (counted (at + record_size form xs)) (counted (n + 1)) (drop (record_size form xs) xs ++ more) others end
    → AreRecords form at n (xs ++ more) (record_packet form n xs ∷ others) end
record_read form xs more at n others end h rest =
    let moved = subst (λ (b : List ℕ). AreRecords form (counted (at + record_size form xs)) (counted (n + 1)) b others end) (sym (rest_on form xs more h)) rest in
    let same = subst (λ (k : ℕ). AreRecords form (counted (at + (16 + k))) (counted (n + 1)) (drop (record_size form (xs ++ more)) (xs ++ more)) others end)
    (sym (kept_on form xs more h.head)) moved in
    subst (λ (p : PlainPacket). AreRecords form at n (xs ++ more) (p ∷ others) end) (record_on form n xs more h) (packet (HasRecord_on form xs more h) same)

pub long_read : (form : Form) (xs more : List ℕ) (at n : ℕ) → IsLong form xs → AreRecords form at n (xs ++ more) [] (Some (record { cause = Length; at = at }))
long_read form xs more at n h =
    let same = kept_on form xs more h.0 in
    let size = length-append xs more in
    too_long (omega (arith, h.0, size), omega (arith, h.1, same))

-- ---- the head of a file

HasVersion_on : (order : Order) (xs more : List ℕ) → head_size ≤ length xs → HasVersion order xs → HasVersion order (xs ++ more)
HasVersion_on order xs more long h = (field_on order 2 4 xs more (omega (arith, long)) ∙ h.0, field_on order 2 6 xs more (omega (arith, long)) ∙ h.1)

HasVersion_before : (order : Order) (xs more : List ℕ) → head_size ≤ length xs → HasVersion order (xs ++ more) → HasVersion order xs
HasVersion_before order xs more long h = (sym (field_on order 2 4 xs more (omega (arith, long))) ∙ h.0, sym (field_on order 2 6 xs more (omega (arith, long))) ∙ h.1)

form_on : (order : Order) (unit : Unit) (xs more : List ℕ) → head_size ≤ length xs → form_of order unit (xs ++ more) ≡ form_of order unit xs
form_on order unit xs more long =
    let form : ℕ → Form = λ k. record { order = order; unit = unit; link = k % 65536 } in
    ap form (field_on order 4 20 xs more (omega (arith, long)))

pub head_read : (order : Order) (unit : Unit) (xs more : List ℕ) (at n : ℕ) (packets : List PlainPacket) (end : End) → head_size ≤ length xs → HasVersion order xs
    → AreRecords (form_of order unit xs) (counted (at + head_size)) n (drop head_size xs ++ more) packets end → ArePcap order unit at n (xs ++ more) packets end
head_read order unit xs more at n packets end long is rest =
    let size = length-append xs more in
    let moved = subst (λ (b : List ℕ). AreRecords (form_of order unit xs) (counted (at + head_size)) n b packets end) (sym (drop-append-le head_size xs more long)) rest in
    records (omega (arith, long, size)) (HasVersion_on order xs more long is)
    (subst (λ (form : Form). AreRecords form (counted (at + head_size)) n (drop head_size (xs ++ more)) packets end) (sym (form_on order unit xs more long)) moved)

pub version_read : (order : Order) (unit : Unit) (xs more : List ℕ) (at n : ℕ) → head_size ≤ length xs → ¬ HasVersion order xs
    → ArePcap order unit at n (xs ++ more) [] (Some (record { cause = Version; at = at }))
version_read order unit xs more at n long other =
    let size = length-append xs more in
    version (omega (arith, long, size)) (λ h. other (HasVersion_before order xs more long h))
