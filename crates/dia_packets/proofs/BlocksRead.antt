-- The block at the front of bytes, however these go on.
use Rattle.std.proofs.Common.{◌≡◌, ◌≢◌, ℕ, ◌+◌, ◌-◌, ◌≤◌, Bool, true, false, cond, List, [], ◌∷◌, ◌++◌, length, take, drop, Option, Some, None, refl, sym, ap, subst, ◌∙◌, inl, inr, arith}
use Rattle.std.specs.Prelude.{◌==◌, ◌&&◌, nat_le, slice_get, option_and_then}
use Rattle.std.proofs.lemmas.Bool.{le-leb, leb-true}
use Rattle.std.proofs.lemmas.List.{drop-append-le, take-append-le, length-append, length-drop}
use Rattle.dia_packets.specs.declared.blocks.BlockHead.{BlockHead}
use Rattle.dia_packets.specs.declared.blocks.BlockKind.{BlockKind}
use Rattle.dia_packets.specs.declared.blocks.BlockKind.TheVariants.{Section, Description, Data, Other}
use Rattle.dia_packets.specs.declared.blocks.PacketFields.{PacketFields}
use Rattle.dia_packets.specs.declared.blocks.PacketKind.{PacketKind}
use Rattle.dia_packets.specs.declared.blocks.PacketKind.TheVariants.{Enhanced, Obsolete, Simple}
use Rattle.dia_packets.specs.declared.fault.Cause.{Cause}
use Rattle.dia_packets.specs.declared.fault.Cause.TheVariants.{Cut, Length}
use Rattle.dia_packets.specs.declared.interfaces.Interface.{Interface as OneInterface}
use Rattle.dia_packets.specs.declared.order.Order.{Order}
use Rattle.dia_packets.specs.Blocks.{Heads, section, other, HasMagic, HasNoOrder, IsSection, Lacks, Says, block_packet, fields_of, fits, flaw, has_end, has_size, kind_of_type, least_size}
use Rattle.dia_packets.specs.Fields.{field}
use Rattle.dia_packets.specs.Interfaces.{HasOffset, HasResolution, options_of, time_of}
use Rattle.dia_packets.specs.Packets.{PlainPacket}
use Rattle.dia_packets.proofs.Fields.{field_on}

-- ---- heads

section_on : (xs more : List ℕ) → 4 ≤ length xs → take 4 (xs ++ more) ≡ take 4 xs
section_on xs more h = take-append-le 4 xs more h

magic_on : (xs more : List ℕ) → 12 ≤ length xs → take 4 (drop 8 (xs ++ more)) ≡ take 4 (drop 8 xs)
magic_on xs more h =
    ap (λ (b : List ℕ). take 4 b) (drop-append-le 8 xs more (omega (arith, h))) ∙ take-append-le 4 (drop 8 xs) more (omega (arith, h, length-drop 8 xs))

abbrev made_head : Order → BlockKind → ℕ → BlockHead
made_head order kind size = record { order = order; kind = kind; size = size }

pub heads_on : (order : Order) (xs more : List ℕ) (head : BlockHead) → Heads order xs head → Heads order (xs ++ more) head
heads_on order xs more _ (section its is enough magic) =
    let size = length-append xs more in
    subst (λ (k : ℕ). Heads order (xs ++ more) (made_head its Section k)) (field_on its 4 4 xs more (omega (arith, enough)))
    (section its (section_on xs more (omega (arith, enough)) ∙ is) (omega (arith, enough, size)) (magic_on xs more enough ∙ magic))
heads_on order xs more _ (other isnt enough) =
    let size = length-append xs more in
    subst (λ (k : ℕ). Heads order (xs ++ more) (made_head order (kind_of_type (field order 4 0 xs)) k)) (field_on order 4 4 xs more (omega (arith, enough)))
    (subst (λ (t : ℕ). Heads order (xs ++ more) (made_head order (kind_of_type t) (field order 4 4 (xs ++ more)))) (field_on order 4 0 xs more (omega (arith, enough)))
    (other (λ is. isnt (sym (section_on xs more (omega (arith, enough))) ∙ is)) (omega (arith, enough, size))))

pub no_order_on : (xs more : List ℕ) → HasNoOrder xs → HasNoOrder (xs ++ more)
no_order_on xs more (is, enough, none) =
    let size = length-append xs more in
    (section_on xs more (omega (arith, enough)) ∙ is, omega (arith, enough, size), λ order magic. none order (sym (magic_on xs more enough) ∙ magic))

-- ---- whether a block can be passed

abbrev picked : (sized there ended : Bool) → Option Cause
picked sized there ended = cond sized (cond there (cond ended None (Some Length)) (Some Cut)) (Some Length)

picked_on : (sized there ended there' ended' : Bool) (result : Option Cause) → picked sized there ended ≡ result → result ≢ Some Cut
    → (sized ≡ true → there ≡ true → (there' ≡ true) × (ended' ≡ ended)) → picked sized there' ended' ≡ result
picked_on true true ended there' ended' result is differs same = let both = same refl refl in let t = both.0 in let e = both.1 in rw (t, e) is
picked_on true false ended there' ended' result is differs same = absurd (differs (sym is))
picked_on false there ended there' ended' result is differs same = is

picked_none : (sized there ended : Bool) → picked sized there ended ≡ None → (sized ≡ true) × (there ≡ true) × (ended ≡ true)
picked_none true true true is = (refl, refl, refl)
picked_none true true false is = absurd cc
picked_none true false ended is = absurd cc
picked_none false there ended is = absurd cc

both_true : (a b : Bool) → (a && b) ≡ true → (a ≡ true) × (b ≡ true)
both_true true b h = (refl, h)
both_true false b h = absurd cc

pub least : (head : BlockHead) → has_size head ≡ true → least_size head.kind ≤ head.size
least head h =
    let sized = both_true (nat_le (least_size head.kind) head.size && _) _ h in
    leb-true (least_size head.kind) head.size (both_true (nat_le (least_size head.kind) head.size) _ sized.0).0

twelve : (kind : BlockKind) → 12 ≤ least_size kind
twelve Section = omega arith
twelve Description = omega arith
twelve (Data Enhanced) = omega arith
twelve (Data Obsolete) = omega arith
twelve (Data Simple) = omega arith
twelve Other = omega arith

pub flaw_none : (head : BlockHead) (bytes : List ℕ) → flaw head bytes ≡ None → (has_size head ≡ true) × (head.size ≤ length bytes)
flaw_none head bytes h =
    let is = picked_none (has_size head) (nat_le head.size (length bytes)) (has_end head bytes) h in
    (is.0, leb-true head.size (length bytes) is.1)

pub flaw_on : (head : BlockHead) (xs more : List ℕ) (result : Option Cause) → flaw head xs ≡ result → result ≢ Some Cut → flaw head (xs ++ more) ≡ result
flaw_on head xs more result is differs =
    let size = length-append xs more in
    picked_on (has_size head) (nat_le head.size (length xs)) (has_end head xs) (nat_le head.size (length (xs ++ more))) (has_end head (xs ++ more)) result is differs
    (λ sized there.
    let low = least head sized in
    let some = twelve head.kind in
    let whole = leb-true head.size (length xs) there in
    let same : field head.order 4 (head.size - 4) (xs ++ more) ≡ field head.order 4 (head.size - 4) xs = field_on head.order 4 (head.size - 4) xs more (omega (arith, low, some, whole)) in
    (le-leb head.size (length (xs ++ more)) (omega (arith, whole, size)), ap (λ (n : ℕ). n == head.size) same))

-- ---- what a block says

fields_on : (kind : PacketKind) (order : Order) (size : ℕ) (xs more : List ℕ) → least_size (Data kind) ≤ length xs → fields_of kind order size (xs ++ more) ≡ fields_of kind order size xs
fields_on Enhanced order size xs more h =
    let interface = field_on order 4 8 xs more (omega (arith, h)) in
    let kept = field_on order 4 20 xs more (omega (arith, h)) in
    let there = field_on order 4 24 xs more (omega (arith, h)) in
    let high = field_on order 4 12 xs more (omega (arith, h)) in
    let low = field_on order 4 16 xs more (omega (arith, h)) in
    cc
fields_on Obsolete order size xs more h =
    let interface = field_on order 2 8 xs more (omega (arith, h)) in
    let kept = field_on order 4 20 xs more (omega (arith, h)) in
    let there = field_on order 4 24 xs more (omega (arith, h)) in
    let high = field_on order 4 12 xs more (omega (arith, h)) in
    let low = field_on order 4 16 xs more (omega (arith, h)) in
    cc
fields_on Simple order size xs more h =
    let there = field_on order 4 8 xs more (omega (arith, h)) in
    cc

part_on : (start kept : ℕ) (xs more : List ℕ) → start + kept ≤ length xs → take kept (drop start (xs ++ more)) ≡ take kept (drop start xs)
part_on start kept xs more h =
    ap (λ (b : List ℕ). take kept b) (drop-append-le start xs more (omega (arith, h))) ∙ take-append-le kept (drop start xs) more (omega (arith, h, length-drop start xs))

options_on : (size : ℕ) (xs more : List ℕ) → 20 ≤ size → size ≤ length xs → options_of size (xs ++ more) ≡ options_of size xs
options_on size xs more low whole = part_on 16 (size - 4 - 16) xs more (omega (arith, low, whole))

packet_on : (n : ℕ) (one : OneInterface) (fields : PacketFields) (xs more : List ℕ) → fields.start + fields.kept ≤ length xs → block_packet n one fields (xs ++ more) ≡ block_packet n one fields xs
packet_on n one fields xs more h =
    let packet : List ℕ → PlainPacket = λ b. record { number = n; time = option_and_then (λ stamp. time_of one stamp) fields.stamp; link = one.link; bytes = b; size = fields.size } in
    ap packet (part_on fields.start fields.kept xs more h)

within : (size : ℕ) (fields : PacketFields) → fits size fields ≡ true → fields.start + fields.kept + 4 ≤ size
within size fields h = leb-true (fields.start + fields.kept + 4) size (both_true _ _ h).1

pub says_on : (kind : BlockKind) (order : Order) (size : ℕ) (interfaces : List OneInterface) (n : ℕ) (xs more : List ℕ) (found : List PlainPacket) (now : List OneInterface)
    → least_size kind ≤ size → size ≤ length xs → Says kind order size interfaces n xs found now → Says kind order size interfaces n (xs ++ more) found now
says_on Section order size interfaces n xs more found now low whole (is, none, after) = (field_on order 2 12 xs more (omega (arith, low, whole)) ∙ is, none, after)
says_on Description order size interfaces n xs more found now low whole (one, is, none, after) =
    let options = options_on size xs more low whole in (
      one,
      record {
        link_is = is.link_is ∙ sym (field_on order 2 8 xs more (omega (arith, low, whole)));
        resolution_is = subst (λ (b : List ℕ). HasResolution order b one.resolution) (sym options) is.resolution_is;
        offset_is = subst (λ (b : List ℕ). HasOffset order b one.offset) (sym options) is.offset_is;
      },
      none,
      after,
    )
says_on (Data kind) order size interfaces n xs more found now low whole (fit, (one, at, is), after) =
    let same = sym (fields_on kind order size xs more (omega (arith, low, whole))) in
    let inside = within size (fields_of kind order size xs) fit in (
      subst (λ (f : PacketFields). fits size f ≡ true) same fit,
      (
        one,
        subst (λ (f : PacketFields). slice_get interfaces f.interface ≡ Some one) same at,
        subst (λ (f : PacketFields). found ≡ block_packet n one f (xs ++ more) ∷ []) same
            (is ∙ ap (λ (p : PlainPacket). p ∷ []) (sym (packet_on n one (fields_of kind order size xs) xs more (omega (arith, inside, whole))))),
      ),
      after,
    )
says_on Other order size interfaces n xs more found now low whole is = is

pub lacks_on : (kind : BlockKind) (order : Order) (size : ℕ) (interfaces : List OneInterface) (xs more : List ℕ) (cause : Cause)
    → least_size kind ≤ size → size ≤ length xs → Lacks kind order size interfaces xs cause → Lacks kind order size interfaces (xs ++ more) cause
lacks_on Section order size interfaces xs more cause low whole (is, why) = (λ h. is (sym (field_on order 2 12 xs more (omega (arith, low, whole))) ∙ h), why)
lacks_on Description order size interfaces xs more cause low whole h = absurd h
lacks_on (Data kind) order size interfaces xs more cause low whole (inl (unfit, why)) =
    let same = sym (fields_on kind order size xs more (omega (arith, low, whole))) in
    inl (subst (λ (f : PacketFields). fits size f ≡ false) same unfit, why)
lacks_on (Data kind) order size interfaces xs more cause low whole (inr (fit, none, why)) =
    let same = sym (fields_on kind order size xs more (omega (arith, low, whole))) in
    inr (subst (λ (f : PacketFields). fits size f ≡ true) same fit, subst (λ (f : PacketFields). slice_get interfaces f.interface ≡ None) same none, why)
lacks_on Other order size interfaces xs more cause low whole h = absurd h

-- ---- a head that is read

pub heads_other : (order : Order) (bytes : List ℕ) (type size : ℕ) (kind : BlockKind) → ¬ IsSection bytes → 8 ≤ length bytes → type ≡ field order 4 0 bytes → kind ≡ kind_of_type type
    → size ≡ field order 4 4 bytes → Heads order bytes (record { order = order; kind = kind; size = size })
heads_other order bytes type size kind isnt enough is_type is_kind is_size =
    subst (λ (k : BlockKind). Heads order bytes (made_head order k size)) (sym (is_kind ∙ ap kind_of_type is_type))
    (subst (λ (n : ℕ). Heads order bytes (made_head order (kind_of_type (field order 4 0 bytes)) n)) (sym is_size) (other isnt enough))

pub heads_section : (outer its : Order) (bytes : List ℕ) (size : ℕ) → IsSection bytes → 12 ≤ length bytes → HasMagic bytes its → size ≡ field its 4 4 bytes
    → Heads outer bytes (record { order = its; kind = Section; size = size })
heads_section outer its bytes size is enough magic is_size = subst (λ (n : ℕ). Heads outer bytes (made_head its Section n)) (sym is_size) (section its is enough magic)

-- a packet that is read
pub says_packet : (kind : PacketKind) (order : Order) (size : ℕ) (interfaces : List OneInterface) (bytes : List ℕ) (fields : PacketFields) (one : OneInterface) (n : ℕ)
    (time : Option ℕ) (kept : List ℕ) → fields ≡ fields_of kind order size bytes → fits size fields ≡ true → slice_get interfaces fields.interface ≡ Some one
    → time ≡ option_and_then (λ stamp. time_of one stamp) fields.stamp → kept ≡ take fields.kept (drop fields.start bytes)
    → Says (Data kind) order size interfaces n bytes ((record { number = n; time = time; link = one.link; bytes = kept; size = fields.size }) ∷ []) interfaces
says_packet kind order size interfaces bytes fields one n time kept is fit at is_time is_kept =
    let made : Option ℕ → List ℕ → PlainPacket = λ t b. record { number = n; time = t; link = one.link; bytes = b; size = fields.size } in
    let same : made time kept ∷ [] ≡ block_packet n one fields bytes ∷ [] =
    ap (λ (t : Option ℕ). made t kept ∷ []) is_time ∙ ap (λ (b : List ℕ). made (option_and_then (λ stamp. time_of one stamp) fields.stamp) b ∷ []) is_kept in
    subst (λ (f : PacketFields). (fits size f ≡ true) × ((it : OneInterface) × (slice_get interfaces f.interface ≡ Some it) × (made time kept ∷ [] ≡ block_packet n it f bytes ∷ []))
    × (interfaces ≡ interfaces)) is (fit, (one, at, same), refl)
