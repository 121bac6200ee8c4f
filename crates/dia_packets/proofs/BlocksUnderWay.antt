-- A pcapng file that is read in pieces.
use Rattle.std.proofs.Common.{◌≡◌, ℕ, ◌+◌, ◌-◌, ◌<◌, ◌≤◌, Bool, true, false, cond, eq-eqb, List, [], ◌∷◌, ◌++◌, length, take, drop, Some, None, refl, sym, ap, subst, ◌∙◌, append_assoc, inl, inr}
use Rattle.std.proofs.Common.{arith}
use Rattle.std.specs.Prelude.{map, ◌⊎◌, nat_le}
use Rattle.std.proofs.Math.Seq.{drop-append_seam, drop-append-add}
use Rattle.std.proofs.lemmas.Bool.{le-leb, ne_eqb}
use Rattle.std.proofs.lemmas.Bool.Decides.{leb_tells}
use Rattle.std.proofs.lemmas.List.{append-nil, drop-append-le, length-append, length-take, take-append-drop, take-take}
use Rattle.dia_packets.specs.declared.blocks.BlockHead.{BlockHead}
use Rattle.dia_packets.specs.declared.blocks.BlockKind.TheVariants.{Other}
use Rattle.dia_packets.specs.declared.fault.Cause.{Cause}
use Rattle.dia_packets.specs.declared.fault.Cause.TheVariants.{Cut, Length}
use Rattle.dia_packets.specs.declared.interfaces.Interface.{Interface as OneInterface}
use Rattle.dia_packets.specs.declared.order.Order.{Order}
use Rattle.dia_packets.specs.declared.packet.Packet.{Packet}
use Rattle.dia_packets.specs.declared.position.Passed.{Passed}
use Rattle.dia_packets.specs.declared.position.Position.{Position}
use Rattle.dia_packets.specs.declared.position.State.{State}
use Rattle.dia_packets.specs.declared.position.State.TheVariants.{Head, Records, Blocks, Passing}
use Rattle.dia_packets.specs.declared.sections.Said.{Said}
use Rattle.dia_packets.specs.Blocks.{AreBlocks, block, flawed, lacking, no_head, no_order, Heads, section, other, Says, flaw, has_end, has_size, kind_of_type, next_number}
use Rattle.dia_packets.specs.Fields.{counted, field}
use Rattle.dia_packets.specs.Packets.{PlainPacket, plain_packet}
use Rattle.dia_packets.specs.Records.{End, cut, no_file_head}
use Rattle.dia_packets.specs.Sections.{IsRefusedBlock, SaysAs, found_of, now_of}
use Rattle.dia_packets.specs.UnderWay.{AreFrom, AreRest, IsPart, IsPassed, IsWhole, Reads, Stops, passed_head}
use Rattle.dia_packets.proofs.BlocksRead.{flaw_none, flaw_on, heads_on, lacks_on, least, no_order_on, says_on}
use Rattle.dia_packets.proofs.Fields.{field_on}
use Rattle.dia_packets.proofs.UnderWayRead.{stops_at_once}

-- ---- a whole block

block_read : (order : Order) (interfaces : List OneInterface) (xs more : List ℕ) (at n : ℕ) (head : BlockHead) (found : List PlainPacket) (now : List OneInterface)
    (others : List PlainPacket) (end : End) → Heads order xs head → flaw head xs ≡ None → Says head.kind head.order head.size interfaces n xs found now
    → AreBlocks head.order now (counted (at + head.size)) (next_number n found) (drop head.size xs ++ more) others end
    → AreBlocks order interfaces at n (xs ++ more) (found ++ others) end
block_read order interfaces xs more at n head found now others end heads good says rest =
    let is = flaw_none head xs good in
    block head found now (heads_on order xs more head heads) (flaw_on head xs more None good (λ e. absurd cc))
    (says_on head.kind head.order head.size interfaces n xs more found now (least head is.0) is.1 says)
    (subst (λ (b : List ℕ). AreBlocks head.order now (counted (at + head.size)) (next_number n found) b others end) (sym (drop-append-le head.size xs more is.1)) rest)

pub Reads-block : (order : Order) (old new : Position) (ps qs : List Packet) (bytes rest : List ℕ) (head : BlockHead) (said : Said) → old.state ≡ Blocks order
    → Heads order bytes head → flaw head bytes ≡ None → SaysAs head old.interfaces.items bytes said → new.state ≡ Blocks head.order
    → new.at ≡ counted (old.at + head.size) → new.number ≡ next_number old.number (found_of old.number said) → new.interfaces.items ≡ now_of old.interfaces.items said
    → map plain_packet qs ≡ map plain_packet ps ++ found_of old.number said → rest ≡ drop head.size bytes → Reads old new ps qs bytes rest
Reads-block order old new ps qs bytes rest head said is heads good says now at number interfaces added is_rest = record {
  front = take head.size bytes;
  parts = sym (take-append-drop head.size bytes) ∙ ap (λ (t : List ℕ). take head.size bytes ++ t) (sym is_rest);
  found = found_of old.number said;
  added = added;
  reads = λ more others end h.
      let found = found_of old.number said in
      let after = now_of old.interfaces.items said in
      let blocks = subst (λ (s : State). AreRest s new.interfaces.items new.at new.number (rest ++ more) others end) now h in
      let described = subst (λ (i : List OneInterface). AreBlocks head.order i new.at new.number (rest ++ more) others end) interfaces blocks in
      let placed = subst (λ (k : ℕ). AreBlocks head.order after k new.number (rest ++ more) others end) at described in
      let counts = subst (λ (k : ℕ). AreBlocks head.order after (counted (old.at + head.size)) k (rest ++ more) others end) number placed in
      let dropped = subst (λ (t : List ℕ). AreBlocks head.order after (counted (old.at + head.size)) (next_number old.number found) (t ++ more) others end) is_rest counts in
      subst (λ (s : State). AreRest s old.interfaces.items old.at old.number (bytes ++ more) (found ++ others) end) (sym is)
      (block_read order old.interfaces.items bytes more old.at old.number head found after others end heads good (says old.number) dropped);
}

refused_read : (order : Order) (interfaces : List OneInterface) (xs more : List ℕ) (at n : ℕ) (cause : Cause) → IsRefusedBlock order interfaces xs cause
    → AreBlocks order interfaces at n (xs ++ more) [] (Some (record { cause = cause; at = at }))
refused_read order interfaces xs more at n cause (inl (none, is)) =
    subst (λ (k : Cause). AreBlocks order interfaces at n (xs ++ more) [] (Some (record { cause = k; at = at }))) (sym is) (no_order (no_order_on xs more none))
refused_read order interfaces xs more at n cause (inr (inl (head, heads, bad, not_cut))) =
    flawed head cause (heads_on order xs more head heads) (flaw_on head xs more (Some cause) bad (λ e. not_cut (let same : cause ≡ Cut = cc in same)))
refused_read order interfaces xs more at n cause (inr (inr (head, heads, good, lacks))) =
    let is = flaw_none head xs good in
    lacking head cause (heads_on order xs more head heads) (flaw_on head xs more None good (λ e. absurd cc))
    (lacks_on head.kind head.order head.size interfaces xs more cause (least head is.0) is.1 lacks)

pub Stops-block : (order : Order) (old : Position) (ps : List Packet) (bytes : List ℕ) (cause : Cause) → old.state ≡ Blocks order
    → IsRefusedBlock order old.interfaces.items bytes cause → Stops old ps ps bytes (record { cause = cause; at = old.at })
Stops-block order old ps bytes cause is h = stops_at_once old ps bytes _
    (λ more. subst (λ (s : State). AreRest s old.interfaces.items old.at old.number (bytes ++ more) [] (Some (record { cause = cause; at = old.at }))) (sym is)
    (refused_read order old.interfaces.items bytes more old.at old.number cause h))

-- ---- a block that is passed over

first_eight : (order : Order) (bytes : List ℕ) (head : BlockHead) → Heads order bytes head → head.kind ≡ Other → Heads order (take 8 bytes) (passed_head order head.size)
first_eight order bytes _ (section its is enough magic) kind = absurd cc
first_eight order bytes _ (other isnt enough) kind =
    let all = take-append-drop 8 bytes in
    let size = length-take 8 bytes in
    let type : field order 4 0 (take 8 bytes) ≡ field order 4 0 bytes =
    sym (field_on order 4 0 (take 8 bytes) (drop 8 bytes) (omega (arith, size, enough))) ∙ ap (λ (b : List ℕ). field order 4 0 b) all in
    let whole : field order 4 4 (take 8 bytes) ≡ field order 4 4 bytes =
    sym (field_on order 4 4 (take 8 bytes) (drop 8 bytes) (omega (arith, size, enough))) ∙ ap (λ (b : List ℕ). field order 4 4 b) all in
    let front : take 4 (take 8 bytes) ≡ take 4 bytes = take-take 4 8 bytes (omega arith) in
    let made : Heads order (take 8 bytes) (record { order = order; kind = kind_of_type (field order 4 0 (take 8 bytes)); size = field order 4 4 (take 8 bytes) }) =
    other (λ is. isnt (sym front ∙ is)) (omega (arith, size, enough)) in
    subst (λ (k : ℕ). Heads order (take 8 bytes) (passed_head order k)) whole
    (subst (λ (h : BlockHead). Heads order (take 8 bytes) h)
    (let head : _ → BlockHead = λ k. record { order = order; kind = k; size = field order 4 4 (take 8 bytes) } in ap head (ap kind_of_type type ∙ kind)) made)

pub Reads-begun : (order : Order) (old new : Position) (ps : List Packet) (bytes rest : List ℕ) (head : BlockHead) (passed : Passed) → old.state ≡ Blocks order
    → Heads order bytes head → head.kind ≡ Other → has_size head ≡ true → 12 ≤ head.size → 8 ≤ length bytes
    → passed ≡ record { order = order; size = head.size; left = head.size - 12 } → new.state ≡ Passing passed → new.at ≡ old.at → new.number ≡ old.number
    → new.interfaces.items ≡ old.interfaces.items → rest ≡ drop 8 bytes → Reads old new ps ps bytes rest
Reads-begun order old new ps bytes rest head passed is heads kind sized some enough is_passed now at number interfaces is_rest = record {
  front = take 8 bytes;
  parts = sym (take-append-drop 8 bytes) ∙ ap (λ (t : List ℕ). take 8 bytes ++ t) (sym is_rest);
  found = [];
  added = sym (append-nil (map plain_packet ps));
  reads = λ more others end h.
      let begun : Passed = record { order = order; size = head.size; left = head.size - 12 } in
      let passing = subst (λ (s : State). AreRest s new.interfaces.items new.at new.number (rest ++ more) others end) (now ∙ ap (λ (p : Passed). Passing p) is_passed) h in
      let described = subst (λ (i : List OneInterface). AreRest (Passing begun) i new.at new.number (rest ++ more) others end) interfaces passing in
      let placed = subst (λ (k : ℕ). AreRest (Passing begun) old.interfaces.items k new.number (rest ++ more) others end) at described in
      let counts = subst (λ (k : ℕ). AreRest (Passing begun) old.interfaces.items old.at k (rest ++ more) others end) number placed in
      let size = length-take 8 bytes in
      let same : has_size (passed_head order head.size) ≡ true = passed_sized order bytes head heads kind sized in
      let blocks = counts (take 8 bytes) (record { heads = first_eight order bytes head heads kind; sized = same; left = omega (arith, size, enough, some) }) in
      let whole : take 8 bytes ++ (rest ++ more) ≡ bytes ++ more =
      sym (append_assoc (take 8 bytes) rest more) ∙ ap (λ (b : List ℕ). b ++ more) (ap (λ (t : List ℕ). take 8 bytes ++ t) is_rest ∙ take-append-drop 8 bytes) in
      subst (λ (s : State). AreRest s old.interfaces.items old.at old.number (bytes ++ more) others end) (sym is)
      (subst (λ (b : List ℕ). AreBlocks order old.interfaces.items old.at old.number b others end) whole blocks);
}
  where
    passed_sized : (order : Order) (bytes : List ℕ) (head : BlockHead) → Heads order bytes head → head.kind ≡ Other → has_size head ≡ true → has_size (passed_head order head.size) ≡ true
    passed_sized order bytes _ (section its is enough magic) kind sized = absurd cc
    passed_sized order bytes _ (other isnt enough) kind sized =
        let head : _ → BlockHead = λ k. record { order = order; kind = k; size = field order 4 4 bytes } in
        subst (λ (h : BlockHead). has_size h ≡ true) (ap head kind) sized

-- more of a block was passed
passed_more : (passed : Passed) (before piece : List ℕ) (count : ℕ) → IsPassed (record { order = passed.order; size = passed.size; left = passed.left }) before
    → length piece ≡ count → count ≤ passed.left
    → IsPassed (record { order = passed.order; size = passed.size; left = passed.left - count }) (before ++ piece)
passed_more passed before piece count is size within =
    let left = is.left in
    let both = length-append before piece in
    record { heads = heads_on passed.order before piece (passed_head passed.order passed.size) is.heads; sized = is.sized; left = omega (arith, left, both, size, within) }

pub Reads-passed : (passed after : Passed) (old new : Position) (ps : List Packet) (bytes rest : List ℕ) (count : ℕ) → old.state ≡ Passing passed → count ≤ passed.left → count ≤ length bytes
    → after ≡ record { order = passed.order; size = passed.size; left = passed.left - count } → new.state ≡ Passing after → new.at ≡ old.at → new.number ≡ old.number
    → new.interfaces.items ≡ old.interfaces.items → rest ≡ drop count bytes → Reads old new ps ps bytes rest
Reads-passed passed after old new ps bytes rest count is within there is_after now at number interfaces is_rest = record {
  front = take count bytes;
  parts = sym (take-append-drop count bytes) ∙ ap (λ (t : List ℕ). take count bytes ++ t) (sym is_rest);
  found = [];
  added = sym (append-nil (map plain_packet ps));
  reads = λ more others end h.
      let less : Passed = record { order = passed.order; size = passed.size; left = passed.left - count } in
      let passing = subst (λ (s : State). AreRest s new.interfaces.items new.at new.number (rest ++ more) others end) (now ∙ ap (λ (p : Passed). Passing p) is_after) h in
      let described = subst (λ (i : List OneInterface). AreRest (Passing less) i new.at new.number (rest ++ more) others end) interfaces passing in
      let placed = subst (λ (k : ℕ). AreRest (Passing less) old.interfaces.items k new.number (rest ++ more) others end) at described in
      let counts = subst (λ (k : ℕ). AreRest (Passing less) old.interfaces.items old.at k (rest ++ more) others end) number placed in
      let size : length (take count bytes) ≡ count = omega (arith, length-take count bytes, there) in
      let blocks : (before : List ℕ) → IsPassed passed before → AreBlocks passed.order old.interfaces.items old.at old.number (before ++ (bytes ++ more)) others end =
      λ before begun.
      let whole : (before ++ take count bytes) ++ (rest ++ more) ≡ before ++ (bytes ++ more) =
      append_assoc before (take count bytes) (rest ++ more)
      ∙ ap (λ (b : List ℕ). before ++ b) (sym (append_assoc (take count bytes) rest more)
      ∙ ap (λ (b : List ℕ). b ++ more) (ap (λ (t : List ℕ). take count bytes ++ t) is_rest ∙ take-append-drop count bytes)) in
      subst (λ (b : List ℕ). AreBlocks passed.order old.interfaces.items old.at old.number b others end) whole
      (counts (before ++ take count bytes) (passed_more passed before (take count bytes) count begun size within)) in
      subst (λ (s : State). AreRest s old.interfaces.items old.at old.number (bytes ++ more) others end) (sym is) blocks;
}

-- the length at the end of a block that was passed
end_of_passed : (passed : Passed) (before xs more : List ℕ) → IsPassed passed before → passed.left ≡ 0 → 4 ≤ length xs
    → field passed.order 4 (passed.size - 4) (before ++ (xs ++ more)) ≡ field passed.order 4 0 xs
end_of_passed passed before xs more is none enough =
    let left = is.left in
    let place : passed.size - 4 ≡ length before = omega (arith, left, none) in
    ap (λ (k : ℕ). field passed.order 4 k (before ++ (xs ++ more))) place
    ∙ ap (λ (b : List ℕ). field passed.order 4 0 b) (drop-append_seam before (xs ++ more))
    ∙ field_on passed.order 4 0 xs more (omega (arith, enough))

passed_there : (passed : Passed) (before xs more : List ℕ) → IsPassed passed before → passed.left ≡ 0 → 4 ≤ length xs → passed.size ≤ length (before ++ (xs ++ more))
passed_there passed before xs more is none enough =
    let left = is.left in
    let outer = length-append before (xs ++ more) in
    let inner = length-append xs more in
    omega (arith, left, none, enough, outer, inner)

flaw_passed : (passed : Passed) (bytes : List ℕ) (ended : Bool) → has_size (passed_head passed.order passed.size) ≡ true → passed.size ≤ length bytes
    → has_end (passed_head passed.order passed.size) bytes ≡ ended → flaw (passed_head passed.order passed.size) bytes ≡ cond ended None (Some Length)
flaw_passed passed bytes ended sized there is = let whole = le-leb passed.size (length bytes) there in rw (sized, whole, is) refl

pub Reads-passed_end : (passed : Passed) (old new : Position) (ps : List Packet) (bytes rest : List ℕ) → old.state ≡ Passing passed → passed.left ≡ 0 → 4 ≤ length bytes
    → field passed.order 4 0 bytes ≡ passed.size → new.state ≡ Blocks passed.order → new.at ≡ counted (old.at + passed.size) → new.number ≡ old.number
    → new.interfaces.items ≡ old.interfaces.items → rest ≡ drop 4 bytes → Reads old new ps ps bytes rest
Reads-passed_end passed old new ps bytes rest is none enough size now at number interfaces is_rest = record {
  front = take 4 bytes;
  parts = sym (take-append-drop 4 bytes) ∙ ap (λ (t : List ℕ). take 4 bytes ++ t) (sym is_rest);
  found = [];
  added = sym (append-nil (map plain_packet ps));
  reads = λ more others end h.
      let blocks = subst (λ (s : State). AreRest s new.interfaces.items new.at new.number (rest ++ more) others end) now h in
      let described = subst (λ (i : List OneInterface). AreBlocks passed.order i new.at new.number (rest ++ more) others end) interfaces blocks in
      let placed = subst (λ (k : ℕ). AreBlocks passed.order old.interfaces.items k new.number (rest ++ more) others end) at described in
      let counts = subst (λ (k : ℕ). AreBlocks passed.order old.interfaces.items (counted (old.at + passed.size)) k (rest ++ more) others end) number placed in
      let whole : (before : List ℕ) → IsPassed passed before → AreBlocks passed.order old.interfaces.items old.at old.number (before ++ (bytes ++ more)) others end =
      λ before begun.
      let all = before ++ (bytes ++ more) in
      let ended : has_end (passed_head passed.order passed.size) all ≡ true = eq-eqb _ _ (end_of_passed passed before bytes more begun none enough ∙ size) in
      let good = flaw_passed passed all true begun.sized (passed_there passed before bytes more begun none enough) ended in
      let left = begun.left in
      let place : passed.size ≡ length before + 4 = omega (arith, left, none) in
      let after : drop passed.size all ≡ rest ++ more =
      ap (λ (k : ℕ). drop k all) place ∙ drop-append-add before (bytes ++ more) 4 ∙ drop-append-le 4 bytes more enough ∙ ap (λ (b : List ℕ). b ++ more) (sym is_rest) in
      block (passed_head passed.order passed.size) [] old.interfaces.items (heads_on passed.order before (bytes ++ more) (passed_head passed.order passed.size) begun.heads) good (refl, refl)
      (subst (λ (b : List ℕ). AreBlocks passed.order old.interfaces.items (counted (old.at + passed.size)) old.number b others end) (sym after) counts) in
      subst (λ (s : State). AreRest s old.interfaces.items old.at old.number (bytes ++ more) others end) (sym is) whole;
}

pub Stops-passed : (passed : Passed) (old : Position) (ps : List Packet) (bytes : List ℕ) → old.state ≡ Passing passed → passed.left ≡ 0 → 4 ≤ length bytes
    → (field passed.order 4 0 bytes ≡ passed.size → ⊥) → Stops old ps ps bytes (record { cause = Length; at = old.at })
Stops-passed passed old ps bytes is none enough differs = stops_at_once old ps bytes _
    (λ more.
    let bad : (before : List ℕ) → IsPassed passed before
    → AreBlocks passed.order old.interfaces.items old.at old.number (before ++ (bytes ++ more)) [] (Some (record { cause = Length; at = old.at })) =
    λ before begun.
    let all = before ++ (bytes ++ more) in
    let ended : has_end (passed_head passed.order passed.size) all ≡ false = ne_eqb _ _ (λ e. differs (sym (end_of_passed passed before bytes more begun none enough) ∙ e)) in
    flawed (passed_head passed.order passed.size) Length (heads_on passed.order before (bytes ++ more) (passed_head passed.order passed.size) begun.heads)
    (flaw_passed passed all false begun.sized (passed_there passed before bytes more begun none enough) ended) in
    subst (λ (s : State). AreRest s old.interfaces.items old.at old.number (bytes ++ more) [] (Some (record { cause = Length; at = old.at }))) (sym is) bad)

-- the file ends in a block that is passed over
pub passed_cut : (passed : Passed) (interfaces : List OneInterface) (at n : ℕ) (bytes : List ℕ) → ((0 < passed.left) × (length bytes ≡ 0)) ⊎ ((passed.left ≡ 0) × (length bytes < 4))
    → AreRest (Passing passed) interfaces at n bytes [] (Some (record { cause = Cut; at = at }))
passed_cut passed interfaces at n bytes part before begun =
    let left = begun.left in
    let both = length-append before bytes in
    let short : length (before ++ bytes) < passed.size = few part in
    flawed (passed_head passed.order passed.size) Cut (heads_on passed.order before bytes (passed_head passed.order passed.size) begun.heads)
    (let sized = begun.sized in let there = not_le passed.size (length (before ++ bytes)) short in rw (sized, there) refl)
  where
    few : ((0 < passed.left) × (length bytes ≡ 0)) ⊎ ((passed.left ≡ 0) × (length bytes < 4)) → length (before ++ bytes) < passed.size
    few (inl h) = let left = begun.left in let both = length-append before bytes in omega (arith, h.0, h.1, left, both)
    few (inr h) = let left = begun.left in let both = length-append before bytes in omega (arith, h.0, h.1, left, both)

    not_le : (a b : ℕ) → b < a → nat_le a b ≡ false
    not_le a b h = tells (nat_le a b) (leb_tells a b)
      where
        tells : (t : Bool) → ((t ≡ true) × (a ≤ b)) ⊎ ((t ≡ false) × (b < a)) → t ≡ false
        tells t (inl (is, low)) = absurd (omega (arith, low, h))
        tells t (inr (is, high)) = is

-- ---- the end

pub cut_end : (p : Position) (bytes : List ℕ) → IsPart p.state bytes → ¬ IsWhole p.state bytes → AreFrom p bytes [] (Some (record { cause = Cut; at = p.at }))
cut_end p bytes part some = ends p.state bytes part some
  where
    ends : (state : State) (left : List ℕ) → IsPart state left → ¬ IsWhole state left → AreRest state p.interfaces.items p.at p.number left [] (Some (record { cause = Cut; at = p.at }))
    ends (Head order unit) left part some = no_file_head part
    ends (Records form) [] part some = absurd (some refl)
    ends (Records form) (b ∷ left) part some = cut (omega arith) part
    ends (Blocks order) [] part some = absurd (some refl)
    ends (Blocks order) (b ∷ left) (inl cut_head) some = no_head (omega arith) cut_head
    ends (Blocks order) (b ∷ left) (inr (head, heads, bad)) some = flawed head Cut heads bad
    ends (Passing passed) left part some = passed_cut passed p.interfaces.items p.at p.number left part
