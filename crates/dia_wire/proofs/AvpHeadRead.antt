-- What the first bytes of a level say of its first AVP, however the level goes on.
use Rattle.std.proofs.Common.{◌≡◌, ℕ, ◌+◌, ◌<◌, ◌≤◌, ◌-◌, List, [], ◌++◌, Option, Some, None, length, take, drop, get_or, refl, sym, ap, ◌∙◌, arith, inl, inr}
use Rattle.std.specs.Prelude.{IsSome, ◌↔◌, ◌⊎◌}
use Rattle.std.proofs.lemmas.List.{length-append, length-drop, drop-take, take-append-le, append-nil, get_or_append_left}
use Rattle.byteorder.specs.Endian.{big_from}
use Rattle.dia_wire.specs.declared.avp.AvpHead.{AvpHead}
use Rattle.dia_wire.specs.Number.{number}
use Rattle.dia_wire.specs.Wire.{HasVendorFlag, head_length, BeginsWith, BeginsWithNone, HasWholeHead, Heads, CannotBegin}
use Rattle.dia_wire.proofs.Fields.{big_from-number}
use Rattle.dia_wire.proofs.Spelling.{Opened, opened, begins_at, none_begins, rounded, start_from, same_vendor, vendor_agrees, vendor_field_at}

-- a field that lies in the first bytes is there however they go on
field_before : (i n : ℕ) (xs more : List ℕ) → i + n ≤ length xs → big_from 0 n (drop i (xs ++ more)) ≡ big_from 0 n (drop i xs)
field_before i n xs more h =
    big_from-number n (drop i (xs ++ more)) (omega (arith, length-drop i (xs ++ more), length-append xs more, h))
    ∙ ap number (sym (drop-take i n (xs ++ more)) ∙ ap (λ (f : List ℕ). drop i f) (take-append-le (i + n) xs more h) ∙ drop-take i n xs)
    ∙ sym (big_from-number n (drop i xs) (omega (arith, length-drop i xs, h)))

flags_before : (xs more : List ℕ) → 8 ≤ length xs → get_or (xs ++ more) 4 0 ≡ get_or xs 4 0
flags_before xs more h = get_or_append_left xs more 0 4 (omega (arith, h))

pub cannot_begin : (xs : List ℕ) (room start len : ℕ) → 8 ≤ length xs → big_from 0 3 (drop 5 xs) ≡ len
    → (HasVendorFlag (get_or xs 4 0) × (start ≡ 12)) ⊎ ((¬ HasVendorFlag (get_or xs 4 0)) × (start ≡ 8))
    → (len < start) ⊎ (room < rounded len) → CannotBegin xs room
cannot_begin xs room start len h8 is_len is_start bad more whole =
    none_begins (xs ++ more) start len (field_before 5 3 xs more (omega arith) ∙ is_len)
    (start_from (get_or (xs ++ more) 4 0) start (rw (flags_before xs more h8) is_start))
    (elim bad [ inl short ↦ inl short | inr long ↦ inr (omega (arith, long, whole)) ])

moved_vendor : (xs more : List ℕ) (vendor : Option ℕ) → 8 ≤ length xs
    → (HasVendorFlag (get_or xs 4 0) × (12 ≤ length xs) × (vendor ≡ Some (big_from 0 4 (drop 8 xs)))) ⊎ ((¬ HasVendorFlag (get_or xs 4 0)) × (vendor ≡ None))
    → (HasVendorFlag (get_or (xs ++ more) 4 0) × (vendor ≡ Some (big_from 0 4 (drop 8 (xs ++ more))))) ⊎ ((¬ HasVendorFlag (get_or (xs ++ more) 4 0)) × (vendor ≡ None))
moved_vendor xs more vendor h8 (inl h) = inl (rw (flags_before xs more h8) h.0, h.2 ∙ ap (λ (n : ℕ). Some n) (sym (field_before 8 4 xs more (omega (arith, h.1)))))
moved_vendor xs more vendor h8 (inr h) = inr (rw (flags_before xs more h8) h.0, h.1)

head_room : (xs more : List ℕ) (vendor : Option ℕ) → 8 ≤ length xs → (HasVendorFlag (get_or xs 4 0) × (12 ≤ length xs) × (vendor ≡ Some (big_from 0 4 (drop 8 xs))))
    ⊎ ((¬ HasVendorFlag (get_or xs 4 0)) × (vendor ≡ None)) → head_length vendor ≤ length (xs ++ more)
head_room xs more vendor h8 (inl h) = rw h.2 (omega (arith, length-append xs more, h.1))
head_room xs more vendor h8 (inr h) = rw h.1 (omega (arith, length-append xs more, h8))

-- each AVP that the bytes begin has these fields
heads : (xs : List ℕ) (head : AvpHead) → 8 ≤ length xs → head.code ≡ big_from 0 4 xs → head.flags ≡ get_or xs 4 0 → head.length ≡ big_from 0 3 (drop 5 xs)
    → (HasVendorFlag (get_or xs 4 0) × (12 ≤ length xs) × (head.vendor ≡ Some (big_from 0 4 (drop 8 xs)))) ⊎ ((¬ HasVendorFlag (get_or xs 4 0)) × (head.vendor ≡ None)) → Heads xs head
heads xs head h8 is_code is_flags is_len is_vendor more v rest (front, s, parts) =
    let o : Opened v front (xs ++ more) = rw parts (opened v front rest s) in
    let choice = moved_vendor xs more head.vendor h8 is_vendor in
    let agrees : HasVendorFlag v.flags ↔ IsSome head.vendor = rw (← o.flags) (vendor_agrees (get_or (xs ++ more) 4 0) (big_from 0 4 (drop 8 (xs ++ more))) head.vendor choice) in
    let room : head_length head.vendor ≤ length (xs ++ more) = head_room xs more head.vendor h8 is_vendor in
    record {
      code = sym o.code ∙ field_before 0 4 xs more (omega arith) ∙ sym is_code;
      flags = sym o.flags ∙ flags_before xs more h8 ∙ sym is_flags;
      vendor = same_vendor v.flags v.vendor head.vendor (xs ++ more) s.agrees agrees o.vendor (vendor_field_at (xs ++ more) (get_or (xs ++ more) 4 0) head.vendor choice room);
      len = sym o.len ∙ field_before 5 3 xs more (omega arith) ∙ sym is_len;
    }

-- a level of which no continuation begins with an AVP
pub none_here : (xs : List ℕ) → CannotBegin xs (length xs) → BeginsWithNone xs
none_here xs none = let here = none [] (ap length (append-nil xs)) in rw append-nil at here

-- a Vendor-ID that the flags say is there lies in bytes that hold the header
vendor_within : (xs : List ℕ) (flags start : ℕ) (vendor : Option ℕ) → flags ≡ get_or xs 4 0 → (HasVendorFlag flags × (start ≡ 12)) ⊎ ((¬ HasVendorFlag flags) × (start ≡ 8)) → start ≤ length xs
    → (HasVendorFlag flags × (vendor ≡ Some (big_from 0 4 (drop 8 xs)))) ⊎ ((¬ HasVendorFlag flags) × (vendor ≡ None))
    → (HasVendorFlag (get_or xs 4 0) × (12 ≤ length xs) × (vendor ≡ Some (big_from 0 4 (drop 8 xs)))) ⊎ ((¬ HasVendorFlag (get_or xs 4 0)) × (vendor ≡ None))
vendor_within xs flags start vendor is_flags (inl s) fits (inl v) = inl (rw is_flags at v.0, omega (arith, s.1, fits), v.1)
vendor_within xs flags start vendor is_flags (inr s) fits (inl v) = absurd (s.0 v.0)
vendor_within xs flags start vendor is_flags s fits (inr v) = inr (rw is_flags at v.0, v.1)

whole_head : (xs : List ℕ) (vendor : Option ℕ) → 8 ≤ length xs
    → (HasVendorFlag (get_or xs 4 0) × (12 ≤ length xs) × (vendor ≡ Some (big_from 0 4 (drop 8 xs)))) ⊎ ((¬ HasVendorFlag (get_or xs 4 0)) × (vendor ≡ None)) → HasWholeHead xs
whole_head xs vendor long (inl h) = (long, λ _. h.1)
whole_head xs vendor long (inr h) = (long, λ set. absurd (h.0 set))

-- the head that is read from bytes that hold it
pub head_at : (xs : List ℕ) (head : AvpHead) (start : ℕ) → 8 ≤ length xs → head.code ≡ big_from 0 4 xs → head.flags ≡ get_or xs 4 0 → head.length ≡ big_from 0 3 (drop 5 xs)
    → (HasVendorFlag head.flags × (start ≡ 12)) ⊎ ((¬ HasVendorFlag head.flags) × (start ≡ 8)) → start ≤ length xs
    → (HasVendorFlag head.flags × (head.vendor ≡ Some (big_from 0 4 (drop 8 xs)))) ⊎ ((¬ HasVendorFlag head.flags) × (head.vendor ≡ None)) → HasWholeHead xs × Heads xs head
head_at xs head start long is_code is_flags is_len is_start fits is_vendor =
    let within = vendor_within xs head.flags start head.vendor is_flags is_start fits is_vendor in
    (whole_head xs head.vendor long within, heads xs head long is_code is_flags is_len within)

-- the AVP that is read from the front of a level
pub avp_at : (xs : List ℕ) (code flags len start whole : ℕ) (vendor : Option ℕ) → code ≡ big_from 0 4 xs → flags ≡ get_or xs 4 0 → len ≡ big_from 0 3 (drop 5 xs)
    → (HasVendorFlag flags × (start ≡ 12)) ⊎ ((¬ HasVendorFlag flags) × (start ≡ 8))
    → (HasVendorFlag flags × (vendor ≡ Some (big_from 0 4 (drop 8 xs)))) ⊎ ((¬ HasVendorFlag flags) × (vendor ≡ None))
    → 8 ≤ length xs → start ≤ len → whole ≡ rounded len → rounded len ≤ length xs
    → BeginsWith (record { code = code; flags = flags; vendor = vendor; bytes = take (len - start) (drop start xs) }) xs (take (length xs - whole) (drop whole xs))
avp_at xs code flags len start whole vendor is_code is_flags is_len is_start is_vendor long fits is_whole room =
    rw (is_flags, is_whole) (begins_at xs code len start (big_from 0 4 (drop 8 xs)) vendor is_code (sym is_len) refl (rw is_flags at is_start) (rw is_flags at is_vendor) long fits room)
