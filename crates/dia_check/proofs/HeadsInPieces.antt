-- The head of an AVP, which comes in pieces.
use Rattle.std.proofs.Common.{◌≡◌, ◌≢◌, ℕ, zero, suc, ◌+◌, ◌-◌, ◌*◌, ◌/◌, ◌<◌, ◌≤◌, Bool, true, false, List, [], ◌∷◌, ◌++◌}
use Rattle.std.proofs.Common.{length, take, drop, Option, Some, None, refl, sym, ap, subst, ◌∙◌, arith, append_assoc, inl, inr}
use Rattle.std.specs.Prelude.{◌⊎◌, ◌==◌, ◌||◌, bit_and, nat_lt, if◌then◌else◌, slice_index, IsSome}
use Rattle.std.proofs.lemmas.Bool.{ltb-true}
use Rattle.std.proofs.lemmas.List.{take_all, take-take, drop-take, length-take, length-drop, length-append, get_or-take}
use Rattle.dia_wire.specs.declared.AvpHead.{AvpHead}
use Rattle.dia_wire.specs.Number.{number}
use Rattle.dia_wire.specs.Wire.{PlainAvp, head_length, avp_length, HasVendorFlag, BeginsWith, BeginsWithNone, HasWholeHead, Heads, IsBadLength}
use Rattle.dia_wire.proofs.Spelling.{opened, rounded, at_least_8}
use Rattle.dia_wire.proofs.Fields.{big_from-number}
use Rattle.dia_wire.proofs.Decode.{is_bad, len_of, vendor_of, avp_of, good_begins}
use Rattle.dia_book.specs.Dictionary.{Dictionary, IsDictionary}
use Rattle.dia_terms.specs.declared.Unknown.{Unknown}
use Rattle.dia_terms.specs.declared.Levels.{Levels}
use Rattle.dia_check.specs.declared.open_levels.OpenLevels.{OpenLevels}
use Rattle.dia_check.specs.declared.stream.parts.HeadPart.{HeadPart}
use Rattle.dia_check.specs.declared.stream.front.Front.{Front}
use Rattle.dia_check.specs.Levels.{between}
use Rattle.dia_check.specs.Faults.{HasGoodHeader}
use Rattle.dia_check.specs.Front.{front_bytes}
use Rattle.dia_check.specs.UnderWay.{IsUnderWay}
use Rattle.dia_check.specs.Reading.{IsInHead, IsAtAvp, LiesAt}
use Rattle.dia_check.proofs.FoundFaultsStand.{between-split}
use Rattle.dia_check.proofs.Uniqueness.{nat_cases}
use Rattle.dia_check.proofs.UnderWay.{left}
use Rattle.dia_check.proofs.BodyContinuations.{size_left}

-- ---- the first bytes of a level

or_true : (a b : Bool) → (a || b) ≡ true → (a ≡ true) ⊎ (b ≡ true)
or_true true b h = inl refl
or_true false b h = inr h

is_set : (k : ℕ) → (k == 0) ≡ false → k ≢ 0
is_set k e z = let p : false ≡ true = sym e ∙ ap (λ (j : ℕ). j == 0) z in absurd cc

low_head : (xs : List ℕ) (len n : ℕ) (b : Bool) → (bit_and (slice_index xs 4) 128 == 0) ≡ b → nat_lt len (head_length (if b then None else Some n)) ≡ true
    → (len < 8) ⊎ (HasVendorFlag (slice_index xs 4) × (len < 12))
low_head xs len n true is low = inl (ltb-true _ _ low)
low_head xs len n false is low = inr ((λ z. is_set (bit_and (slice_index xs 4) 128) is z), ltb-true _ _ low)

pub not_bad : (xs : List ℕ) → 8 ≤ length xs → ¬ IsBadLength (slice_index xs 4) (number (take 3 (drop 5 xs))) (length xs) → is_bad xs ≡ false
not_bad xs long fine = by (is_bad xs) refl
  where
    same : len_of xs ≡ number (take 3 (drop 5 xs))
    same = big_from-number 3 (drop 5 xs) (omega (arith, long, length-drop 5 xs))

    bad : (len_of xs < 8) ⊎ (HasVendorFlag (slice_index xs 4) × (len_of xs < 12)) → IsBadLength (slice_index xs 4) (len_of xs) (length xs)
    bad (inl low) = inl low
    bad (inr low) = inr (inl low)

    never : IsBadLength (slice_index xs 4) (len_of xs) (length xs) → ⊥
    never h = fine (subst (λ (n : ℕ). IsBadLength (slice_index xs 4) n (length xs)) same h)

    lows : (nat_lt (length xs) 8 ≡ true) ⊎ (nat_lt (len_of xs) (head_length (vendor_of xs)) ≡ true) → ⊥
    lows (inl short) = let s = ltb-true (length xs) 8 short in omega (arith, s, long)
    lows (inr low) = never (bad (low_head xs (len_of xs) _ (bit_and (slice_index xs 4) 128 == 0) refl low))

    all : ((nat_lt (length xs) 8 || nat_lt (len_of xs) (head_length (vendor_of xs))) ≡ true) ⊎ (nat_lt (length xs) (rounded (len_of xs)) ≡ true) → ⊥
    all (inl k) = lows (or_true (nat_lt (length xs) 8) (nat_lt (len_of xs) (head_length (vendor_of xs))) k)
    all (inr big) = never (inr (inr (ltb-true (length xs) (rounded (len_of xs)) big)))

    by : (b : Bool) → is_bad xs ≡ b → b ≡ false
    by false e = refl
    by true e = absurd (all (or_true (nat_lt (length xs) 8 || nat_lt (len_of xs) (head_length (vendor_of xs))) (nat_lt (length xs) (rounded (len_of xs))) e))

-- what the first bytes say of an AVP that is there
pub first_says : (xs : List ℕ) (v : PlainAvp) (rest : List ℕ) → 8 ≤ length xs → BeginsWith v xs rest → (slice_index xs 4 ≡ v.flags) × (number (take 3 (drop 5 xs)) ≡ avp_length v)
first_says xs v rest long (front, spells, parts) =
    let o = opened v front rest spells in (
      ap (λ (t : List ℕ). slice_index t 4) parts ∙ o.flags,
      sym (big_from-number 3 (drop 5 xs) (omega (arith, long, length-drop 5 xs))) ∙ ap len_of parts ∙ o.len,
    )

pub bad_begins_none : (xs : List ℕ) → 8 ≤ length xs → IsBadLength (slice_index xs 4) (number (take 3 (drop 5 xs))) (length xs) → BeginsWithNone xs
bad_begins_none xs long bad v rest begins = by (first_says xs v rest long begins) bad
  where
    flagged : (front : List ℕ) → HasVendorFlag v.flags → (IsSome v.vendor → 12 ≤ avp_length v)
    flagged front set some = with_some v.vendor some
      where
        with_some : (o : Option ℕ) → IsSome o → 12 ≤ head_length o + length v.bytes
        with_some None h = absurd (let f : false ≡ true = h in cc)
        with_some (Some x) h = omega arith

    by : (slice_index xs 4 ≡ v.flags) × (number (take 3 (drop 5 xs)) ≡ avp_length v) → IsBadLength (slice_index xs 4) (number (take 3 (drop 5 xs))) (length xs) → ⊥
    by (flags, size) (inl low) = omega (arith, low, size, at_least_8 v.vendor)
    by (flags, size) (inr (inl (set, low))) =
        let (front, spells, parts) = begins in
        let is = subst HasVendorFlag flags set in
        let most = flagged front is (spells.agrees.0 is) in
        omega (arith, low, size, most)
    by (flags, size) (inr (inr big)) =
        let (front, spells, parts) = begins in
        let o = opened v front rest spells in
        let whole = ap length parts ∙ length-append front rest in
        let wide = o.front_length in
        let r = ap (λ (n : ℕ). (n + 3) / 4 * 4) size in
        omega (arith, big, r, whole, wide)

-- ---- parts of the front of some bytes

pub prefix : (n : ℕ) (xs : List ℕ) → take n xs ≡ take (length (take n xs)) xs
prefix n xs = by (nat_cases n (length xs))
  where
    short : n ≤ length xs → take n xs ≡ take (length (take n xs)) xs
    short le = let e : n ≡ length (take n xs) = omega (arith, length-take n xs, le) in ap (λ (k : ℕ). take k xs) e

    by : (n < length xs) ⊎ ((length xs < n) ⊎ (n ≡ length xs)) → take n xs ≡ take (length (take n xs)) xs
    by (inl less) = short (omega (arith, less))
    by (inr (inl more)) = take_all n xs (omega (arith, more)) ∙ sym (take_all (length (take n xs)) xs (omega (arith, length-take n xs, more)))
    by (inr (inr same)) = short (omega (arith, same))

prefix_of : (n k : ℕ) (xs : List ℕ) → take n (take k xs) ≡ take (length (take n (take k xs))) xs
prefix_of n k xs = prefix n (take k xs) ∙ take-take (length (take n (take k xs))) k xs (omega (arith, length-take n (take k xs), length-take k xs))

third : (n : ℕ) (xs : List ℕ) → 8 ≤ n → take 3 (drop 5 (take n xs)) ≡ take 3 (drop 5 xs)
third n xs le =
    let e : 5 + (n - 5) ≡ n = omega (arith, le) in
    ap (λ (k : ℕ). take 3 (drop 5 (take k xs))) (sym e) ∙ ap (take 3) (drop-take 5 (n - 5) xs) ∙ take-take 3 (n - 5) (drop 5 xs) (omega (arith, le))

both_parts : (n : ℕ) (xs : List ℕ) → take n xs ++ drop n xs ≡ xs
both_parts zero xs = refl
both_parts (suc n) [] = refl
both_parts (suc n) (x ∷ xs) = ap (λ (t : List ℕ). x ∷ t) (both_parts n xs)

-- ---- one message

-- no AVP begins in so much room with these first bytes
abbrev pub IsRefusedHead : ℕ → List ℕ → Type 0
IsRefusedHead room front = (room < 8) ⊎ ((8 ≤ length front) × IsBadLength (slice_index front 4) (number (take 3 (drop 5 front))) room)

pub not_refused : (front : List ℕ) (end place at : ℕ) → end ≡ place → ¬ IsRefusedHead (end - at) front → ¬ IsRefusedHead (place - at) front
not_refused front end place at same fits = subst (λ (n : ℕ). ¬ IsRefusedHead (n - at) front) same fits

module _ (d : Dictionary) (sound : IsDictionary d) (u : Unknown) (most : Levels) (bytes : List ℕ) (good : HasGoodHeader d bytes) (o : OpenLevels) (part : HeadPart) (from : ℕ)
    (h : IsInHead d u most bytes good o part from) (piece : List ℕ) (lies : LiesAt bytes from piece)
    (front : List ℕ) (limit : ℕ) (is_front : front ≡ take limit (front_bytes part.front ++ piece)) where
  abbrev pub tail : List ℕ
  tail = drop part.at bytes

  abbrev pub room : ℕ
  room = o.innermost.end - part.at

  joined : front_bytes part.front ++ piece ≡ take ((from + length piece) - part.at) tail
  joined = let r = h.reached in ap (λ (t : List ℕ). t ++ piece) h.kept ∙ ap (λ (t : List ℕ). between bytes part.at from ++ t) (sym lies.0)
      ∙ sym (between-split bytes part.at from (from + length piece) (omega (arith, r)) (omega arith))

  front_of : front ≡ take (length front) tail
  front_of = let e = is_front ∙ ap (take limit) joined in e ∙ prefix_of limit ((from + length piece) - part.at) tail ∙ ap (λ (t : List ℕ). take (length t) tail) (sym e)

  pub front_size : length front ≤ length (front_bytes part.front) + length piece
  front_size = let e = ap length is_front in omega (arith, e, length-take limit (front_bytes part.front ++ piece), length-append (front_bytes part.front) piece)

  level_of : h.under_way.s.bytes ≡ take room tail
  level_of = sym (left d sound u most bytes good o part.at h.under_way)

  level_size : length h.under_way.s.bytes ≡ room
  level_size = size_left d sound u most bytes good o part.at h.under_way

  same_flags : 8 ≤ length front → slice_index front 4 ≡ slice_index h.under_way.s.bytes 4
  same_flags le = let r = h.room in
      ap (λ (t : List ℕ). slice_index t 4) front_of ∙ get_or-take (length front) tail 4 0 (omega (arith, le))
      ∙ sym (get_or-take room tail 4 0 (omega (arith, r))) ∙ ap (λ (t : List ℕ). slice_index t 4) (sym level_of)

  same_length : 8 ≤ length front → take 3 (drop 5 front) ≡ take 3 (drop 5 h.under_way.s.bytes)
  same_length le = ap (λ (t : List ℕ). take 3 (drop 5 t)) front_of ∙ third (length front) tail le ∙ sym (third room tail h.room) ∙ ap (λ (t : List ℕ). take 3 (drop 5 t)) (sym level_of)

  same_bad : 8 ≤ length front → (IsBadLength (slice_index front 4) (number (take 3 (drop 5 front))) room)
      ≡ (IsBadLength (slice_index h.under_way.s.bytes 4) (number (take 3 (drop 5 h.under_way.s.bytes))) (length h.under_way.s.bytes))
  same_bad le = ap (λ (n : ℕ). IsBadLength n (number (take 3 (drop 5 front))) room) (same_flags le)
      ∙ ap (λ (t : List ℕ). IsBadLength (slice_index h.under_way.s.bytes 4) (number t) room) (same_length le)
      ∙ ap (λ (n : ℕ). IsBadLength (slice_index h.under_way.s.bytes 4) (number (take 3 (drop 5 h.under_way.s.bytes))) n) (sym level_size)

  -- no AVP begins here
  pub none_here : (room < 8) ⊎ ((8 ≤ length front) × IsBadLength (slice_index front 4) (number (take 3 (drop 5 front))) room) → (0 < length h.under_way.s.bytes) × BeginsWithNone h.under_way.s.bytes
  none_here (inl few) = absurd (let r = h.room in omega (arith, few, r))
  none_here (inr (le, bad)) = let r = h.room in (omega (arith, r, level_size), bad_begins_none h.under_way.s.bytes (omega (arith, r, level_size)) (subst (λ (X : Type 0). X) (same_bad le) bad))

  -- the head is whole
  module _ (head : AvpHead) (whole : HasWholeHead front) (heads : Heads front head)
      (fine : (room < 8) ⊎ ((8 ≤ length front) × IsBadLength (slice_index front 4) (number (take 3 (drop 5 front))) room) → ⊥) where
    begins : BeginsWith (avp_of h.under_way.s.bytes) h.under_way.s.bytes (drop (rounded (len_of h.under_way.s.bytes)) h.under_way.s.bytes)
    begins = let r = h.room in good_begins h.under_way.s.bytes (not_bad h.under_way.s.bytes (omega (arith, r, level_size))
        (λ bad. fine (inr (whole.0, subst (λ (X : Type 0). X) (sym (same_bad whole.0)) bad))))

    longer : (v : PlainAvp) (rest : List ℕ) → BeginsWith v h.under_way.s.bytes rest → BeginsWith v (front ++ drop (length front) tail) (rest ++ drop room tail)
    longer v rest (f, spells, parts) = (
      f,
      spells,
      ap (λ (t : List ℕ). t ++ drop (length front) tail) front_of ∙ both_parts (length front) tail ∙ sym (both_parts room tail)
          ∙ ap (λ (t : List ℕ). t ++ drop room tail) (sym level_of ∙ parts) ∙ append_assoc f rest (drop room tail),
    )

    pub at_avp : IsAtAvp d u most bytes good o part.at head
    at_avp = record {
      under_way = h.under_way;
      avp = avp_of h.under_way.s.bytes;
      rest = drop (rounded (len_of h.under_way.s.bytes)) h.under_way.s.bytes;
      begins = begins;
      is_head = heads (drop (length front) tail) (avp_of h.under_way.s.bytes) _ (longer (avp_of h.under_way.s.bytes) (drop (rounded (len_of h.under_way.s.bytes)) h.under_way.s.bytes) begins);
    }

    flags_here : slice_index h.under_way.s.bytes 4 ≡ at_avp.avp.flags
    unfolding at_avp
    flags_here = let r = h.room in (first_says h.under_way.s.bytes at_avp.avp at_avp.rest (omega (arith, r, level_size)) at_avp.begins).0

    pub head_there : head_length head.vendor ≤ length front
    head_there = by head.vendor (let v = at_avp.is_head.vendor in v)
      where
        by : (x : Option ℕ) → at_avp.avp.vendor ≡ x → head_length x ≤ length front
        by None is = whole.0
        by (Some n) is = whole.1 (subst HasVendorFlag (sym (same_flags whole.0 ∙ flags_here)) (at_avp.begins.1.agrees.1 (subst IsSome (sym is) refl)))

    pub head_was_not : length (front_bytes part.front) < head_length head.vendor
    head_was_not = by (nat_cases (length (front_bytes part.front)) (head_length head.vendor))
      where
        kept_flags : 8 ≤ length (front_bytes part.front) → slice_index (front_bytes part.front) 4 ≡ slice_index h.under_way.s.bytes 4
        kept_flags le =
            let e = h.reached in let r = h.room in
            ap (λ (t : List ℕ). slice_index t 4) h.kept ∙ get_or-take (from - part.at) tail 4 0 (omega (arith, e, le))
            ∙ sym (get_or-take room tail 4 0 (omega (arith, r))) ∙ ap (λ (t : List ℕ). slice_index t 4) (sym level_of)

        twelve : (x : Option ℕ) → IsSome x → 12 ≤ head_length x
        twelve None some = absurd (let f : false ≡ true = some in cc)
        twelve (Some n) some = omega arith

        was : head_length head.vendor ≤ length (front_bytes part.front) → ⊥
        was le =
            let eight : 8 ≤ length (front_bytes part.front) = omega (arith, le, at_least_8 head.vendor) in
            h.not_whole (
              eight,
              λ flag.
                  let some : IsSome head.vendor = subst IsSome at_avp.is_head.vendor (at_avp.begins.1.agrees.0 (subst HasVendorFlag (kept_flags eight ∙ flags_here) flag)) in
                  let t = twelve head.vendor some in omega (arith, le, t),
            )

        by : (length (front_bytes part.front) < head_length head.vendor) ⊎ ((head_length head.vendor < length (front_bytes part.front)) ⊎ (length (front_bytes part.front) ≡ head_length head.vendor))
            → length (front_bytes part.front) < head_length head.vendor
        by (inl less) = less
        by (inr (inl more)) = absurd (was (omega (arith, more)))
        by (inr (inr same)) = absurd (was (omega (arith, same)))

  -- the head isn't whole yet
  pub still_head : 12 ≤ limit → (next : HeadPart) → next.at ≡ part.at → front_bytes next.front ≡ front → ¬ HasWholeHead front
      → ((room < 8) ⊎ ((8 ≤ length front) × IsBadLength (slice_index front 4) (number (take 3 (drop 5 front))) room) → ⊥)
      → IsInHead d u most bytes good o (record { at = part.at; front = next.front }) (from + length piece)
  still_head room_for next at is not_whole fine =
      let size = ap length is in
      let few = short in
      record {
        under_way = h.under_way;
        kept = is ∙ is_front ∙ take_all limit (front_bytes part.front ++ piece) (omega (arith, few)) ∙ joined;
        reached = let r = h.reached in omega (arith, size, whole_size, r);
        room = h.room;
        not_whole = subst (λ (t : List ℕ). ¬ HasWholeHead t) (sym is) not_whole;
        may_be = subst (λ (t : List ℕ). 8 ≤ length t → ¬ IsBadLength (slice_index t 4) (number (take 3 (drop 5 t))) room) (sym is) (λ le bad. fine (inr (le, bad)));
      }
    where
      less : length front < 12
      less = by (nat_cases (length front) 12)
        where
          by : (length front < 12) ⊎ ((12 < length front) ⊎ (length front ≡ 12)) → length front < 12
          by (inl l) = l
          by (inr (inl more)) = absurd (not_whole (omega (arith, more), λ flag. omega (arith, more)))
          by (inr (inr same)) = absurd (not_whole (omega (arith, same), λ flag. omega (arith, same)))

      short : length (front_bytes part.front ++ piece) ≤ limit
      short = let e = ap length is_front in omega (arith, e, less, room_for, length-take limit (front_bytes part.front ++ piece))

      whole_size : length front ≡ length (front_bytes part.front) + length piece
      whole_size = let e = ap length is_front in omega (arith, e, short, length-take limit (front_bytes part.front ++ piece), length-append (front_bytes part.front) piece)

-- ---- a head at the start of a piece

abbrev nothing_kept : Front
nothing_kept = record { count = 0; bytes = []; within = omega arith }

module _ (d : Dictionary) (sound : IsDictionary d) (u : Unknown) (most : Levels) (bytes : List ℕ) (good : HasGoodHeader d bytes) (o : OpenLevels) (at : ℕ)
    (w : IsUnderWay d u most bytes good o at) (piece : List ℕ) (lies : LiesAt bytes at piece) (head : AvpHead) (whole : HasWholeHead piece) (heads : Heads piece head)
    (fine : (o.innermost.end - at < 8) ⊎ ((8 ≤ length piece) × IsBadLength (slice_index piece 4) (number (take 3 (drop 5 piece))) (o.innermost.end - at)) → ⊥) where
  begun_here : 8 ≤ o.innermost.end - at → IsInHead d u most bytes good o (record { at = at; front = nothing_kept }) at
  begun_here room = record {
    under_way = w;
    kept = let e : 0 ≡ at - at = omega arith in ap (λ (k : ℕ). take k (drop at bytes)) e;
    reached = omega arith;
    room = room;
    not_whole = λ h. let le = h.0 in omega (arith, le);
    may_be = λ le. absurd (omega (arith, le));
  }

  has_room : 8 ≤ o.innermost.end - at
  has_room = by (nat_cases (o.innermost.end - at) 8)
    where
      by : (o.innermost.end - at < 8) ⊎ ((8 < o.innermost.end - at) ⊎ (o.innermost.end - at ≡ 8)) → 8 ≤ o.innermost.end - at
      by (inl less) = absurd (fine (inl less))
      by (inr (inl more)) = omega (arith, more)
      by (inr (inr same)) = omega (arith, same)

  all_of_it : piece ≡ take (length piece) (front_bytes nothing_kept ++ piece)
  all_of_it = sym (take_all (length piece) piece (omega arith))

  pub occurs_here : IsAtAvp d u most bytes good o at head
  occurs_here = at_avp d sound u most bytes good o (record { at = at; front = nothing_kept }) at (begun_here has_room) piece lies piece (length piece) all_of_it head whole heads fine

  pub is_there : head_length head.vendor ≤ length piece
  is_there = head_there d sound u most bytes good o (record { at = at; front = nothing_kept }) at (begun_here has_room) piece lies piece (length piece) all_of_it head whole heads fine
