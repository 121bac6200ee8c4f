-- Reading an AVP, as a function of the bytes.
use Rattle.std.proofs.Common.{◌≡◌, ◌≢◌, ℕ, ◌+◌, ◌-◌, ◌<◌, Bool, true, false, cond, List, ◌++◌, Option, Some, None, length, take, drop, get_or, refl, sym, ap, subst, ◌∙◌, arith, inl, inr}
use Rattle.std.specs.Prelude.{if◌then◌else◌, ◌==◌, nat_lt, ◌||◌, bit_and, ◌⊎◌}
use Rattle.std.proofs.lemmas.List.{take_rest, drop_at, length-append}
use Rattle.std.proofs.lemmas.Bool.{ltb-false, ltb-true, eqb-true}
use Rattle.byteorder.specs.Endian.{big_from}
use Rattle.dia_wire.specs.Wire.{PlainAvp, HasVendorFlag, head_length, avp_length, BeginsWith, BeginsWithNone}
use Rattle.dia_wire.proofs.Spelling.{begins_at, none_begins, one_spelling, rounded, rounded-le, opened, at_least_8, start_from}

abbrev pub vendor_of : List ℕ → Option ℕ
vendor_of xs = if bit_and (get_or xs 4 0) 128 == 0 then None else Some (big_from 0 4 (drop 8 xs))

abbrev pub len_of : List ℕ → ℕ
len_of xs = big_from 0 3 (drop 5 xs)

abbrev pub is_bad : List ℕ → Bool
is_bad xs = nat_lt (length xs) 8 || nat_lt (len_of xs) (head_length (vendor_of xs)) || nat_lt (length xs) (rounded (len_of xs))

abbrev pub avp_of : List ℕ → PlainAvp
avp_of xs = record { code = big_from 0 4 xs; flags = get_or xs 4 0; vendor = vendor_of xs; bytes = take (len_of xs - head_length (vendor_of xs)) (drop (head_length (vendor_of xs)) xs) }

-- the AVP at the front, and what follows its padding
abbrev pub decode : List ℕ → Option (PlainAvp × List ℕ)
decode xs = if is_bad xs then None else Some (avp_of xs, drop (rounded (len_of xs)) xs)

-- whether a Vendor-ID is there
vendor_cases : (flags n : ℕ) (b : Bool) → (flags == 0) ≡ b → ((flags ≢ 0) × (cond b None (Some n) ≡ Some n)) ⊎ ((flags ≡ 0) × (cond b None (Some n) ≡ None))
vendor_cases flags n true e = inr (eqb-true flags 0 e, refl)
vendor_cases flags n false e = inl ((λ z. not_zero flags e z), refl)
  where
    not_zero : (k : ℕ) → (k == 0) ≡ false → k ≢ 0
    not_zero k e z = let p : false ≡ true = sym e ∙ ap (λ (j : ℕ). j == 0) z in absurd cc

or_false : (a b : Bool) → (a || b) ≡ false → (a ≡ false) × (b ≡ false)
or_false true b h = absurd cc
or_false false b h = (refl, h)

or_true : (a b : Bool) → (a || b) ≡ true → (a ≡ true) ⊎ (b ≡ true)
or_true true b h = inl refl
or_true false b h = inr h

starts : (xs : List ℕ) → (HasVendorFlag (get_or xs 4 0) × (head_length (vendor_of xs) ≡ 12)) ⊎ ((¬ HasVendorFlag (get_or xs 4 0)) × (head_length (vendor_of xs) ≡ 8))
starts xs =
    elim (vendor_cases (bit_and (get_or xs 4 0) 128) (big_from 0 4 (drop 8 xs)) (bit_and (get_or xs 4 0) 128 == 0) refl) [
      | inl h ↦ inl (h.0, ap head_length h.1)
      | inr h ↦ inr ((λ set. set h.0), ap head_length h.1)
    ]

vendors : (xs : List ℕ) → (HasVendorFlag (get_or xs 4 0) × (vendor_of xs ≡ Some (big_from 0 4 (drop 8 xs)))) ⊎ ((¬ HasVendorFlag (get_or xs 4 0)) × (vendor_of xs ≡ None))
vendors xs =
    elim (vendor_cases (bit_and (get_or xs 4 0) 128) (big_from 0 4 (drop 8 xs)) (bit_and (get_or xs 4 0) 128 == 0) refl) [
      | inl h ↦ inl (h.0, h.1)
      | inr h ↦ inr ((λ set. set h.0), h.1)
    ]

short_none : (xs : List ℕ) → length xs < 8 → BeginsWithNone xs
short_none xs short v rest (front, s, parts) =
    let o = opened v front rest s in
    let whole : length xs ≡ length front + length rest = ap length parts ∙ length-append front rest in
    omega (arith, short, whole, o.front_length, at_least_8 v.vendor, rounded-le (avp_length v))

pub bad_none : (xs : List ℕ) → is_bad xs ≡ true → BeginsWithNone xs
bad_none xs h =
    elim (or_true (nat_lt (length xs) 8 || nat_lt (len_of xs) (head_length (vendor_of xs))) (nat_lt (length xs) (rounded (len_of xs))) h) [
      | inl k ↦ elim (or_true (nat_lt (length xs) 8) (nat_lt (len_of xs) (head_length (vendor_of xs))) k) [
        | inl short ↦ short_none xs (ltb-true _ _ short)
        | inr low ↦ none_begins xs (head_length (vendor_of xs)) (len_of xs) refl (start_from (get_or xs 4 0) (head_length (vendor_of xs)) (starts xs)) (inl (ltb-true _ _ low))
      ]
      | inr long ↦ none_begins xs (head_length (vendor_of xs)) (len_of xs) refl (start_from (get_or xs 4 0) (head_length (vendor_of xs)) (starts xs)) (inr (ltb-true _ _ long))
    ]

pub good_begins : (xs : List ℕ) → is_bad xs ≡ false → BeginsWith (avp_of xs) xs (drop (rounded (len_of xs)) xs)
good_begins xs h =
    let a = or_false (nat_lt (length xs) 8 || nat_lt (len_of xs) (head_length (vendor_of xs))) (nat_lt (length xs) (rounded (len_of xs))) h in
    let b = or_false (nat_lt (length xs) 8) (nat_lt (len_of xs) (head_length (vendor_of xs))) a.0 in
    let made = begins_at xs (big_from 0 4 xs) (len_of xs) (head_length (vendor_of xs)) (big_from 0 4 (drop 8 xs))
    (vendor_of xs) refl refl refl (starts xs) (vendors xs) (ltb-false _ _ b.0) (ltb-false _ _ b.1) (ltb-false _ _ a.1) in
    subst (BeginsWith (avp_of xs) xs) (take_rest xs (rounded (len_of xs))) made

same_rest : (a b x y : List ℕ) → a ≡ b → a ++ x ≡ b ++ y → x ≡ y
same_rest a b x y e h =
    sym (drop_at a x (length a) refl) ∙ ap (λ (f : List ℕ). drop (length a) f) h ∙ drop_at b y (length a) (ap length (sym e))

decided : (xs : List ℕ) (v : PlainAvp) (rest : List ℕ) → BeginsWith v xs rest → (b : Bool) → is_bad xs ≡ b
    → cond {A = Option (PlainAvp × List ℕ)} b None (Some (avp_of xs, drop (rounded (len_of xs)) xs)) ≡ Some (v, rest)
decided xs v rest h true e = absurd (bad_none xs e v rest h)
decided xs v rest (front, s, parts) false e =
    let g = good_begins xs e in
    let once = one_spelling (avp_of xs) v g.0 front (drop (rounded (len_of xs)) xs) rest g.1 s (sym g.2 ∙ parts) in
    ap (λ (w : PlainAvp). Some (w, drop (rounded (len_of xs)) xs)) once.0 ∙ ap (λ (r : List ℕ). Some (v, r)) (same_rest g.0 front (drop (rounded (len_of xs)) xs) rest once.1 (sym g.2 ∙ parts))

pub decode-begins : (xs : List ℕ) (v : PlainAvp) (rest : List ℕ) → BeginsWith v xs rest → decode xs ≡ Some (v, rest)
decode-begins xs v rest h = decided xs v rest h (is_bad xs) refl

none_decided : (xs : List ℕ) → BeginsWithNone xs → (b : Bool) → is_bad xs ≡ b → cond {A = Option (PlainAvp × List ℕ)} b None (Some (avp_of xs, drop (rounded (len_of xs)) xs)) ≡ None
none_decided xs h true e = refl
none_decided xs h false e = absurd (h (avp_of xs) (drop (rounded (len_of xs)) xs) (good_begins xs e))

pub decode-none : (xs : List ℕ) → BeginsWithNone xs → decode xs ≡ None
decode-none xs h = none_decided xs h (is_bad xs) refl

some_decided : (xs : List ℕ) (next : PlainAvp × List ℕ) (b : Bool) → is_bad xs ≡ b
    → cond {A = Option (PlainAvp × List ℕ)} b None (Some (avp_of xs, drop (rounded (len_of xs)) xs)) ≡ Some next → BeginsWith next.0 xs next.1
some_decided xs next true e h = absurd cc
some_decided xs next false e h =
    let made : PlainAvp × List ℕ = (avp_of xs, drop (rounded (len_of xs)) xs) in
    let same : made ≡ next = cc in
    subst (λ (p : PlainAvp × List ℕ). BeginsWith p.0 xs p.1) same (good_begins xs e)

pub decode-some : (xs : List ℕ) (next : PlainAvp × List ℕ) → decode xs ≡ Some next → BeginsWith next.0 xs next.1
decode-some xs next h = some_decided xs next (is_bad xs) refl h
