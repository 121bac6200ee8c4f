-- AVPs as they are read from the front of bytes.
use Rattle.std.proofs.Common.{◌≡◌, ℕ, ◌+◌, ◌-◌, ◌*◌, ◌/◌, ◌%◌, ◌<◌, ◌≤◌, List, ◌∷◌, ◌++◌, Option, Some, None, length, take, drop, get_or, refl, sym, ap, subst, ◌∙◌, append_assoc, arith, inl, inr}
use Rattle.std.specs.Prelude.{IsSome, ◌↔◌, ◌⊎◌}
use Rattle.std.proofs.Math.Seq.{take-add}
use Rattle.std.proofs.lemmas.List.{length-take, length-drop, length-append, take_at, drop_at, get_or-drop, drop-drop, take-append-drop, drop_more, take_rest}
use Rattle.byteorder.specs.Endian.{big_from}
use Rattle.dia_wire.specs.Number.{number, IsField}
use Rattle.dia_wire.specs.Wire.{PlainAvp, HasVendorFlag, head_length, avp_length, IsVendorField, Spells, BeginsWith, BeginsWithNone}
use Rattle.dia_wire.proofs.Fields.{big_from-number, field}

abbrev pub rounded : ℕ → ℕ
rounded n = (n + 3) / 4 * 4

abbrev vendor_at : Option ℕ → List ℕ → List ℕ
vendor_at v xs = take (head_length v - 8) (drop 8 xs)

pub at_least_8 : (v : Option ℕ) → 8 ≤ head_length v
at_least_8 None = omega arith
at_least_8 (Some n) = omega arith

-- the fields up to the data, one after the other
fields : (xs : List ℕ) (k : ℕ) → 8 ≤ length xs → take (8 + k) xs ≡ take 4 xs ++ (get_or xs 4 0 ∷ take 3 (drop 5 xs)) ++ take k (drop 8 xs)
fields xs k h =
    take-add 8 k xs ∙ ap (λ (f : List ℕ). f ++ take k (drop 8 xs)) (take-add 4 4 xs ∙ ap (λ (f : List ℕ). take 4 xs ++ take 4 f) (drop_more xs 4 0 (omega arith)))

-- a list up to n, and from there up to m
take-between : (n m : ℕ) (xs : List ℕ) → n ≤ m → take m xs ≡ take n xs ++ take (m - n) (drop n xs)
take-between n m xs h = let e : m ≡ n + (m - n) = omega arith in ap (λ (k : ℕ). take k xs) e ∙ take-add n (m - n) xs

pub rounded-le : (n : ℕ) → n ≤ rounded n
rounded-le n = omega arith

pub rounded-lt : (n : ℕ) → rounded n < n + 4
rounded-lt n = omega arith

pub rounded-mod : (n : ℕ) → rounded n % 4 ≡ 0
rounded-mod n = omega arith

pub spelled : (xs : List ℕ) (vendor : Option ℕ) (len : ℕ) → IsVendorField vendor (vendor_at vendor xs) → (HasVendorFlag (get_or xs 4 0) ↔ IsSome vendor)
    → big_from 0 3 (drop 5 xs) ≡ len → 8 ≤ length xs → head_length vendor ≤ len → rounded len ≤ length xs
    → Spells (record { code = big_from 0 4 xs; flags = get_or xs 4 0; vendor = vendor; bytes = take (len - head_length vendor) (drop (head_length vendor) xs) }) (take (rounded len) xs)
spelled xs vendor len is_vendor agrees is_len h8 hstart hwhole = record {
  code = take 4 xs;
  len = take 3 (drop 5 xs);
  vendor = vendor_at vendor xs;
  padding = take (rounded len - len) (drop len xs);
  parts = take-between len (rounded len) xs (rounded-le len)
      ∙ ap (λ (f : List ℕ). f ++ take (rounded len - len) (drop len xs)) (take-between (head_length vendor) len xs hstart
      ∙ ap (λ (f : List ℕ). f ++ take (len - head_length vendor) (drop (head_length vendor) xs)) (
      let e : head_length vendor ≡ 8 + (head_length vendor - 8) = omega (arith, at_least_8 vendor) in
      ap (λ (k : ℕ). take k xs) e ∙ fields xs (head_length vendor - 8) h8));
  code_field = field 4 xs (omega arith);
  length_field =
      let size : head_length vendor + length (take (len - head_length vendor) (drop (head_length vendor) xs)) ≡ len = omega (
        arith,
        length-take (len - head_length vendor) (drop (head_length vendor) xs),
        length-drop (head_length vendor) xs,
        rounded-le len,
      ) in
      subst (λ (n : ℕ). IsField 3 n (take 3 (drop 5 xs))) (is_len ∙ sym size) (field 3 (drop 5 xs) (omega (arith, length-drop 5 xs)));
  vendor_field = is_vendor;
  agrees = agrees;
  short_padding = omega (arith, length-take (rounded len - len) (drop len xs), rounded-lt len);
  aligned = let e : length (take (rounded len) xs) ≡ rounded len = omega (arith, length-take (rounded len) xs) in rw e (rounded-mod len);
}

length-vendor : (v : Option ℕ) (bytes : List ℕ) → IsVendorField v bytes → 8 + length bytes ≡ head_length v
length-vendor None bytes h = rw h refl
length-vendor (Some n) bytes h = rw h.width refl

-- a field before other bytes, read
front_field : (n x : ℕ) (bytes rest : List ℕ) → IsField n x bytes → big_from 0 n (bytes ++ rest) ≡ x
front_field n x bytes rest f =
    big_from-number n (bytes ++ rest) (omega (arith, length-append bytes rest, f.width)) ∙ ap number (take_at bytes rest n f.width) ∙ f.value

drop_five : (xs : List ℕ) (a : ℕ) (ys : List ℕ) → drop 4 xs ≡ a ∷ ys → drop 5 xs ≡ ys
drop_five xs a ys h = sym (drop-drop 1 4 xs) ∙ ap (λ (f : List ℕ). drop 1 f) h

sizes : (code len vendor bytes padding : List ℕ) (flags n : ℕ) → length code ≡ 4 → length len ≡ 3 → 8 + length vendor ≡ n
    → length (code ++ (flags ∷ len) ++ vendor ++ bytes ++ padding) ≡ (n + length bytes) + length padding
sizes code len vendor bytes padding flags n hc hl hv =
    omega (
      arith,
      length-append (code ++ (flags ∷ len) ++ vendor ++ bytes) padding,
      length-append (code ++ (flags ∷ len) ++ vendor) bytes,
      length-append (code ++ (flags ∷ len)) vendor,
      length-append code (flags ∷ len),
    )

-- what the first bytes of a spelling say of it
pub record Opened (v : PlainAvp) (front xs : List ℕ) : Type 0 where
  pub flags : get_or xs 4 0 ≡ v.flags
  pub code : big_from 0 4 xs ≡ v.code
  pub len : big_from 0 3 (drop 5 xs) ≡ avp_length v
  pub front_length : length front ≡ rounded (avp_length v)
  pub front_is : front ≡ take (rounded (avp_length v)) xs
  pub vendor : IsVendorField v.vendor (take (head_length v.vendor - 8) (drop 8 xs))
  pub bytes : v.bytes ≡ take (length v.bytes) (drop (head_length v.vendor) xs)

pub opened : (v : PlainAvp) (front rest : List ℕ) → Spells v front → Opened v front (front ++ rest)
opened v front rest s =
    let z = s.vendor ++ (v.bytes ++ (s.padding ++ rest)) in
    let regrouped : front ++ rest ≡ s.code ++ ((v.flags ∷ s.len) ++ z) =
    ap (λ (f : List ℕ). f ++ rest) s.parts
    ∙ append_assoc (s.code ++ (v.flags ∷ s.len) ++ s.vendor ++ v.bytes) s.padding rest
    ∙ append_assoc (s.code ++ (v.flags ∷ s.len) ++ s.vendor) v.bytes (s.padding ++ rest)
    ∙ append_assoc (s.code ++ (v.flags ∷ s.len)) s.vendor (v.bytes ++ (s.padding ++ rest))
    ∙ append_assoc s.code (v.flags ∷ s.len) z in
    let after : drop 4 (front ++ rest) ≡ v.flags ∷ (s.len ++ z) = ap (λ (f : List ℕ). drop 4 f) regrouped ∙ drop_at s.code ((v.flags ∷ s.len) ++ z) 4 s.code_field.width in
    let five : drop 5 (front ++ rest) ≡ s.len ++ z = drop_five (front ++ rest) v.flags (s.len ++ z) after in
    let size : length front ≡ avp_length v + length s.padding =
    ap length s.parts ∙ sizes s.code s.len s.vendor v.bytes s.padding v.flags (head_length v.vendor) s.code_field.width s.length_field.width (length-vendor v.vendor s.vendor s.vendor_field) in
    let front_length : length front ≡ rounded (avp_length v) = omega (arith, size, s.short_padding, s.aligned) in
    let eight : drop 8 (front ++ rest) ≡ z = sym (drop-drop 3 5 (front ++ rest)) ∙ ap (λ (f : List ℕ). drop 3 f) five ∙ drop_at s.len z 3 s.length_field.width in
    let width : length s.vendor ≡ head_length v.vendor - 8 = omega (arith, length-vendor v.vendor s.vendor s.vendor_field) in
    let at_vendor : take (head_length v.vendor - 8) (drop 8 (front ++ rest)) ≡ s.vendor = ap (λ (f : List ℕ). take (head_length v.vendor - 8) f) eight
    ∙ take_at s.vendor (v.bytes ++ (s.padding ++ rest)) (head_length v.vendor - 8) width in
    let back : 8 + (head_length v.vendor - 8) ≡ head_length v.vendor = omega (arith, at_least_8 v.vendor) in
    let at_bytes : drop (head_length v.vendor) (front ++ rest) ≡ v.bytes ++ (s.padding ++ rest) =
    ap (λ (k : ℕ). drop k (front ++ rest)) (sym back) ∙ sym (drop-drop (head_length v.vendor - 8) 8 (front ++ rest))
    ∙ ap (λ (f : List ℕ). drop (head_length v.vendor - 8) f) eight ∙ drop_at s.vendor (v.bytes ++ (s.padding ++ rest)) (head_length v.vendor - 8) width in
    record {
      flags = sym (get_or-drop 4 (front ++ rest) 0 0) ∙ ap (λ (f : List ℕ). get_or f 0 0) after;
      code = ap (λ (f : List ℕ). big_from 0 4 f) regrouped ∙ front_field 4 v.code s.code ((v.flags ∷ s.len) ++ z) s.code_field;
      len = ap (λ (f : List ℕ). big_from 0 3 f) five ∙ front_field 3 (avp_length v) s.len z s.length_field;
      front_length = front_length;
      front_is = sym (take_at front rest (rounded (avp_length v)) front_length);
      vendor = subst (IsVendorField v.vendor) (sym at_vendor) s.vendor_field;
      bytes = sym (ap (λ (f : List ℕ). take (length v.bytes) f) at_bytes ∙ take_at v.bytes (s.padding ++ rest) (length v.bytes) refl);
    }

-- where the Length is bad, no front is a spelling
pub none_begins : (xs : List ℕ) (start len : ℕ) → big_from 0 3 (drop 5 xs) ≡ len → ((o : Option ℕ) → (HasVendorFlag (get_or xs 4 0) ↔ IsSome o) → head_length o ≡ start)
    → (len < start) ⊎ (length xs < rounded len) → BeginsWithNone xs
none_begins xs start len is_len is_start bad v rest (front, s, parts) =
    let o = opened v front rest s in
    let flags : get_or xs 4 0 ≡ v.flags = ap (λ (f : List ℕ). get_or f 4 0) parts ∙ o.flags in
    let same : len ≡ avp_length v = sym is_len ∙ ap (λ (f : List ℕ). big_from 0 3 (drop 5 f)) parts ∙ o.len in
    let start_is : head_length v.vendor ≡ start = is_start v.vendor (rw flags s.agrees) in
    let whole : length xs ≡ length front + length rest = ap length parts ∙ length-append front rest in
    elim bad [ inl short ↦ omega (arith, short, same, start_is) | inr long ↦ omega (arith, long, whole, o.front_length, ap rounded same) ]

pub with_vendor : (flags : ℕ) → HasVendorFlag flags → (o : Option ℕ) → (HasVendorFlag flags ↔ IsSome o) → head_length o ≡ 12
with_vendor flags h None e = let p : IsSome {T = ℕ} None = e.0 h in absurd cc
with_vendor flags h (Some n) e = refl

pub without_vendor : (flags : ℕ) → ¬ HasVendorFlag flags → (o : Option ℕ) → (HasVendorFlag flags ↔ IsSome o) → head_length o ≡ 8
without_vendor flags h None e = refl
without_vendor flags h (Some n) e = absurd (h (e.1 refl))

pub start_from : (flags start : ℕ) → (HasVendorFlag flags × (start ≡ 12)) ⊎ ((¬ HasVendorFlag flags) × (start ≡ 8)) → (o : Option ℕ) → (HasVendorFlag flags ↔ IsSome o) → head_length o ≡ start
start_from flags start (inl h) o e = with_vendor flags h.0 o e ∙ sym h.1
start_from flags start (inr h) o e = without_vendor flags h.0 o e ∙ sym h.1

pub vendor_agrees : (flags n : ℕ) (v : Option ℕ) → (HasVendorFlag flags × (v ≡ Some n)) ⊎ ((¬ HasVendorFlag flags) × (v ≡ None)) → HasVendorFlag flags ↔ IsSome v
vendor_agrees flags n v (inl h) = rw h.1 (λ _. refl, λ _. h.0)
vendor_agrees flags n v (inr h) = rw h.1 (λ k. absurd (h.0 k), λ k. absurd cc)

pub vendor_field_at : (xs : List ℕ) (flags : ℕ) (v : Option ℕ) → (HasVendorFlag flags × (v ≡ Some (big_from 0 4 (drop 8 xs))))
    ⊎ ((¬ HasVendorFlag flags) × (v ≡ None)) → head_length v ≤ length xs → IsVendorField v (vendor_at v xs)
vendor_field_at xs flags v (inl h) long =
    let room : 12 ≤ length xs = let k = rw h.1 at long in k in
    rw h.1 (field 4 (drop 8 xs) (omega (arith, length-drop 8 xs, room)))
vendor_field_at xs flags v (inr h) long = rw h.1 refl

-- the AVP that is read is at the front
pub begins_at : (xs : List ℕ) (code len start n : ℕ) (vendor : Option ℕ) → code ≡ big_from 0 4 xs → big_from 0 3 (drop 5 xs) ≡ len → n ≡ big_from 0 4 (drop 8 xs)
    → ((HasVendorFlag (get_or xs 4 0) × (start ≡ 12)) ⊎ ((¬ HasVendorFlag (get_or xs 4 0)) × (start ≡ 8)))
    → ((HasVendorFlag (get_or xs 4 0) × (vendor ≡ Some n)) ⊎ ((¬ HasVendorFlag (get_or xs 4 0)) × (vendor ≡ None)))
    → 8 ≤ length xs → start ≤ len → rounded len ≤ length xs
    → BeginsWith (record { code = code; flags = get_or xs 4 0; vendor = vendor; bytes = take (len - start) (drop start xs) }) xs (take (length xs - rounded len) (drop (rounded len) xs))
begins_at xs code len start n vendor is_code is_len is_n is_start is_vendor long fits whole =
    let agrees = vendor_agrees (get_or xs 4 0) n vendor is_vendor in
    let start_is : head_length vendor ≡ start = start_from (get_or xs 4 0) start is_start vendor agrees in
    let named : (HasVendorFlag (get_or xs 4 0) × (vendor ≡ Some (big_from 0 4 (drop 8 xs)))) ⊎ ((¬ HasVendorFlag (get_or xs 4 0)) × (vendor ≡ None)) = rw is_n at is_vendor in
    let head_fits : head_length vendor ≤ len = omega (arith, start_is, fits) in
    let head_room : head_length vendor ≤ length xs = omega (arith, head_fits, whole, rounded-le len) in
    let s = spelled xs vendor len (vendor_field_at xs (get_or xs 4 0) vendor named head_room) agrees is_len long head_fits whole in
    let moved : Spells (record { code = code; flags = get_or xs 4 0; vendor = vendor; bytes = take (len - start) (drop start xs) }) (take (rounded len) xs) = rw (is_code, ← start_is) s in
    (take (rounded len) xs, moved, sym (take-append-drop (rounded len) xs) ∙ ap (λ (r : List ℕ). take (rounded len) xs ++ r) (sym (take_rest xs (rounded len))))

-- two Vendor-IDs that the same flags and the same bytes give
pub same_vendor : (flags : ℕ) (a b : Option ℕ) (xs : List ℕ) → (HasVendorFlag flags ↔ IsSome a) → (HasVendorFlag flags ↔ IsSome b)
    → IsVendorField a (take (head_length a - 8) (drop 8 xs)) → IsVendorField b (take (head_length b - 8) (drop 8 xs)) → a ≡ b
same_vendor flags None None xs ea eb fa fb = refl
same_vendor flags None (Some n) xs ea eb fa fb = let p : IsSome {T = ℕ} None = ea.0 (eb.1 refl) in absurd cc
same_vendor flags (Some m) None xs ea eb fa fb = let p : IsSome {T = ℕ} None = eb.0 (ea.1 refl) in absurd cc
same_vendor flags (Some m) (Some n) xs ea eb fa fb = ap (λ (k : ℕ). Some k) (sym fa.value ∙ fb.value)

same_avp : (v w : PlainAvp) → v.code ≡ w.code → v.flags ≡ w.flags → v.vendor ≡ w.vendor → v.bytes ≡ w.bytes → v ≡ w
same_avp v w hc hf hv hb =
    ap (λ (c : ℕ). record { code = c; flags = v.flags; vendor = v.vendor; bytes = v.bytes }) hc
    ∙ ap (λ (f : ℕ). record { code = w.code; flags = f; vendor = v.vendor; bytes = v.bytes }) hf
    ∙ ap (λ (o : Option ℕ). record { code = w.code; flags = w.flags; vendor = o; bytes = v.bytes }) hv
    ∙ ap (λ (b : List ℕ). record { code = w.code; flags = w.flags; vendor = w.vendor; bytes = b }) hb

-- no spelling begins another, and bytes spell at most one AVP
pub one_spelling : (v w : PlainAvp) (a b x y : List ℕ) → Spells v a → Spells w b → a ++ x ≡ b ++ y → (v ≡ w) × (a ≡ b)
one_spelling v w a b x y s t e =
    let o = opened v a x s in
    let p : Opened w b (a ++ x) = subst (Opened w b) (sym e) (opened w b y t) in
    let flags : v.flags ≡ w.flags = sym o.flags ∙ p.flags in
    let len : avp_length v ≡ avp_length w = sym o.len ∙ p.len in
    let vendor : v.vendor ≡ w.vendor = same_vendor v.flags v.vendor w.vendor (a ++ x) s.agrees (rw flags t.agrees) o.vendor p.vendor in
    let count : length v.bytes ≡ length w.bytes = omega (arith, len, ap head_length vendor) in (
      same_avp v w (sym o.code ∙ p.code) flags vendor (o.bytes ∙ rw (count, vendor) refl ∙ sym p.bytes),
      o.front_is ∙ ap (λ (n : ℕ). take (rounded n) (a ++ x)) len ∙ sym p.front_is,
    )
